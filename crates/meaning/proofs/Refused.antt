-- Why a file that was read has no circuit: 17 and 1, in the words of its reading.
use Rattle.std.specs.Prelude.{Ok}
use mathlib.Core.Path.{◌≡◌, sym, ap, ◌∙◌}
use mathlib.Core.Bool.{true, false}
use mathlib.Core.Logic.{◌↔◌, ◌⊎◌, inl, inr, ⊎_elim}
use mathlib.Core.List.{List}
use Prim.Native.Nat.{ℕ, ◌-◌, ◌≤◌, ◌<◌}
use native.Mathlib.Omega.{arith}
use Rattle.circuit.specs.Sizes.{most_inputs, most_outputs, most_gates}
use Rattle.circuit.proofs.LineLaws.{place}
use Rattle.formula.specs.Names.{is_line}
use Rattle.grammar.specs.File.{Assignment, File}
use Rattle.sheet.specs.declared.Book.{Book}
use Rattle.sheet.specs.Sheet.{file_of}
use Rattle.drawing.specs.Outputs.{top_of}
use Rattle.drawing.specs.Numbering.{circuit_of}
use Rattle.drawing.specs.Drawing.{numbers_in, whole_book, circuit_in}
use Rattle.known.proofs.Words.{clash}
use Rattle.meaning.specs.Meaning.{operators_in, inputs_in, sets_output}
use Rattle.meaning.proofs.Outs.{Missing, Whole, whole, not-whole}
use Rattle.meaning.proofs.Circuits.{few-outputs}
use Rattle.meaning.proofs.Books.{few-names, count_is, inputs_are, few_inputs, sets_is, set_below, unset_above, highest_set}

module _ (s : List ℕ) (l : List Assignment) (file : File s l) (q : ℕ) (read : (file_of s).step ≡ Ok q) where
  abbrev b : Book
  b = (file_of s).book

  abbrev top : ℕ
  top = top_of (numbers_in s b) b.names.n

  -- ---- 17: no input is read, no output is set, or one is set and one below it is not

  -- what a file whose book is whole has
  module _ (ok : whole_book s b ≡ true) where
    parts : Whole s b (few-names s l file q read)
    parts = whole s b (few-names s l file q read) ok

    -- an input is read,
    pub whole_input : 0 < inputs_in s l
    whole_input = omega (arith, parts.input, inputs_are s l file q read)

    -- an output is set,
    pub whole_first : sets_output s l 0 ≡ true
    whole_first = sets_is s l file q read 0 ∙ ap is_line (parts.each 0 parts.output).is

    -- and with each output all below it
    pub whole_below : (j k : ℕ) → j < k → sets_output s l k ≡ true → sets_output s l j ≡ true
    whole_below j k h e = sets_is s l file q read j ∙ ap is_line (parts.each j (omega (arith, set_below s l file q read k e))).is

  -- what one whose book is not whole lacks
  pub broken : whole_book s b ≡ false
      → (inputs_in s l ≡ 0) ⊎ (((j : ℕ) → sets_output s l j ≡ false) ⊎ ((j : ℕ) × (k : ℕ) × (j < k) × (sets_output s l j ≡ false) × (sets_output s l k ≡ true)))
  broken e = ⊎_elim (λ h. inl (sym (inputs_are s l file q read) ∙ h)) (λ m. inr (⊎_elim (λ h. inl (λ j. unset_above s l file q read j (omega arith))) (λ m. inr (gap m)) m)) (not-whole s b (few-names s l file q read) e)
    where
      gap : Missing (numbers_in s b) b.names.lines b.names.n top 0 → (j : ℕ) × (k : ℕ) × (j < k) × (sets_output s l j ≡ false) × (sets_output s l k ≡ true)
      gap m =
          let j = m.at in
          let k = top - 1 in
          let none : sets_output s l j ≡ false = sets_is s l file q read j ∙ m.none in
          let some : sets_output s l k ≡ true = highest_set s l file q read k (omega (arith, m.within)) in
          let other : j ≡ k → ⊥ = λ e. clash (sets_output s l k) some (ap (sets_output s l) (sym e) ∙ none) in
          (j, k, ⊎_elim (λ h. h) (λ h. absurd (⊎_elim other (λ g. omega (arith, m.within)) h)) (place j k), none, some)

  -- ---- 1: more operators than 248, or output 32 is set

  -- what the sizes of the circuit of a whole book are
  pub record Sizes : Type 0 where
    pub inputs-least : 1 ≤ (circuit_in s b).n
    pub inputs_most : (circuit_in s b).n ≤ most_inputs
    pub outputs_least : 1 ≤ (circuit_in s b).m
    pub outputs_many : (most_outputs < (circuit_in s b).m) ↔ (sets_output s l most_outputs ≡ true)
    pub gates_many : (most_gates < (circuit_in s b).g) ↔ (most_gates < operators_in l)

  pub sizes : whole_book s b ≡ true → Sizes
  unfolding circuit_of
  sizes ok =
      let w = parts ok in
      let c = count_is s l file q read in
      let m = few-outputs top in
      record {
        inputs-least = omega (arith, w.input);
        inputs_most = few_inputs s l file q read;
        outputs_least = omega (arith, m, w.output);
        outputs_many = (λ h. sets_is s l file q read most_outputs ∙ ap is_line (w.each most_outputs (omega (arith, m))).is, λ e. omega (arith, m, set_below s l file q read most_outputs e));
        gates_many = (λ h. omega (arith, c), λ h. omega (arith, c));
      }
