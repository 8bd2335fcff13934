-- The circuit of a file gives what the file says, on each input value and at each output; and what it is made of.
use Rattle.std.specs.Prelude.{Ok}
use mathlib.Core.Path.{◌≡◌, sym, ap, subst, ◌∙◌}
use mathlib.Core.Bool.{true, false}
use mathlib.Core.Logic.{⊎_elim}
use mathlib.Core.List.{List, [], map}
use Prim.Native.Nat.{ℕ, suc, ◌+◌, ◌≤◌, ◌<◌}
use native.Mathlib.Omega.{arith}
use borrow.Author.Tests.{eqb-true, eq-eqb, lt-ltb, le-ltb}
use lib.Dec.{ltb, eqb}
use lib.ListN.{length, get_or}
use Rattle.circuit.specs.Rules.{done}
use Rattle.circuit.specs.Sizes.{most_inputs, most_outputs, most_gates}
use Rattle.circuit.specs.Lines.{Gate, upto, values, output_on}
use Rattle.circuit.specs.Structs.{gate_of, out_of, listed}
use Rattle.circuit.specs.Rules.{gate_answer, listing_answer}
use Rattle.circuit.proofs.LineLaws.{place}
use Rattle.circuit.proofs.Upto.{upto-length, map-upto}
use Rattle.formula.specs.Names.{no_names, is_line}
use Rattle.formula.specs.Emit.{no_gates}
use Rattle.grammar.specs.File.{Assignment, File}
use Rattle.sheet.specs.declared.Book.{Book}
use Rattle.sheet.specs.Sheet.{no_book, file_of}
use Rattle.drawing.specs.Outputs.{output_no, top_of}
use Rattle.drawing.specs.Numbering.{circuit_of}
use Rattle.drawing.specs.Drawing.{numbers_in, whole_book, circuit_in}
use Rattle.known.proofs.Keys.{alike_same}
use Rattle.meaning.specs.Meaning.{after, file_says, operators_in, kinds_in, sets_output, MadeOf}
use Rattle.meaning.proofs.Values.{Fit, numbered, value_at}
use Rattle.meaning.proofs.Course.{output_search, Alone, Course, course, stands_none}
use Rattle.meaning.proofs.Decimals.{output_alike}
use Rattle.meaning.proofs.Outs.{There, shows, Whole, whole}
use Rattle.meaning.proofs.Books.{leads, few-names, count_is, inputs_are, few_inputs, sets_is, unset_above}
use Rattle.meaning.proofs.Circuits.{listed_output, listed_done, few-outputs, gate_is, out_is, out_there}

-- two names of one output are the same
output_alone : (s : List ℕ) (j : ℕ) → Alone s (λ (p : ℕ). eqb (output_no s p) (suc j))
output_alone s j p q e f = alike_same s p q (output_alike s p q j (eqb-true (output_no s p) (suc j) e) (eqb-true (output_no s q) (suc j) f))

-- ---- a file that was read, and its reading

module _ (s : List ℕ) (l : List Assignment) (file : File s l) (q : ℕ) (read : (file_of s).step ≡ Ok q) where
  abbrev b : Book
  b = (file_of s).book

  module _ (fits : b.gates.count ≤ most_gates) where
    few_operators : operators_in l ≤ most_gates
    few_operators = omega (arith, count_is s l file q read)

    few : b.gates.high ≤ most_inputs
    few = few_inputs s l file q read

    -- from the first assignment to the last, on input value x
    run : (x : ℕ) → Course s b.gates.high few x no_book b [] l
    unfolding no_book no_names no_gates
    run x =
        course s b.gates.high few x no_book b [] l (leads s l file q read) (stands_none s b.gates.high few x)
        (omega (arith, few_operators)) (omega (arith, inputs_are s l file q read))

    -- the gates are the operators in the order in which they are worked
    pub kinds_are : map (λ (q : Gate). q.kind) (listed (circuit_in s b)).gates ≡ kinds_in l
    unfolding circuit_of no_book no_names no_gates upto
    kinds_are = map-upto (λ (q : Gate). q.kind) (gate_of (circuit_in s b)) b.gates.count ∙ (run 0).grown.kinds

    -- one for each
    pub operators_are : length (listed (circuit_in s b)).gates ≡ operators_in l
    unfolding circuit_of
    operators_are = upto-length (gate_of (circuit_in s b)) b.gates.count ∙ omega (arith, count_is s l file q read)

    -- ---- whose outputs are whole

    module _ (ok : whole_book s b ≡ true) (few-outs : top_of (numbers_in s b) b.names.n ≤ most_outputs) where
      abbrev top : ℕ
      top = top_of (numbers_in s b) b.names.n

      parts : Whole s b (few-names s l file q read)
      parts = whole s b (few-names s l file q read) ok

      pub outs_is : (circuit_in s b).m ≡ top
      unfolding circuit_of
      outs_is = few-outputs top ∙ omega arith

      -- output j: its row, and the line
      shown : (j : ℕ) → j < top → There (numbers_in s b) b.names.lines b.names.n j
      shown = parts.each

      out_fits : (j : ℕ) (h : j < top) → Fit b.gates (shown j h).line
      out_fits j h =
          let w = shows s b (few-names s l file q read) j (shown j h).line (shown j h).is in
          subst (Fit b.gates) w.line ((run 0).stands.fits w.row w.within)

      -- the circuit's output gives what the file says of it
      pub circuit_says : (x j : ℕ) → j < top → output_on (listed (circuit_in s b)) x j ≡ file_says s l x j
      unfolding circuit_of
      circuit_says x j h =
          let n = b.gates.high in
          let v = (shown j h).line in
          let w = shows s b (few-names s l file q read) j v (shown j h).is in
          let c = run x in
          listed_output (circuit_in s b) (numbered n b.gates) (gate_is s b few fits (run 0).grown.sound) x j (omega (arith, outs_is))
          ∙ ap (λ (i : ℕ). get_or (values x n (numbered n b.gates) b.gates.count) i 0) (out_is s b few fits (run 0).grown.sound j v (omega arith) (shown j h).is (out_fits j h))
          ∙ ap (value_at n few x b.gates) (sym w.line)
          ∙ sym (c.stands.holds (λ (p : ℕ). eqb (output_no s p) (suc j)) (output_alone s j) w.row w.within (eq-eqb _ _ w.number))
          ∙ sym (output_search s (after s x [] l) j)

      -- the circuit is refused for nothing
      pub opens_listing : listing_answer false (listed (circuit_in s b)) ≡ done
      unfolding circuit_of
      opens_listing =
          let sound = (run 0).grown.sound in
          listed_done (circuit_in s b) (record { n_least = omega (arith, parts.input); n_most = few; m_least = omega (arith, outs_is, parts.output); m_most = omega (arith, outs_is); g_most = fits })
          (λ k h. ap (gate_answer false (b.gates.high + k)) (gate_is s b few fits sound k h) ∙ sound k h)
          (λ j h. let i : j < top = omega (arith, outs_is) in out_there s b few fits sound j (shown j i).line (omega arith) (shown j i).is (out_fits j i))

      -- the outputs are those that are set, each below the number of them
      pub outputs_are : (j : ℕ) → sets_output s l j ≡ ltb j (length (listed (circuit_in s b)).outs)
      outputs_are j =
          rw (upto-length (out_of (circuit_in s b)) (circuit_in s b).m, outs_is)
          (⊎_elim (λ h. sets_is s l file q read j ∙ ap is_line (shown j h).is ∙ sym (lt-ltb _ _ h)) (λ m. unset (⊎_elim (λ e. omega arith) (λ h. omega arith) m)) (place j top))
        where
          unset : top ≤ j → sets_output s l j ≡ ltb j top
          unset h = unset_above s l file q read j h ∙ sym (le-ltb _ _ h)

      -- the circuit is made of what the file is made of
      pub circuit_made : MadeOf s l (listed (circuit_in s b))
      unfolding circuit_of
      circuit_made = record { inputs = inputs_are s l file q read; gates = operators_are; kinds = kinds_are; outs = outputs_are }
