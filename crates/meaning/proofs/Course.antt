-- From assignment to assignment: the line of each name that was set holds what its formula said of the names before it.
use Rattle.std.specs.Prelude.{Option, Some}
use mathlib.Core.Path.{◌≡◌, refl, sym, ap, subst, ◌∙◌}
use mathlib.Core.Bool.{Bool, true, false, cond}
use mathlib.Core.Logic.{◌⊎◌, inl, inr}
use mathlib.Core.List.{List, [], ◌∷◌}
use Prim.Native.Nat.{ℕ, suc, ◌+◌, ◌≤◌, min}
use native.Mathlib.Omega.{arith}
use lib.Dec.{eqb}
use Rattle.circuit.specs.Sizes.{most_inputs, most_gates}
use Rattle.formula.specs.Text.{word_end}
use Rattle.formula.specs.Tree.{Tree}
use Rattle.formula.specs.Names.{no_names, input_of}
use Rattle.formula.specs.Emit.{no_gates, gates_of, line_of}
use Rattle.grammar.specs.File.{Assignment}
use Rattle.sheet.specs.declared.Book.{Book}
use Rattle.sheet.specs.Sheet.{no_book}
use Rattle.drawing.specs.Outputs.{output_no}
use Rattle.known.specs.Known.{same_name}
use Rattle.known.proofs.Keys.{same_meet}
use Rattle.known.proofs.Table.{Table, look_new}
use Rattle.meaning.specs.Meaning.{says, Held, value_in, input_or, name_on, after, output_in, operators_in, inputs_read, kinds_in, inputs_in}
use Rattle.meaning.proofs.Rows.{look_for, New, with_name, Leads, done, then}
use Rattle.meaning.proofs.Growth.{none_sized}
use Rattle.meaning.proofs.Values.{Fit, Ready, value_at, After, fit_after, after_trans, after_none, ready_after}
use Rattle.meaning.proofs.Formulas.{counts, Input, Set, Knows, Means, means}
use Rattle.meaning.proofs.Tables.{Row, row_at, Each, each_set, SetRow, known_row}
use Rattle.meaning.proofs.Inputs.{input_low}

-- ---- how many gates there are in the end

pub leads_count : (s : List ℕ) (b e : Book) (l : List Assignment) → Leads s b l e → b.gates.count ≤ most_gates + 1 → e.gates.count ≡ min (most_gates + 1) (b.gates.count + operators_in l)
unfolding operators_in
leads_count s b e l (done) h = omega arith
leads_count s b e l (then {a = a} {l = m} t w i r) h =
    let k = counts s (look_for s b) a.formula t b.gates i h in
    leads_count s (with_name s b a.name t) e m r (omega arith) ∙ omega arith

-- ---- names that were set

-- the value of the last that passes a test
abbrev pub search : (ℕ → Bool) → List Held → ℕ
search test [] = 0
search test (h ∷ held) = cond (test h.name) h.value (search test held)

module _ (s : List ℕ) where
  value_search : (held : List Held) (a : ℕ) → value_in s held a ≡ search (λ (p : ℕ). same_name s p a) held
  value_search [] a = refl
  value_search (h ∷ held) a = ap (cond (same_name s h.name a) h.value) (value_search held a)

  pub output_search : (held : List Held) (j : ℕ) → output_in s held j ≡ search (λ (p : ℕ). eqb (output_no s p) (suc j)) held
  output_search [] j = refl
  output_search (h ∷ held) j = ap (cond (eqb (output_no s h.name) (suc j)) h.value) (output_search held j)

  -- names that pass are the same
  abbrev pub Alone : (ℕ → Bool) → Type 0
  Alone test = (p q : ℕ) → test p ≡ true → test q ≡ true → same_name s p q ≡ true

  module _ (n : ℕ) (few : n ≤ most_inputs) (x : ℕ) where
    -- the book b, where `held` has the names that were set, the last one first
    pub record Stands (b : Book) (held : List Held) : Type 0 where
      pub ready : Ready n few b.gates
      pub fits : Each (λ (r : Row). Fit b.gates r.line) b
      pub holds : (test : ℕ → Bool) → Alone test → Each (λ (r : Row). test r.start ≡ true → search test held ≡ value_at n few x b.gates r.line) b

    pub stands_none : Stands no_book []
    unfolding no_book no_names no_gates
    stands_none = record { ready = record { sized = none_sized; sound = λ k h. absurd (omega arith); up = omega arith }; fits = λ i h. absurd (omega arith); holds = λ test w i h. absurd (omega arith) }

    -- each name that is known has its value
    knows : (b : Book) (held : List Held) (p : ℕ) → Stands b held → Table s p b → Knows s (look_for s b) n few x (name_on s x held) b.gates
    knows b held p w t a v short e = by (known_row s p b t a v short e)
      where
        by : (input_of s a (word_end s a) ≡ Some v) ⊎ SetRow s b a v → Input s (look_for s b) n few x (name_on s x held) a v ⊎ Set s (look_for s b) n few x (name_on s x held) b.gates a v
        by (inl i) = inl (record { is = i; low = input_low s a (word_end s a) v i; value = ap (λ (f : Option ℕ). input_or f x (value_in s held a)) (sym i) })
        by (inr k) =
            let r = k.entered in
            let y = w.holds (λ (p : ℕ). same_name s p a) (λ p q e f. same_meet s p q a e f) r.i r.within r.same in
            inr (record {
              none = k.none;
              fit = subst (Fit b.gates) (sym r.line) (w.fits r.i r.within);
              value = ap (value_at n few x b.gates) r.line ∙ sym y ∙ sym (value_search held a) ∙ ap (λ (f : Option ℕ). input_or f x (value_in s held a)) (sym k.none);
            })

    -- ---- one assignment more

    module _ (b : Book) (held : List Held) (w : Stands b held) (p : ℕ) (u t : Tree) (new : New s b p) (m : Means s (look_for s b) n few x (name_on s x held) u t b.gates) (r : inputs_read s u ≤ n) where
      abbrev now : List Held
      now = record { name = p; value = says (name_on s x held) u } ∷ held

      -- a name that was set before keeps its value
      old : (test : ℕ → Bool) → Alone test → Each (λ (r : Row). test r.start ≡ true → search test now ≡ value_at n few x (gates_of t b.gates) r.line) b
      old test alone i h e = by (test p) refl
        where
          by : (f : Bool) → test p ≡ f → search test now ≡ value_at n few x (gates_of t b.gates) (row_at b i).line
          by true k = absurd ((look_new s new.line b new.table p (omega (arith, new.short)) new.unknown).1 i h (alone (row_at b i).start p e k))
          by false k = ap (λ (f : Bool). cond f (says (name_on s x held) u) (search test held)) k ∙ w.holds test alone i h e ∙ sym (m.after.kept (row_at b i).line (w.fits i h))

      pub stands_set : Stands (with_name s b p t) now
      stands_set =
          let set = each_set s b new.table.sized new.room (gates_of t b.gates) p (line_of t b.gates) in
          record {
            ready = ready_after n few x b.gates (gates_of t b.gates) _ _ _ w.ready r m.after;
            fits = set (λ (r : Row). Fit (gates_of t b.gates) r.line) (λ i h. fit_after n few x b.gates (gates_of t b.gates) _ _ _ (row_at b i).line m.after (w.fits i h)) m.line;
            holds = λ test alone. set (λ (r : Row). test r.start ≡ true → search test now ≡ value_at n few x (gates_of t b.gates) r.line) (old test alone)
                (λ e. ap (λ (f : Bool). cond f (says (name_on s x held) u) (search test held)) e ∙ sym m.value);
          }

    -- ---- all assignments

    pub record Course (b e : Book) (held : List Held) (l : List Assignment) : Type 0 where
      pub stands : Stands e (after s x held l)
      pub grown : After n few x b.gates e.gates (operators_in l) (inputs_in s l) (kinds_in l)

    pub course : (b e : Book) (held : List Held) (l : List Assignment) → Leads s b l e → Stands b held → b.gates.count + operators_in l ≤ most_gates → inputs_in s l ≤ n → Course b e held l
    unfolding after operators_in inputs_in kinds_in
    course b e held l (done) w c r = record { stands = w; grown = after_none n few x b.gates w.ready }
    course b e held l (then {a = a} {l = k} t new i f) w c r =
        let u = a.formula in
        let m = means s (look_for s b) n few x (name_on s x held) u t b.gates i w.ready (knows b held new.line w new.table) (omega arith) (omega arith) in
        let next = course (with_name s b a.name t) e (record { name = a.name; value = says (name_on s x held) u } ∷ held) k f
        (stands_set b held w a.name u t new m (omega arith)) (omega (arith, m.after.count)) (omega arith) in
        record { stands = next.stands; grown = after_trans n few x b.gates (gates_of t b.gates) e.gates _ _ _ _ _ _ m.after next.grown }
