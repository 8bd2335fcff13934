-- The name that is refused (16) is the first at fault.
use Rattle.std.specs.Prelude.{Option, Some, None, Result, Ok, Err}
use mathlib.Core.Path.{◌≡◌, refl, sym, ap, subst, ◌∙◌}
use mathlib.Core.Bool.{Bool, true, false}
use mathlib.Core.Logic.{◌⊎◌, inr, ⊎_elim}
use mathlib.Core.List.{List}
use Prim.Native.Nat.{ℕ, suc, ◌+◌, ◌≤◌, ◌<◌}
use native.Mathlib.Numerals.{add-one}
use native.Mathlib.Omega.{arith}
use borrow.Author.Tests.{ltb-true, ltb-false}
use lib.Dec.{ltb}
use Rattle.formula.specs.Text.{in_class, word_end}
use Rattle.formula.specs.Names.{input_of, is_line}
use Rattle.formula.specs.declared.Class.TheVariants.{Letter}
use Rattle.formula.proofs.Laws.{past_in}
use Rattle.grammar.specs.File.{Good, Begins, Place}
use Rattle.sheet.specs.declared.Book.{Book}
use Rattle.formula.specs.declared.Why.{Why}
use Rattle.formula.specs.declared.Why.TheVariants.{Text, Name}
use Rattle.sheet.specs.Sheet.{file_of}
use Rattle.place.proofs.Place.{begins_less, text_place, name_place, name_first, good_read, place_text}
use Rattle.known.specs.Known.{Word, same_name, is_target, Known, Fault, NameFault}
use Rattle.known.proofs.Keys.{same_self}
use Rattle.known.proofs.Words.{clash, word_in, word_some}
use Rattle.known.proofs.Table.{Table, look_up_in, Entered, look_new, look_entered}
use Rattle.known.proofs.Naming.{Ends, file_ends}

module _ (s : List ℕ) where
  -- ---- what the reader says of the names

  -- 16 is given at the last byte of the first name at fault
  pub name_fault : (q : ℕ) → (file_of s).step ≡ Err (Name q) → NameFault s q
  name_fault q e =
      let f = subst (Ends s (file_of s).book) e (file_ends s) in
      record {
        at = f.at;
        fault = f.fault;
        ends = f.ends;
        first = λ p h x. f.clean p x.word h x;
        begins = subst (Begins s) (add-one q) (name_place s q e);
      }

  -- where 15 is given no name before it is at fault
  pub text_clean : (p : ℕ) → (file_of s).step ≡ Err (Text p) → (a : ℕ) → word_end s a ≤ p → Fault s a → ⊥
  text_clean p e a h x = subst (Ends s (file_of s).book) e (file_ends s) a x.word (omega (arith, word_some s a x.word)) x

  -- and none is in a text that is read
  pub read_clean : (q : ℕ) → (file_of s).step ≡ Ok q → (a : ℕ) → Fault s a → ⊥
  read_clean q e a x =
      let r = subst (Ends s (file_of s).book) e (file_ends s) in
      r.2 a x.word (omega (arith, r.0, word_in s a x.word)) x

  -- whose book has the names that its lines set
  pub read_table : (q : ℕ) → (file_of s).step ≡ Ok q → Table s q (file_of s).book
  read_table q e = (subst (Ends s (file_of s).book) e (file_ends s)).1

  -- each name of the text is an input, or an entry of that book, whose line is what the book knows of it
  pub read_entered : (q : ℕ) → (file_of s).step ≡ Ok q → (a : ℕ) → Word s a → input_of s a (word_end s a) ≡ None
      → (v : ℕ) × (look_up_in s (file_of s).book a ≡ Some v) × Entered s (file_of s).book a v
  read_entered q e a w plain = by (look_up_in s b a) refl
    where
      b : Book
      b = (file_of s).book

      t : Table s q b
      t = read_table q e

      before : (c : ℕ) → Word s c → c < q
      before c k = omega (arith, (subst (Ends s b) e (file_ends s)).0, word_in s c k)

      -- a name that is not found would be at fault
      lost : look_up_in s b a ≡ None → Fault s a
      lost f = record { word = w; wrong = by (is_target s a) refl }
        where
          new : (c : ℕ) → Word s c → is_target s c ≡ true → same_name s c a ≡ true → ⊥
          new c k g m =
              let l = t.listed c k g (before c k) in
              (look_new s q b t a w.short f).1 l.i l.within (subst (λ (x : ℕ). same_name s x a ≡ true) (sym l.at) m)

          by : (u : Bool) → is_target s a ≡ u → ((is_target s a ≡ true) × Known s a) ⊎ ((is_target s a ≡ false) × (Known s a → ⊥))
          by true g = absurd (new a w g (same_self s a))
          by false g = inr (g, ⊎_elim (λ i. clash false (sym (ap is_line plain) ∙ i) refl) (λ x. new x.at x.word x.target x.same))

      by : (f : Option ℕ) → look_up_in s b a ≡ f → (v : ℕ) × (look_up_in s b a ≡ Some v) × Entered s b a v
      by None f = absurd (read_clean q e a (lost f))
      by (Some v) f = (v, f, ⊎_elim (λ i. absurd (other v i)) (λ x. x) (look_entered s q b t a w.short v f))
        where
          other : (v : ℕ) → input_of s a (word_end s a) ≡ Some v → ⊥
          other v i = clash (is_line (input_of s a (word_end s a))) (ap is_line i) (ap is_line plain)

  -- ---- so it says just that

  -- there is one such place
  pub fault_unique : (p q : ℕ) → NameFault s p → NameFault s q → p ≡ q
  fault_unique p q x y = by (ltb x.at y.at) refl (ltb y.at x.at) refl
    where
      by : (t : Bool) → ltb x.at y.at ≡ t → (u : Bool) → ltb y.at x.at ≡ u → p ≡ q
      by true et u eu = absurd (y.first x.at (ltb-true _ _ et) x.fault)
      by false et true eu = absurd (x.first y.at (ltb-true _ _ eu) y.fault)
      by false et false eu =
          let z : x.at ≡ y.at = omega (arith, ltb-false x.at y.at et, ltb-false y.at x.at eu) in
          omega (arith, x.ends, y.ends, ap (word_end s) z)

  -- a good text with no name at fault is read,
  pub read_exactly : Good s → ((a : ℕ) → Fault s a → ⊥) → (q : ℕ) × ((file_of s).step ≡ Ok q)
  read_exactly g n = good_read s (λ q e. let x = name_fault q e in n x.at x.fault) g

  -- 15 is given at the place of any other, where no name before it is at fault,
  pub text_exactly : (p : ℕ) → Place s p → ((a : ℕ) → word_end s a ≤ p → Fault s a → ⊥) → (file_of s).step ≡ Err (Text p)
  text_exactly p x n = place_text s (λ q e. let y = name_fault q e in n y.at (omega (arith, y.ends, name_first s p q x e)) y.fault) p x

  -- and 16 at the first name at fault, where some good text begins with all up to it
  pub name_exactly : (q : ℕ) → NameFault s q → (file_of s).step ≡ Err (Name q)
  name_exactly q x = by (file_of s).step refl
    where
      later : (p : ℕ) → Place s p → (t : Bool) → ltb q p ≡ t → q < p
      later p y true e = ltb-true _ _ e
      later p y false e =
          let h = past_in (in_class Letter) s x.at (word_end s x.at) refl (word_some s x.at x.fault.word) in
          absurd (y.none (omega (arith, ltb-false q p e, x.ends)) (begins_less s (p + 1) (suc q) (omega (arith, ltb-false q p e)) x.begins))

      by : (w : Result ℕ Why) → (file_of s).step ≡ w → (file_of s).step ≡ Err (Name q)
      by (Ok p) e = absurd (read_clean p e x.at x.fault)
      by (Err (Text p)) e = absurd (text_clean p e x.at (omega (arith, x.ends, later p (text_place s p e) (ltb q p) refl)) x.fault)
      by (Err (Name p)) e = e ∙ ap (λ (i : ℕ). Err (Name i)) (fault_unique p q (name_fault p e) x)
