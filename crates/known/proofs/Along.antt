-- What the lines and assignments of a file keep holds at its end.
use Rattle.std.specs.Prelude.{Ok, Err}
use mathlib.Core.Path.{◌≡◌, refl, sym, ap, subst, ◌∙◌}
use mathlib.Core.Bool.{Bool, true, false, cond}
use mathlib.Core.List.{List}
use Prim.Native.Nat.{ℕ, zero, suc, ◌+◌, ◌-◌, ◌≤◌, ◌<◌}
use native.Mathlib.Omega.{arith}
use borrow.Author.Tests.{leb-true, leb-false}
use lib.Dec.{leb, eqb}
use lib.ListN.{length, get_or}
use Rattle.formula.specs.Text.{seen, in_class, skip_of}
use Rattle.formula.specs.Emit.{Out, Read, gates_of, line_of}
use Rattle.formula.specs.declared.Class.TheVariants.{Blank}
use Rattle.formula.specs.declared.Gates.{Gates}
use Rattle.formula.proofs.Laws.{past-ge}
use Rattle.formula.proofs.Reading.{line_in}
use Rattle.grammar.proofs.Bytes.{byte_seen}
use Rattle.sheet.specs.declared.Book.{Book}
use Rattle.formula.specs.declared.Why.{Why}
use Rattle.sheet.specs.Sheet.{no_book, set_name, assign_at, Sheet, refused, onward, filed, file_of}
use Rattle.sheet.proofs.Shape.{Made, made, made_fwd}

-- the book after an assignment that was read
abbrev pub made_book : (s : List ℕ) (p z : ℕ) (b : Book) → Made s p z b → Book
made_book s p z b m = set_name s b (gates_of m.tree b.gates) p (line_of m.tree b.gates)

-- a line that is not blank begins at q
pub record Starts (s : List ℕ) (q : ℕ) : Type 0 where
  pub within : q < length s
  pub no_line : seen s q 10 ≡ false

-- P holds before each line, Q is to hold of the file
module _ (s : List ℕ) (P : ℕ → Book → Type 0) (Q : Sheet → Type 0)
    (over : (p : ℕ) (b : Book) → P p b → length s ≤ skip_of s p → Q (record { book = b; step = Ok (skip_of s p) }))
    (blank : (p : ℕ) (b : Book) → P p b → seen s (skip_of s p) 10 ≡ true → P (skip_of s p + 1) b)
    (assigned : (p z : ℕ) (b : Book) → P p b → Starts s (skip_of s p) → (m : Made s (skip_of s p) z b) → P z (made_book s (skip_of s p) z b m))
    (stopped : (p : ℕ) (b : Book) (w : Why) → P p b → Starts s (skip_of s p) → (assign_at s (skip_of s p) b).out ≡ Err w → Q (refused w)) where
  filed_by : (f p : ℕ) (b : Book) → length s - p < f → P p b → Q (filed s f p b)
  unfolding filed
  filed_by zero p b m h = absurd (omega arith)
  filed_by (suc f) p b m h = by (leb (length s) q) refl (eqb (get_or s q 0) 10) refl (filed_by f)
    where
      q : ℕ
      q = skip_of s p

      a : Read
      a = assign_at s q b

      Rest : Type 0
      Rest = (p : ℕ) (b : Book) → length s - p < f → P p b → Q (filed s f p b)

      on : Rest → Starts s q → (w : Out) → a.out ≡ w → Q (onward (λ z c. filed s f z c) s q b a.gates w)
      on ih st (Err w) e = stopped p b w h st e
      on ih st (Ok x) e =
          let k = made s q x.0 x.1 b e in
          let n = assigned p x.0 b h st k in
          let g : a.gates ≡ gates_of k.tree b.gates = ap (λ (r : Read). r.gates) k.is in
          let v : x.1 ≡ line_of k.tree b.gates = ap line_in (sym e ∙ ap (λ (r : Read). r.out) k.is) in
          subst (λ (g : Gates). Q (filed s f x.0 (set_name s b g q x.1))) (sym g)
          (subst (λ (v : ℕ). Q (filed s f x.0 (set_name s b (gates_of k.tree b.gates) q v))) (sym v)
          (ih x.0 (made_book s q x.0 b k) (omega (arith, made_fwd s q x.0 b k, past-ge (in_class Blank) s p, st.within)) n))

      by : (t : Bool) → leb (length s) q ≡ t → (u : Bool) → eqb (get_or s q 0) 10 ≡ u → Rest
          → Q (cond t (record { book = b; step = Ok q }) (cond u (filed s f (q + 1) b) (onward (λ z c. filed s f z c) s q b a.gates a.out)))
      by true et u eu ih = over p b h (leb-true _ _ et)
      by false et true eu ih = let k = leb-false (length s) q et in ih (q + 1) b (omega (arith, past-ge (in_class Blank) s p)) (blank p b h (byte_seen s q 10 true k eu))
      by false et false eu ih = let k = leb-false (length s) q et in on ih (record { within = k; no_line = byte_seen s q 10 false k eu }) a.out refl

  pub file_by : P 0 no_book → Q (file_of s)
  file_by h = filed_by (suc (length s)) 0 no_book (omega arith) h
