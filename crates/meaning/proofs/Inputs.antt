-- How many inputs are read: one more than the highest that a formula names, also where there are more operators than gates.
use Rattle.std.specs.Prelude.{Option, Some, None}
use mathlib.Core.Path.{◌≡◌, refl, sym, ap, subst, ◌∙◌}
use mathlib.Core.Bool.{Bool, true, false, cond}
use mathlib.Core.Logic.{◌⊎◌, inl, inr, ⊎_elim}
use mathlib.Core.List.{List, [], ◌∷◌}
use Prim.Native.Nat.{ℕ, ◌+◌, ◌-◌, ◌≤◌, ◌<◌, max}
use native.Mathlib.Omega.{arith}
use borrow.Author.Tests.{leb-true}
use lib.Dec.{leb, ltb, eqb}
use lib.ListN.{get_or}
use Rattle.circuit.specs.Sizes.{most_inputs, most_gates}
use Rattle.formula.specs.Sizes.{longest}
use Rattle.formula.specs.Text.{seen, word_end}
use Rattle.formula.specs.Tree.{Tree, leaf, neg, bin, kind_no}
use Rattle.formula.specs.Names.{input_of}
use Rattle.formula.specs.Emit.{new_line, gates_of, line_of}
use Rattle.formula.specs.declared.Gates.{Gates}
use Rattle.grammar.specs.File.{Assignment}
use Rattle.sheet.specs.declared.Book.{Book}
use Rattle.meaning.specs.Meaning.{input_count, inputs_read, inputs_in}
use Rattle.meaning.proofs.Twins.{Lined, name, not, both}
use Rattle.meaning.proofs.Rows.{look_for, with_name, Leads, done, then}
use Rattle.meaning.proofs.Growth.{add_high, invert_high, use_is, high_input, high_known}
use Rattle.meaning.proofs.Tables.{Row, Each, each_set, known_row}

-- ---- inputs are x0 to x7

pub input_low : (s : List ℕ) (p e v : ℕ) → input_of s p e ≡ Some v → v < most_inputs
unfolding input_of
input_low s p e v h = by (eqb (e - p) 2) (seen s p 120) (leb 48 (get_or s (p + 1) 0)) (leb (get_or s (p + 1) 0) 55) refl h
  where
    by : (a b c d : Bool) → leb (get_or s (p + 1) 0) 55 ≡ d → cond a (cond b (cond c (cond d (Some (get_or s (p + 1) 0 - 48)) None) None) None) None ≡ Some v → v < most_inputs
    by true true true true e h = let k : get_or s (p + 1) 0 - 48 ≡ v = cc in omega (arith, leb-true (get_or s (p + 1) 0) 55 e)
    by true true true false e h = let z : ◌≡◌ {A = ℕ} 0 1 = cc in absurd (omega arith)
    by true true false d e h = let z : ◌≡◌ {A = ℕ} 0 1 = cc in absurd (omega arith)
    by true false c d e h = let z : ◌≡◌ {A = ℕ} 0 1 = cc in absurd (omega arith)
    by false b c d e h = let z : ◌≡◌ {A = ℕ} 0 1 = cc in absurd (omega arith)

read_few : (s : List ℕ) (u : Tree) → inputs_read s u ≤ most_inputs
read_few s (leaf p) = by (input_of s p (word_end s p)) refl
  where
    by : (f : Option ℕ) → input_of s p (word_end s p) ≡ f → input_count f ≤ most_inputs
    by (Some v) e = omega (arith, input_low s p (word_end s p) v e)
    by None e = omega arith
read_few s (neg u) = read_few s u
read_few s (bin o a b) = omega (arith, read_few s a, read_few s b)

pub inputs_few : (s : List ℕ) (l : List Assignment) → inputs_in s l ≤ most_inputs
unfolding inputs_in
inputs_few s [] = omega arith
inputs_few s (a ∷ l) = omega (arith, read_few s a.formula, inputs_few s l)

-- ---- lines

-- an input is counted among h, and the line v is that of a gate, or of an input that is counted. The line of a gate for which
-- there is no room is 0, as that of x0
abbrev Counted : ℕ → ℕ → Type 0
Counted h v = (0 < h) × (v < most_inputs → v < h)

new_counted : (h k : ℕ) → 0 < h → Counted h (new_line k)
unfolding new_line
new_counted h k e = (e, λ l. by (ltb k most_gates) l)
  where
    by : (t : Bool) → cond t (k + most_inputs) 0 < most_inputs → cond t (k + most_inputs) 0 < h
    by true l = absurd (omega arith)
    by false l = e

-- ---- a formula

module _ (s : List ℕ) (look : ℕ → ℕ → Option ℕ) where
  -- each name that is known is an input, or was set and has a line that is counted among h
  abbrev Knows : ℕ → Type 0
  Knows h = (a v : ℕ) → word_end s a - a ≤ longest → look a (word_end s a) ≡ Some v → (input_of s a (word_end s a) ≡ Some v) ⊎ ((input_of s a (word_end s a) ≡ None) × Counted h v)

  -- the inputs that are read after a formula u, whose lines are those of t, are those before and its own
  record Reads (u t : Tree) (g : Gates) : Type 0 where
    high : (gates_of t g).high ≡ max g.high (inputs_read s u)
    line : Counted (gates_of t g).high (line_of t g)

  leaf_reads : (a v : ℕ) (g : Gates) → (input_of s a (word_end s a) ≡ Some v) ⊎ ((input_of s a (word_end s a) ≡ None) × Counted g.high v) → Reads (leaf a) (leaf v) g
  leaf_reads a v g (inl i) =
      let e = ap input_count i in
      let h = ap (λ (g : Gates). g.high) (use_is g v) ∙ high_input g.high v (input_low s a (word_end s a) v i) in
      record { high = omega (arith, h, e); line = (omega (arith, h), λ l. omega (arith, h)) }
  leaf_reads a v g (inr i) =
      let e = ap input_count i.0 in
      let h = ap (λ (g : Gates). g.high) (use_is g v) ∙ high_known g.high v i.1.1 in
      record { high = omega (arith, h, e); line = (omega (arith, h, i.1.0), λ l. omega (arith, h, i.1.1 l)) }

  later : (h k : ℕ) → h ≤ k → Knows h → Knows k
  later h k m w a v l e = ⊎_elim inl (λ i. inr (i.0, (omega (arith, i.1.0), λ n. omega (arith, i.1.1 n)))) (w a v l e)

  reads : (u t : Tree) (g : Gates) → Lined s look u t → Knows g.high → Reads u t g
  reads u t g (name {a = a} {v = v} l e) k = leaf_reads a v g (k a v l e)
  reads u t g (not {u = w} {t = z} l) k =
      let m = reads w z g l k in
      let h = invert_high (gates_of z g) (line_of z g) in
      record { high = h ∙ m.high; line = new_counted _ (gates_of z g).count (omega (arith, h, m.line.0)) }
  reads u t g (both {o = o} {a = a} {b = b} {c = c} {d = d} l r) k =
      let m = reads a c g l k in
      let f = gates_of c g in
      let n = reads b d f r (later g.high f.high (omega (arith, m.high)) k) in
      let h = add_high (gates_of d f) (kind_no o) (line_of c g) (line_of d f) in
      record { high = omega (arith, h, n.high, m.high); line = new_counted _ (gates_of d f).count (omega (arith, h, n.line.0)) }

-- ---- all assignments

-- as many inputs are read in the end as before and in the assignments
pub leads_inputs : (s : List ℕ) (b e : Book) (l : List Assignment) → Leads s b l e → Each (λ (r : Row). Counted b.gates.high r.line) b
    → e.gates.high ≡ max b.gates.high (inputs_in s l)
unfolding inputs_in
leads_inputs s b e l (done) w = omega arith
leads_inputs s b e l (then {a = a} {l = k} t new i f) w =
    let m = reads s (look_for s b) a.formula t b.gates i knows in
    let g = gates_of t b.gates in
    let old : Each (λ (r : Row). Counted g.high r.line) b = λ j h. let c = w j h in (omega (arith, c.0, m.high), λ n. omega (arith, c.1 n, m.high)) in
    leads_inputs s (with_name s b a.name t) e k f
    (each_set s b new.table.sized new.room g a.name (line_of t b.gates) (λ (r : Row). Counted g.high r.line) old m.line)
    ∙ omega (arith, m.high)
  where
    knows : Knows s (look_for s b) b.gates.high
    knows a v short e = ⊎_elim inl (λ x. inr (x.none, subst (Counted b.gates.high) (sym x.entered.line) (w x.entered.i x.entered.within))) (known_row s new.line b new.table a v short e)
