-- What an assignment that was read is.
use mathlib.Core.Path.{◌≡◌, refl, ap}
use mathlib.Core.Bool.{Bool, true, false, cond}
use mathlib.Core.List.{List}
use Rattle.std.specs.Prelude.{Option, Some, None, Ok}
use Prim.Native.Nat.{ℕ, ◌+◌, ◌-◌, ◌≤◌, ◌<◌}
use native.Mathlib.Omega.{arith}
use borrow.Author.Tests.{leb-false, ltb-false}
use lib.Dec.{leb, ltb}
use Rattle.formula.specs.Sizes.{most_names, longest, nesting}
use Rattle.formula.specs.Text.{seen, in_class, word_end}
use Rattle.formula.specs.Tree.{Tree, Res, got, bad, unk}
use Rattle.formula.specs.Emit.{read_at, failed, emitted, gates_of, line_of}
use Rattle.formula.specs.Names.{look_up}
use Rattle.formula.specs.Levels.{or_of}
use Rattle.formula.specs.declared.Class.TheVariants.{Blank}
use Rattle.formula.specs.declared.Gates.{Gates}
use Rattle.formula.specs.declared.Why.TheVariants.{Text}
use Rattle.formula.proofs.Laws.{past-ge}
use Rattle.formula.proofs.Reading.{place_in, Past, name_past, or-past}
use Rattle.grammar.specs.File.{line_ends, sign_after}
use Rattle.sheet.specs.declared.Book.{Book}
use Rattle.sheet.specs.Sheet.{names_in, line_ended, targeted, assigning, assign_at}

-- the assignment at p, which goes on at z: a name that is not known yet, =, and a formula
pub record Made (s : List ℕ) (p z : ℕ) (b : Book) : Type 0 where
  pub tree : Tree
  pub room : b.names.n < most_names
  pub some : p < word_end s p
  pub short : word_end s p - p ≤ longest
  pub new : look_up s b.names.low b.names.high b.names.lines b.names.n p (word_end s p) ≡ None
  pub sign : seen s (sign_after s p) 61 ≡ true
  pub read : or_of s (names_in s b) nesting (sign_after s p + 1) ≡ got z tree
  pub ended : line_ends s z ≡ true
  pub is : assign_at s p b ≡ read_at (gates_of tree b.gates) (Ok (z, line_of tree b.gates))

-- a line that was read to its end
record Ended (s : List ℕ) (z : ℕ) (g : Gates) (r : Res) : Type 0 where
  tree : Tree
  read : r ≡ got z tree
  line : line_ends s z ≡ true
  is : line_ended s (emitted g r) ≡ read_at (gates_of tree g) (Ok (z, line_of tree g))

ended : (s : List ℕ) (z v : ℕ) (g : Gates) (r : Res) → (line_ended s (emitted g r)).out ≡ Ok (z, v) → Ended s z g r
unfolding line_ended
ended s z v g (bad q) e = let n : ◌≡◌ {A = ℕ} 0 1 = cc in absurd (omega arith)
ended s z v g (unk q) e = let n : ◌≡◌ {A = ℕ} 0 1 = cc in absurd (omega arith)
ended s z v g (got q t) e = by (line_ends s q) refl e
  where
    by : (w : Bool) → line_ends s q ≡ w → (cond w (read_at (gates_of t g) (Ok (q, line_of t g))) (failed (Text q))).out ≡ Ok (z, v) → Ended s z g (got q t)
    by true ew e = let k : q ≡ z = ap place_in e in record { tree = t; read = rw k; line = rw (← k) ew; is = rw (ew, k) }
    by false ew e = let n : ◌≡◌ {A = ℕ} 0 1 = cc in absurd (omega arith)

pub made : (s : List ℕ) (p z v : ℕ) (b : Book) → (assign_at s p b).out ≡ Ok (z, v) → Made s p z b
unfolding assigning
made s p z v b e =
    by (leb most_names b.names.n) refl (leb (word_end s p) p) refl (ltb longest (word_end s p - p)) refl (look_up s b.names.low b.names.high b.names.lines b.names.n p (word_end s p)) refl (seen s (sign_after s p) 61) refl e
  where
    by : (t : Bool) → leb most_names b.names.n ≡ t → (u : Bool) → leb (word_end s p) p ≡ u → (l : Bool) → ltb longest (word_end s p - p) ≡ l
        → (f : Option ℕ) → look_up s b.names.low b.names.high b.names.lines b.names.n p (word_end s p) ≡ f → (w : Bool) → seen s (sign_after s p) 61 ≡ w
        → (cond t (failed (Text p)) (cond u (failed (Text p)) (cond l (failed (Text (p + longest))) (targeted s (names_in s b) p b.gates f)))).out ≡ Ok (z, v) → Made s p z b
    by true et u eu v ev f ef w ew h = let n : ◌≡◌ {A = ℕ} 0 1 = cc in absurd (omega arith)
    by false et true eu v ev f ef w ew h = let n : ◌≡◌ {A = ℕ} 0 1 = cc in absurd (omega arith)
    by false et false eu true ev f ef w ew h = let n : ◌≡◌ {A = ℕ} 0 1 = cc in absurd (omega arith)
    by false et false eu false ev (Some x) ef w ew h = let n : ◌≡◌ {A = ℕ} 0 1 = cc in absurd (omega arith)
    by false et false eu false ev None ef false ew h = let k = rw ew at h in let n : ◌≡◌ {A = ℕ} 0 1 = cc in absurd (omega arith)
    by false et false eu false ev None ef true ew h =
        let x = ended s z v b.gates (or_of s (names_in s b) nesting (sign_after s p + 1)) (rw ew at h) in
        record {
          tree = x.tree;
          room = leb-false _ _ et;
          some = leb-false _ _ eu;
          short = ltb-false _ _ ev;
          new = ef;
          sign = ew;
          read = x.read;
          ended = x.line;
          is = rw (et, eu, ev, ef, ew) x.is;
        }

-- an assignment goes forward
pub made_fwd : (s : List ℕ) (p z : ℕ) (b : Book) → Made s p z b → p < z
made_fwd s p z b m = by (or_of s (names_in s b) nesting (sign_after s p + 1)) m.read (or-past s (names_in s b) (name_past s _) nesting (sign_after s p + 1))
  where
    by : (r : Res) → r ≡ got z m.tree → Past (sign_after s p + 1) r → p < z
    by (got q t) e h = let k : q ≡ z = cc in omega (arith, m.some, past-ge (in_class Blank) s (word_end s p))
    by (bad q) e h = let n : ◌≡◌ {A = ℕ} 0 1 = cc in absurd (omega arith)
    by (unk q) e h = let n : ◌≡◌ {A = ℕ} 0 1 = cc in absurd (omega arith)
