-- A text has one reading as a file at most.
use Rattle.std.specs.Prelude.{Some}
use mathlib.Core.Path.{◌≡◌, refl, sym, ap, subst, ◌∙◌}
use mathlib.Core.Bool.{Bool, true, false, cond}
use mathlib.Core.List.{List, ◌∷◌}
use Prim.Native.Nat.{ℕ, suc, ◌+◌, ◌<◌}
use native.Mathlib.Omega.{arith}
use borrow.Author.Tests.{ltb-true, ltb-false}
use lib.Dec.{ltb, eqb}
use lib.ListN.{length, get_or}
use Rattle.formula.specs.Sizes.{nesting}
use Rattle.formula.specs.Text.{seen, is_letter, in_class, skip_of, word_end}
use Rattle.formula.specs.Tree.{got}
use Rattle.formula.specs.Levels.{or_of}
use Rattle.formula.specs.declared.Class.TheVariants.{Blank, Letter}
use Rattle.formula.proofs.Laws.{past-ge, past_in, past_miss, seen_in}
use Rattle.formula.proofs.Reading.{Past, name_past, or-past}
use Rattle.grammar.specs.Grammar.{Ended}
use Rattle.grammar.specs.File.{any_name, line_ends, sign_after, Assignment, Assigns, Lines, over, blank, assigned, File}
use Rattle.grammar.proofs.Bytes.{seen_out, seen_is, byte_seen}
use Rattle.grammar.proofs.Unique.{got_is, past_got, ended_by, formula-found}

module _ (s : List ℕ) where
  pub any_past : (p : ℕ) → Past p (any_name s p)
  any_past = name_past s (λ p e. Some p)

  -- no operator stands where a line ends
  pub line-ended : (z : ℕ) → line_ends s z ≡ true → Ended s z
  unfolding line_ends
  line-ended z w = by (ltb z (length s)) refl w
    where
      by : (t : Bool) → ltb z (length s) ≡ t → cond t (eqb (get_or s z 0) 10) true ≡ true → Ended s z
      by false e w = let h = ltb-false z (length s) e in record { no_and = seen_out s z 38 h; no_xor = seen_out s z 94 h; no_or = seen_out s z 124 h }
      by true e w = ended_by s z 10 (byte_seen s z 10 true (ltb-true _ _ e) w) (omega arith) (λ e. absurd (omega arith))

  module _ (p z : ℕ) (a : Assignment) (w : Assigns s p z a) where
    -- the reader finds the formula of an assignment
    pub assigns_found : or_of s (any_name s) nesting (sign_after s p + 1) ≡ got z a.formula
    assigns_found = formula-found s (any_name s) any_past nesting (sign_after s p + 1) z a.formula w.formula (line-ended z w.line)

    -- it goes forward
    pub assigns_ahead : p < z
    assigns_ahead =
        let q = sign_after s p + 1 in
        omega (arith, w.some, past-ge (in_class Blank) s (word_end s p), past_got q z a.formula (or_of s (any_name s) nesting q) (or-past s (any_name s) any_past nesting q) assigns_found)

    -- an assignment begins within the text, and at no end of a line
    begins_in : p < length s
    begins_in = omega (arith, w.some, past_in (in_class Letter) s p (word_end s p) refl w.some)

    begins_line : seen s p 10 ≡ true → ⊥
    unfolding in_class is_letter
    begins_line e =
        let k : word_end s p ≡ p = past_miss (in_class Letter) s p (seen_in s p 10 e) (ap (in_class Letter) (seen_is s p 10 e)) in
        omega (arith, w.some)

  -- so one assignment begins at a place
  assigns_unique : (p z u : ℕ) (a b : Assignment) → Assigns s p z a → Assigns s p u b → (z ≡ u) × (a ≡ b)
  assigns_unique p z u a b v w =
      got_is (λ q t. (z ≡ q) × (a ≡ record { name = b.name; formula = t })) z u a.formula b.formula (sym (assigns_found p z a v) ∙ assigns_found p u b w)
      (refl, ap (λ (n : ℕ). record { name = n; formula = a.formula }) (v.name ∙ sym w.name))

  lines_unique : (c p : ℕ) (l m : List Assignment) → Lines s c p l → Lines s c p m → l ≡ m
  lines_unique c p l m (over e) (over f) = refl
  lines_unique c p l m (over e) (blank f y) = absurd (omega (arith, seen_in s (skip_of s p) 10 f))
  lines_unique c p l m (over e) (assigned {z = u} {a = b} n y r) = absurd (omega (arith, begins_in (skip_of s p) u b y))
  lines_unique c p l m (blank e x) (over f) = absurd (omega (arith, seen_in s (skip_of s p) 10 e))
  lines_unique c p l m (blank e x) (blank f y) = lines_unique c (skip_of s p + 1) l m x y
  lines_unique c p l m (blank e x) (assigned {z = u} {a = b} n y r) = absurd (begins_line (skip_of s p) u b y e)
  lines_unique c p l m (assigned {z = z} {a = a} k x q) (over f) = absurd (omega (arith, begins_in (skip_of s p) z a x))
  lines_unique c p l m (assigned {z = z} {a = a} k x q) (blank f y) = absurd (begins_line (skip_of s p) z a x f)
  lines_unique c p l m (assigned {z = z} {a = a} {l = t} k x q) (assigned {z = u} {a = b} {l = v} n y r) =
      let e = assigns_unique (skip_of s p) z u a b x y in
      ap (λ (a : Assignment). a ∷ t) e.1 ∙ ap (λ (t : List Assignment). b ∷ t) (lines_unique (suc c) u t v (subst (λ (i : ℕ). Lines s (suc c) i t) e.0 q) r)

-- two readings of one text as a file are equal
pub file_unique : (s : List ℕ) (l m : List Assignment) → File s l → File s m → l ≡ m
file_unique s l m = lines_unique s 0 0 l m
