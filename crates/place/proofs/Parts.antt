-- The parts of an assignment and the automaton.
use mathlib.Core.Path.{◌≡◌, refl, ap, ◌∙◌}
use mathlib.Core.Bool.{Bool, true, false, cond}
use mathlib.Core.List.{List}
use Prim.Native.Nat.{ℕ, suc, ◌+◌, ◌-◌, ◌≤◌, ◌<◌}
use native.Mathlib.Omega.{arith}
use borrow.Author.Tests.{lt-ltb, ltb-true, le-leb, lt-leb, eqb-true}
use lib.Dec.{leb, ltb, eqb}
use lib.ListN.{length, get_or}
use Rattle.formula.specs.Sizes.{most_names, longest, nesting}
use Rattle.formula.specs.Text.{seen, in_class, skip_of, word_end}
use Rattle.formula.specs.declared.Class.TheVariants.{Blank, Letter}
use Rattle.formula.proofs.Laws.{seen_in}
use Rattle.grammar.specs.File.{line_ends}
use Rattle.grammar.proofs.Bytes.{seen_byte, seen_is, past_stops, past-none, letter_not}
use Rattle.place.proofs.Automaton.{sign, after, fresh, want, word, then, dead, step}
use Rattle.place.proofs.Walk.{As, Stuck, stuck, moved, walk, name_as, name_long}
use Rattle.place.proofs.Levels.{cond_same, NoSpace, NoOp, no_more}

fresh_stays : (c b : ℕ) → in_class Blank b ≡ true → step (fresh c) b ≡ fresh c
unfolding step in_class
fresh_stays c b e = rw e

fresh_line : (c : ℕ) → step (fresh c) 10 ≡ fresh c
unfolding step
fresh_line c = refl

module _ (s : List ℕ) (c : ℕ) where
  -- spaces before an assignment or a line's end
  pub blanks : (p : ℕ) → As s p (fresh c) → As s (skip_of s p) (fresh c) × NoSpace s (skip_of s p)
  blanks p a = (walk s (in_class Blank) (fresh c) (fresh_stays c) refl p a, past_stops (in_class Blank) s p)

  pub line-over : (q : ℕ) → As s q (fresh c) → seen s q 10 ≡ true → As s (q + 1) (fresh c)
  line-over q a w = moved s q (fresh c) (fresh c) a (seen_in s q 10 w) (ap (step (fresh c)) (seen_is s q 10 w) ∙ fresh_line c) refl

  -- an assignment that begins at q
  module _ (q : ℕ) (a : As s q (fresh c)) where
    abbrev e : ℕ
    e = word_end s q

    begins : c < most_names → (b : ℕ) → in_class Letter b ≡ true → step (fresh c) b ≡ word 1 (sign c)
    unfolding step
    begins m b h = rw (letter_not b 32 h (omega arith), letter_not b 10 h (omega arith), lt-leb _ _ m, h)

    pub target : c < most_names → q < e → e - q ≤ longest → As s e (then (sign c))
    target m h k = name_as s (sign c) (fresh c) (begins m) q a h k

    pub long_target : c < most_names → longest < e - q → Stuck s (q + longest)
    long_target m k = name_long s (sign c) (fresh c) (begins m) q a k

    module _ (h : q < length s) (ns : NoSpace s q) (nl : seen s q 10 ≡ false) where
      pub too_many : most_names ≤ c → Stuck s q
      unfolding step in_class
      too_many m = stuck s q (fresh c) a (λ k. rw (ns h, seen_byte s q 10 false h nl, le-leb _ _ m)) (λ k. absurd (omega arith))

      pub no_target : e ≤ q → Stuck s q
      unfolding step in_class
      no_target m = stuck s q (fresh c) a (λ k. rw (ns h, seen_byte s q 10 false h nl, past-none (in_class Letter) s q m h) (cond_same (leb most_names c) dead)) (λ k. absurd (omega arith))

  -- the sign
  pub sign_on : (q : ℕ) → As s q (then (sign c)) → seen s q 61 ≡ true → As s (q + 1) (want c nesting 0)
  unfolding step
  sign_on q a w = moved s q (then (sign c)) (want c nesting 0) a (seen_in s q 61 w) (ap (step (then (sign c))) (seen_is s q 61 w)) refl

  pub sign_none : (q : ℕ) → As s q (then (sign c)) → NoSpace s q → seen s q 61 ≡ false → Stuck s q
  unfolding step in_class
  sign_none q a ns w = stuck s q (then (sign c)) a (λ h. rw (ns h, seen_byte s q 61 false h w)) (λ h. refl)

  -- the end of its line
  pub line_on : (z : ℕ) → As s z (then (after c nesting 0)) → line_ends s z ≡ true → As s z (fresh (suc c))
  unfolding step line_ends
  line_on z a w =
      record {
        within = a.within;
        alive = a.alive;
        same = a.same;
        goes = λ h. let k : get_or s z 0 ≡ 10 = eqb-true (get_or s z 0) 10 (rw (lt-ltb _ _ h) at w) in a.goes h ∙ rw k;
      }

  pub line-none : (z : ℕ) → As s z (then (after c nesting 0)) → NoOp s z → line_ends s z ≡ false → Stuck s z
  unfolding line_ends
  line-none z a w m = by (ltb z (length s)) refl m
    where
      by : (t : Bool) → ltb z (length s) ≡ t → cond t (eqb (get_or s z 0) 10) true ≡ false → Stuck s z
      by true h k =
          stuck s z (then (after c nesting 0)) a (λ m. no_more s c nesting 0 z w m (rw k (cond_same (eqb (get_or s z 0) 41) dead))) (λ m. absurd (omega (arith, ltb-true z (length s) h)))
      by false h k = let n : ◌≡◌ {A = ℕ} 0 1 = cc in absurd (omega arith)
