-- Laws of the places in a line: bytes that pass a test, comparing, the end of a line, words. Assumes nothing.
use mathlib.Core.Path.{◌≡◌, refl, ap, ◌∙◌, sym}
use mathlib.Core.Bool.{Bool, true, false, cond, not, ◌&&◌}
use mathlib.Core.List.{List, [], ◌∷◌}
use Prim.Native.Nat.{ℕ, suc, ◌+◌, ◌-◌, ◌≤◌, ◌<◌, max}
use native.Mathlib.Omega.{arith}
use native.Mathlib.Numerals.{add-one}
use lib.Dec.{eqb}
use native.Mathlib.Decide.{dec_lt}
use lib.ListN.{length, get_or, take, drop, drop_of_length-le, length-drop}
use lib.Seq.{drop-cons, drop-drop, get_or-drop, length-take-le}
use Rattle.std.specs.Prelude.{bytes_eq}
use Rattle.text.specs.Places.{leading, up_to, past, same_list, skipped, head_word, tail_words, NextWord}

-- two tests that passed
pub both : (t : Bool) {u : Bool} → cond t u false ≡ true → (t ≡ true) × (u ≡ true)
both true e = (refl, e)
both false e = let z : ◌≡◌ {A = ℕ} 0 1 = cc in absurd (omega arith)

-- ---- bytes that pass a test

module _ (p : ℕ → Bool) (s : List ℕ) (i : ℕ) where
  -- the first of them fails
  pub run_here : i < length s → p (get_or s i 0) ≡ false → leading p (drop i s) ≡ 0
  unfolding leading
  run_here h e = rw (drop-cons s i 0, e)

  -- the first of them passes
  pub run_next : i < length s → p (get_or s i 0) ≡ true → leading p (drop i s) ≡ suc (leading p (drop (i + 1) s))
  unfolding leading
  run_next h e = rw (add-one, drop-cons s i 0, e)

  -- there is none
  pub run_end : length s ≤ i → leading p (drop i s) ≡ 0
  unfolding leading
  run_end h = ap (leading p) (drop_of_length-le s h)

-- they are at most all
pub run-le : (p : ℕ → Bool) (s : List ℕ) → leading p s ≤ length s
unfolding leading
run-le p [] = omega arith
run-le p (x ∷ xs) = by (p x) (run-le p xs) where
  by : (t : Bool) → leading p xs ≤ length xs → cond t (suc (leading p xs)) 0 ≤ suc (length xs)
  by true h = omega arith
  by false h = omega arith

-- ---- comparing

-- texts that are the same are as long
pub same_length : (a b : List ℕ) → same_list a b ≡ true → length a ≡ length b
unfolding same_list
same_length [] [] e = refl
same_length [] (y ∷ ys) e = let z : ◌≡◌ {A = ℕ} 0 1 = cc in absurd (omega arith)
same_length (x ∷ xs) [] e = let z : ◌≡◌ {A = ℕ} 0 1 = cc in absurd (omega arith)
same_length (x ∷ xs) (y ∷ ys) e = ap suc (same_length xs ys (both (eqb x y) e).1)

-- two tests, as `&&` and as `cond` say
pub and_cond : (t u : Bool) → (t && u) ≡ cond t u false
and_cond true u = refl
and_cond false u = refl

-- `==` of two texts
pub same_as : (a b : List ℕ) → bytes_eq a b ≡ same_list a b
unfolding same_list
same_as [] [] = refl
same_as [] (y ∷ ys) = refl
same_as (x ∷ xs) [] = refl
same_as (x ∷ xs) (y ∷ ys) = rw (same_as xs ys) (and_cond (eqb x y) (same_list xs ys))

-- ---- lines and words

-- the first byte that does not pass a test does not pass it
stops_at : (p : ℕ → Bool) (s : List ℕ) → leading p s < length s → p (get_or s (leading p s) 0) ≡ false
unfolding leading
stops_at p [] h = absurd (omega arith)
stops_at p (x ∷ xs) h = by (p x) refl h (stops_at p xs) where
  by : (t : Bool) → p x ≡ t → cond t (suc (leading p xs)) 0 < suc (length xs) → (leading p xs < length xs → p (get_or xs (leading p xs) 0) ≡ false)
      → p (get_or (x ∷ xs) (cond t (suc (leading p xs)) 0) 0) ≡ false
  by true e l f = f (omega arith)
  by false e l f = e

-- an empty word stands where the line ends, or past it
pub none_left : (line : List ℕ) (at p q : ℕ) → p ≡ at + past 32 (drop at line) → q ≡ p + up_to 32 (drop p line) → q ≤ p → p ≡ max at (length line)
none_left line at p q hp hq h = by (dec_lt p (length line)) where
  by : Dec (p < length line) → p ≡ max at (length line)
  by (yes l) =
      let n = past 32 (drop at line) in
      let e : eqb (get_or (drop at line) n 0) 32 ≡ false = stops_at (λ (x : ℕ). eqb x 32) (drop at line) (omega (arith, length-drop at line)) in
      let f : eqb (get_or line p 0) 32 ≡ false =
      ap (λ (k : ℕ). eqb k 32) (ap (λ (k : ℕ). get_or line k 0) hp ∙ sym (get_or-drop at line n 0)) ∙ e in
      let g = run_next (λ (x : ℕ). not (eqb x 32)) line p l (ap not f) in
      absurd (omega (arith, g))
  by (no l) = omega (arith, l, run-le (λ (x : ℕ). eqb x 32) (drop at line), length-drop at line)

-- what `skip` and `find` answer are the places of a word
pub next_of : (line : List ℕ) (at p q : ℕ) → p ≡ at + past 32 (drop at line) → q ≡ p + up_to 32 (drop p line) → NextWord line at p q
unfolding head_word tail_words
next_of line at p q hp hq =
    let n : q - p ≡ up_to 32 (drop p line) = omega arith in
    let e : drop p line ≡ skipped (drop at line) = ap (λ (k : ℕ). drop k line) hp ∙ sym (drop-drop (past 32 (drop at line)) at line) in
    let pl : p ≤ max at (length line) = omega (arith, run-le (λ (x : ℕ). eqb x 32) (drop at line), length-drop at line) in
    record {
      starts = omega arith;
      order = omega arith;
      inside = omega (arith, run-le (λ (x : ℕ). not (eqb x 32)) (drop p line), length-drop p line);
      word = ap (λ (k : ℕ). take k (drop p line)) n ∙ ap (λ (l : List ℕ). take (up_to 32 l) l) e;
      rest = ap (λ (k : ℕ). drop k line) hq ∙ sym (drop-drop (up_to 32 (drop p line)) p line) ∙ ap (λ (l : List ℕ). drop (up_to 32 l) l) e;
    }

-- a word is as long as its places say
pub part_length : (line : List ℕ) (at p q : ℕ) → NextWord line at p q → length (take (q - p) (drop p line)) ≡ q - p
part_length line at p q n = length-take-le (q - p) (drop p line) (omega (arith, length-drop p line, n.starts, n.order, n.inside))
