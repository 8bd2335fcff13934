-- Places in a line of text: where a byte stands, the words between spaces, where the line ends.
use Rattle.std.specs.Prelude.{◌≡◌, Bool, true, false, cond, not, List, [], ◌∷◌, ℕ, suc, ◌-◌, ◌<◌, ◌≤◌, max, eqb, length, get_or, take, drop}

-- how many bytes at the start pass a test
unfoldable pub leading : (ℕ → Bool) → List ℕ → ℕ
leading p [] = 0
leading p (x ∷ xs) = cond (p x) (suc (leading p xs)) 0

-- what a closure may answer of a byte is what a test says of it
abbrev pub IsTest : (ℕ → Bool → Type 0) → (ℕ → Bool) → Type 0
IsTest answers test = (x : ℕ) (b : Bool) → x < 256 → answers x b → b ≡ test x

-- how many bytes stand before the first c; all of them where there is none
abbrev pub up_to : ℕ → List ℕ → ℕ
up_to c s = leading (λ (x : ℕ). not (eqb x c)) s

-- how many bytes at the start are c
abbrev pub past : ℕ → List ℕ → ℕ
past c s = leading (λ (x : ℕ). eqb x c) s

-- what follows the spaces at the start
abbrev pub skipped : List ℕ → List ℕ
skipped s = drop (past 32 s) s

-- the first word
unfoldable pub head_word : List ℕ → List ℕ
head_word s = take (up_to 32 (skipped s)) (skipped s)

-- what follows the first word
unfoldable pub tail_words : List ℕ → List ℕ
tail_words s = drop (up_to 32 (skipped s)) (skipped s)

-- the first word from `at` on stands from `from` to `to`, within the line; where `at` is past its end, an empty one stands there
pub record NextWord (line : List ℕ) (at from to : ℕ) : Type 0 where
  pub starts : at ≤ from
  pub order : from ≤ to
  pub inside : to ≤ max at (length line)
  pub word : take (to - from) (drop from line) ≡ head_word (drop at line)
  pub rest : drop to line ≡ tail_words (drop at line)

-- the length of a line without one CR at its end
abbrev pub trim_len : List ℕ → ℕ
trim_len s = cond (eqb (get_or s (length s - 1) 0) 13) (length s - 1) (length s)

-- whether two texts are the same
unfoldable pub same_list : List ℕ → List ℕ → Bool
same_list [] [] = true
same_list [] (y ∷ ys) = false
same_list (x ∷ xs) [] = false
same_list (x ∷ xs) (y ∷ ys) = cond (eqb x y) (same_list xs ys) false
