-- Laws of numbers in text: decimal and hexadecimal digits, read and written. Assumes nothing.
use mathlib.Core.Path.{◌≡◌, refl, ap, ◌∙◌, sym}
use mathlib.Core.Bool.{Bool, true, false, cond}
use mathlib.Core.List.{List, [], ◌∷◌, ◌++◌, append_assoc, append-nil}
use Prim.Native.Nat.{ℕ, zero, suc, ◌+◌, ◌-◌, ◌*◌, ◌/◌, ◌%◌, ◌^◌, ◌≤◌, ◌<◌}
use native.Mathlib.Omega.{arith}
use native.Mathlib.Numerals.{add-one}
use native.Mathlib.Nat.{pow-suc, one-le-pow, pow-le-pow_right}
use native.Mathlib.Decide.{dec_lt}
use lib.Dec.{ltb}
use borrow.Author.Tests.{ltb-true, lt-ltb, le-ltb}
use lib.ListN.{length, get_or, take, drop, drop_of_length-le, length-append}
use lib.Seq.{drop-cons, take-suc}
use Rattle.io.specs.Digits.{last_digits, IsDigitCount}
use Rattle.std.specs.Prelude.{Option, Some, None, SomeIff, unwrap_or}
use Rattle.std.specs.List.{list_all}
use Rattle.text.specs.Numbers.{is_digit, num_from, number_in, nibble_of, is_hex_digit, all_hex, hex_bytes, bytes_said, hex_text, glyph_of, dec_text, decimal_text, numbered, numbers_text}
use Rattle.text.proofs.Places.{both, and_cond}

-- a test that is not true is false
not_true : {t : Bool} → (t ≡ true → ⊥) → t ≡ false
not_true {t = true} h = absurd (h refl)
not_true {t = false} h = refl

-- ---- reading a decimal number

module _ (acc : ℕ) (s : List ℕ) (i : ℕ) (h : i < length s) where
  -- a byte that is no digit
  pub num_other : (is_digit (get_or s i 0) ≡ true → ⊥) → num_from acc (drop i s) ≡ None
  unfolding num_from
  num_other n = rw (drop-cons s i 0, not_true n)

  -- a digit
  pub num_step : is_digit (get_or s i 0) ≡ true → num_from acc (drop i s) ≡ num_from (acc * 10 + (get_or s i 0 - 48)) (drop (i + 1) s)
  unfolding num_from
  num_step e = rw (add-one, drop-cons s i 0, e)

-- no number either way
cond_not : (t : Bool) (n : Option ℕ) → n ≡ None → cond t n None ≡ None
cond_not true n e = e
cond_not false n e = refl

-- a number that is too large stays so
pub num_big : (acc : ℕ) (s : List ℕ) → 2 ^ 64 ≤ acc → num_from acc s ≡ None
unfolding num_from
num_big acc [] h = rw (le-ltb acc (2 ^ 64) h)
num_big acc (x ∷ xs) h = cond_not (is_digit x) (num_from (acc * 10 + (x - 48)) xs) (num_big (acc * 10 + (x - 48)) xs (omega arith))

-- no digit is left
pub num_end : (acc : ℕ) (s : List ℕ) (i : ℕ) → length s ≤ i → acc < 2 ^ 64 → Some acc ≡ num_from acc (drop i s)
unfolding num_from
num_end acc s i h l = rw (drop_of_length-le s h, lt-ltb acc (2 ^ 64) l)

-- a word with a digit or more
pub num_is : (s : List ℕ) {r : Option ℕ} → 0 < length s → r ≡ num_from 0 s → r ≡ number_in s
num_is s h e = rw (lt-ltb _ _ h) e

-- ---- hex

-- whether every byte is a digit
pub all_as : (s : List ℕ) → list_all is_hex_digit s ≡ all_hex s
unfolding all_hex
all_as [] = refl
all_as (x ∷ xs) = rw (all_as xs) (and_cond (is_hex_digit x) (all_hex xs))

-- byte i of digits all of which are hexadecimal
pub all_digit : (s : List ℕ) (i : ℕ) → all_hex s ≡ true → i < length s → nibble_of (get_or s i 0) < 16
unfolding all_hex
all_digit [] i e h = absurd (omega arith)
all_digit (x ∷ xs) zero e h = ltb-true _ _ (both _ e).0
all_digit (x ∷ xs) (suc i) e h = all_digit xs i (both (ltb (nibble_of x) 16) e).1 (omega arith)

-- what `nibble` gives at a digit, whatever stands by for a byte that is none
pub digit_or : (r : Option ℕ) (v d : ℕ) → SomeIff r (v < 16) v → v < 16 → unwrap_or r d ≡ v
digit_or None v d h l = absurd (h l)
digit_or (Some x) v d h l = h.1

-- digits all of which are hexadecimal
pub bytes-said : (s : List ℕ) → all_hex s ≡ true → bytes_said s ≡ hex_bytes s
unfolding bytes_said
bytes-said s e = ap (λ (t : Bool). cond t (hex_bytes s) []) e

-- digits not all of which are
pub none_said : (s : List ℕ) → all_hex s ≡ false → bytes_said s ≡ []
unfolding bytes_said
none_said s e = ap (λ (t : Bool). cond t (hex_bytes s) []) e

-- how many bytes digits say
pub bytes_length : (s : List ℕ) → length (hex_bytes s) ≡ length s / 2
unfolding hex_bytes
bytes_length [] = refl
bytes_length (a ∷ []) = refl
bytes_length (a ∷ b ∷ r) = omega (arith, bytes_length r)

-- byte i of them
pub bytes_at : (s : List ℕ) (i : ℕ) → 2 * i + 1 < length s → get_or (hex_bytes s) i 0 ≡ nibble_of (get_or s (2 * i) 0) * 16 + nibble_of (get_or s (2 * i + 1) 0)
unfolding hex_bytes
bytes_at [] i h = absurd (omega arith)
bytes_at (a ∷ []) i h = absurd (omega arith)
bytes_at (a ∷ b ∷ r) zero h = refl
bytes_at (a ∷ b ∷ r) (suc i) h =
    let e : 2 * suc i ≡ suc (suc (2 * i)) = omega arith in
    let f : 2 * suc i + 1 ≡ suc (suc (2 * i + 1)) = omega arith in
    rw (f, e) (bytes_at r i (omega arith))

-- how many digits bytes have
pub text_length : (s : List ℕ) → length (hex_text s) ≡ 2 * length s
unfolding hex_text
text_length [] = refl
text_length (x ∷ xs) = omega (arith, text_length xs)

-- the first digit of byte i
pub text_even : (s : List ℕ) (i : ℕ) → i < length s → get_or (hex_text s) (2 * i) 0 ≡ glyph_of (get_or s i 0 / 16)
unfolding hex_text
text_even [] i h = absurd (omega arith)
text_even (x ∷ xs) zero h = refl
text_even (x ∷ xs) (suc i) h = let e : 2 * suc i ≡ suc (suc (2 * i)) = omega arith in rw e (text_even xs i (omega arith))

-- the second digit of byte i
pub text_odd : (s : List ℕ) (i : ℕ) → i < length s → get_or (hex_text s) (2 * i + 1) 0 ≡ glyph_of (get_or s i 0 % 16)
unfolding hex_text
text_odd [] i h = absurd (omega arith)
text_odd (x ∷ xs) zero h = refl
text_odd (x ∷ xs) (suc i) h = let e : 2 * suc i + 1 ≡ suc (suc (2 * i + 1)) = omega arith in rw e (text_odd xs i (omega arith))

-- ---- writing a decimal number

-- a number below 10 is its last digit
mod_small : (n : ℕ) → n < 10 → n % 10 ≡ n
mod_small n h = omega arith

-- the fewest digits that hold n, as `io` writes them, are n's decimal text
pub digits_text : (f k n : ℕ) → k ≤ f → IsDigitCount 10 1 n k → last_digits 10 k n ≡ dec_text f n
unfolding dec_text
digits_text f zero n h w = absurd (omega (arith, w.0))
digits_text zero (suc k) n h w = absurd (omega arith)
digits_text (suc f) (suc zero) n h w =
    let l : n < 10 = w.1 in
    rw (lt-ltb n 10 l, mod_small n l, lt-ltb n 10 l)
digits_text (suc f) (suc (suc k)) n h w =
    let a : 10 ^ suc (suc k) ≡ 10 ^ suc k * 10 = pow-suc 10 (suc k) in
    let b : 10 ^ suc k ≡ 10 ^ k * 10 = pow-suc 10 k in
    let p : 1 ≤ 10 ^ k = one-le-pow k 10 (omega arith) in
    let e : suc (suc k) - 1 ≡ suc k = omega arith in
    let g : suc k - 1 ≡ k = omega arith in
    let low : 10 ^ suc k ≤ n = rw e at (w.2 (omega arith)) in
    let lowk : 1 < suc k → 10 ^ (suc k - 1) ≤ n / 10 = λ _. rw g (omega arith) in
    let m : n % 10 < 10 = omega arith in
    rw (le-ltb n 10 (omega arith), lt-ltb (n % 10) 10 m)
    (ap (λ (l : List ℕ). l ++ ((48 + n % 10) ∷ [])) (digits_text f (suc k) (n / 10) (omega arith) (omega arith, omega (arith, w.1), lowk)))

-- a number below 2^64 has at most 20 digits
pub few_digits : (n k : ℕ) → n < 2 ^ 64 → IsDigitCount 10 1 n k → k ≤ 20
few_digits n k h w = by (dec_lt 20 k) where
  by : Dec (20 < k) → k ≤ 20
  by (yes l) =
      let p : 10 ^ 20 ≤ 10 ^ (k - 1) = pow-le-pow_right {n = 10} (omega arith) {i = 20} {j = k - 1} (omega arith) in
      absurd (omega (arith, w.2 (omega arith)))
  by (no l) = omega (arith, l)

-- a number below a power of ten has as few digits
pub short_text : (f k n : ℕ) → n < 10 ^ suc k → length (dec_text f n) ≤ suc k
unfolding dec_text
short_text zero k n h = omega arith
short_text (suc f) zero n h = rw (lt-ltb n 10 h) (omega arith)
short_text (suc f) (suc k) n h = by (dec_lt n 10) (short_text f k (n / 10)) where
  by : Dec (n < 10) → (n / 10 < 10 ^ suc k → length (dec_text f (n / 10)) ≤ suc k) → length (dec_text (suc f) n) ≤ suc (suc k)
  by (yes l) less = rw (lt-ltb n 10 l) (omega arith)
  by (no l) less =
      let p : 10 ^ suc (suc k) ≡ 10 ^ suc k * 10 = pow-suc 10 (suc k) in
      rw (le-ltb n 10 (omega (arith, l))) (omega (arith, length-append (dec_text f (n / 10)) ((48 + n % 10) ∷ []), less (omega arith)))

-- so its decimal text is as short
pub decimal_short : (n : ℕ) → n < 2 ^ 64 → length (decimal_text n) ≤ 20
decimal_short n h = short_text 20 19 n (omega arith)

-- a letter and a number below 256 take at most four bytes
pub numbered_short : (letter k : ℕ) → k < 256 → length (numbered letter k) ≤ 4
numbered_short letter k h = omega (arith, short_text 20 2 k (omega arith))

-- and one below 65,536 at most six
pub numbered_fits : (letter k : ℕ) → k < 65536 → length (numbered letter k) ≤ 6
numbered_fits letter k h = omega (arith, short_text 20 4 k (omega arith))

-- ---- a list of numbers

-- the numbers of two lists, one after the other
numbers-append : (a b : List ℕ) → numbers_text (a ++ b) ≡ numbers_text a ++ numbers_text b
unfolding numbers_text
numbers-append [] b = refl
numbers-append (x ∷ a) b = ap (λ (l : List ℕ). numbered 32 x ++ l) (numbers-append a b) ∙ sym (append_assoc (numbered 32 x) (numbers_text a) (numbers_text b))

-- one number more
pub numbers_next : (ns : List ℕ) (i : ℕ) → i < length ns → numbers_text (take i ns) ++ numbered 32 (get_or ns i 0) ≡ numbers_text (take (i + 1) ns)
unfolding numbers_text
numbers_next ns i h =
    sym (ap (λ (k : ℕ). numbers_text (take k ns)) (add-one i) ∙ ap numbers_text (take-suc ns i 0 h) ∙ numbers-append (take i ns) (get_or ns i 0 ∷ [])
    ∙ ap (λ (l : List ℕ). numbers_text (take i ns) ++ l) (append-nil (numbered 32 (get_or ns i 0))))
