-- Numbers in text: decimal and hexadecimal digits, read and written.
use Rattle.std.specs.Prelude.{Bool, true, false, cond, List, [], ◌∷◌, ◌++◌, ℕ, zero, suc, ◌+◌, ◌-◌, ◌*◌, ◌/◌, ◌%◌, ◌^◌, leb, ltb, length, Option, Some, None}

-- whether a byte is a decimal digit
abbrev pub is_digit : ℕ → Bool
is_digit x = cond (leb 48 x) (leb x 57) false

-- the number that decimal digits say, after a number that earlier digits said
unfoldable pub num_from : ℕ → List ℕ → Option ℕ
num_from acc [] = cond (ltb acc (2 ^ 64)) (Some acc) None
num_from acc (x ∷ xs) = cond (is_digit x) (num_from (acc * 10 + (x - 48)) xs) None

-- the number that a word says: one digit or more, 0 to 2^64 - 1
abbrev pub number_in : List ℕ → Option ℕ
number_in s = cond (ltb 0 (length s)) (num_from 0 s) None

-- the value of a hexadecimal digit, or 16
abbrev pub nibble_of : ℕ → ℕ
nibble_of x =
    cond (leb 48 x)
    (cond (leb x 57) (x - 48)
    (cond (leb 65 x)
    (cond (leb x 70) (x - 55)
    (cond (leb 97 x) (cond (leb x 102) (x - 87) 16) 16))
    16))
    16

-- whether a byte is a hexadecimal digit
abbrev pub is_hex_digit : ℕ → Bool
is_hex_digit x = ltb (nibble_of x) 16

-- whether each byte is one
unfoldable pub all_hex : List ℕ → Bool
all_hex [] = true
all_hex (x ∷ xs) = cond (is_hex_digit x) (all_hex xs) false

-- the bytes that pairs of digits say
unfoldable pub hex_bytes : List ℕ → List ℕ
hex_bytes [] = []
hex_bytes (a ∷ []) = []
hex_bytes (a ∷ b ∷ r) = (nibble_of a * 16 + nibble_of b) ∷ hex_bytes r

-- the same where each byte is a digit, and else none
unfoldable pub bytes_said : List ℕ → List ℕ
bytes_said s = cond (all_hex s) (hex_bytes s) []

-- the digit of a value below 16, in lower case
abbrev pub glyph_of : ℕ → ℕ
glyph_of d = cond (ltb d 10) (48 + d) (87 + d)

-- each byte as two digits
unfoldable pub hex_text : List ℕ → List ℕ
hex_text [] = []
hex_text (x ∷ xs) = glyph_of (x / 16) ∷ glyph_of (x % 16) ∷ hex_text xs

-- a number's decimal digits, f of them at most
unfoldable pub dec_text : ℕ → ℕ → List ℕ
dec_text zero n = []
dec_text (suc f) n = cond (ltb n 10) ((48 + n) ∷ []) (dec_text f (n / 10) ++ ((48 + n % 10) ∷ []))

-- a number's decimal digits
abbrev pub decimal_text : ℕ → List ℕ
decimal_text n = dec_text 20 n

-- a label and a number
abbrev pub labelled : List ℕ → ℕ → List ℕ
labelled label x = label ++ decimal_text x

-- a letter and a number, as `x0`
abbrev pub numbered : ℕ → ℕ → List ℕ
numbered letter x = labelled (letter ∷ []) x

-- each number in decimal after a space
unfoldable pub numbers_text : List ℕ → List ℕ
numbers_text [] = []
numbers_text (x ∷ xs) = numbered 32 x ++ numbers_text xs
