-- Bytes at places of a text.
use Rattle.std.specs.Prelude.{◌≡◌, Bool, true, false, cond, List, [], ◌∷◌, ℕ, zero, suc, ◌+◌, ◌<◌, leb, ltb, eqb, length, get_or, drop}
use Rattle.formula.specs.declared.Class.{Class}
use Rattle.formula.specs.declared.Class.TheVariants.{Blank, Tilde, Letter}

-- byte b stands at p
unfoldable pub seen : List ℕ → ℕ → ℕ → Bool
seen s p b = cond (ltb p (length s)) (eqb (get_or s p 0) b) false

-- r says whether byte b stands at p; where it does, p is within the text
pub record Seen (s : List ℕ) (p b : ℕ) (r : Bool) : Type 0 where
  pub is : r ≡ seen s p b
  pub within : r ≡ true → p < length s

-- how many bytes at the front pass a test
abbrev pub lead : (ℕ → Bool) → List ℕ → ℕ
lead f [] = 0
lead f (b ∷ l) = let r = suc (lead f l) in cond (f b) r 0

-- the first place from p on whose byte does not pass
unfoldable pub past : (ℕ → Bool) → List ℕ → ℕ → ℕ
past f s p = p + lead f (drop p s)

-- a letter or a digit
unfoldable pub is_letter : ℕ → Bool
is_letter b =
    cond (leb 48 b) (cond (leb b 57) true (cond (leb 65 b) (cond (leb b 90) true (cond (leb 97 b) (leb b 122) false)) false)) false

-- a byte is in a class: the space; the space and ~; letters and digits
unfoldable pub in_class : Class → ℕ → Bool
in_class Blank b = eqb b 32
in_class Tilde b = cond (eqb b 32) true (eqb b 126)
in_class Letter b = is_letter b

-- past the spaces from p on
abbrev pub skip_of : List ℕ → ℕ → ℕ
skip_of s p = past (in_class Blank) s p

-- past the spaces and ~ from p on
abbrev pub tildes_of : List ℕ → ℕ → ℕ
tildes_of s p = past (in_class Tilde) s p

-- where the name at p ends: past its letters and digits
abbrev pub word_end : List ℕ → ℕ → ℕ
word_end s p = past (in_class Letter) s p

-- n once for each ~ among the f bytes from i on
unfoldable pub wrap_with : {A : Type 0} → (A → A) → List ℕ → ℕ → ℕ → A → A
wrap_with n s zero i r = r
wrap_with n s (suc f) i r = wrap_with n s f (i + 1) (cond (seen s i 126) (n r) r)
