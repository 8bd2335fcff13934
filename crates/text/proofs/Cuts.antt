-- Where a line ends does not depend on how the input was cut into reads. Assumes nothing.
use mathlib.Core.Path.{◌≡◌, refl, ap}
use mathlib.Core.Bool.{Bool, true, false, cond}
use mathlib.Core.List.{List, [], ◌∷◌, ◌++◌}
use Prim.Native.Nat.{ℕ, suc, ◌+◌, ◌<◌}
use native.Mathlib.Omega.{arith}
use lib.ListN.{length}
use Rattle.text.specs.Places.{leading}

-- a count that stops within the list, one byte earlier
below : (t : Bool) (n m k : ℕ) → (n < m → k ≡ n) → cond t (suc n) 0 < suc m → cond t (suc k) 0 ≡ cond t (suc n) 0
below true n m k f h = ap suc (f (omega arith))
below false n m k f h = refl

-- a line's end that was found stays where it is, whatever is read after it
pub found-stays : (p : ℕ → Bool) (s t : List ℕ) → leading p s < length s → leading p (s ++ t) ≡ leading p s
unfolding leading
found-stays p [] t h = absurd (omega arith)
found-stays p (x ∷ xs) t h = below (p x) (leading p xs) (length xs) (leading p (xs ++ t)) (found-stays p xs t) h

-- a count that reaches the end, one byte earlier
within : (t : Bool) (n m k l : ℕ) → (n ≡ m → k ≡ m + l) → cond t (suc n) 0 ≡ suc m → cond t (suc k) 0 ≡ suc m + l
within true n m k l f h = omega (arith, f (omega arith))
within false n m k l f h = absurd (omega arith)

-- where none was found, the search goes on in what is read next: bytes that were seen need not be looked at again
pub none_goes_on : (p : ℕ → Bool) (s t : List ℕ) → leading p s ≡ length s → leading p (s ++ t) ≡ length s + leading p t
unfolding leading
none_goes_on p [] t h = omega arith
none_goes_on p (x ∷ xs) t h = within (p x) (leading p xs) (length xs) (leading p (xs ++ t)) (leading p t) (none_goes_on p xs t) h
