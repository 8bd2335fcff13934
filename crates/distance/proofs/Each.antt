-- What holds of each of some numbers. Assumes nothing.
use mathlib.Core.Logic.{⊎_elim}
use mathlib.Core.List.Memᴰ
use mathlib.Core.List.{List, [], ◌∷◌, Memᴰ}
use mathlib.Core.Path.{refl, sym, subst}
use Prim.Native.Nat.{ℕ, zero, suc, ◌≤◌, ◌<◌}
use native.Mathlib.Omega.{arith}
use lib.ListN.{length, get_or}

abbrev pub Each : (ℕ → Type 0) → List ℕ → Type 0
Each P [] = Unit {0}
Each P (x ∷ xs) = P x × Each P xs

pub each_map : (P Q : ℕ → Type 0) (xs : List ℕ) → ((x : ℕ) → P x → Q x) → Each P xs → Each Q xs
each_map P Q [] f e = tt
each_map P Q (x ∷ xs) f e = (f x e.0, each_map P Q xs f e.1)

pub each_to : (i j : ℕ) (xs : List ℕ) → i ≤ j → Each (λ (y : ℕ). y < i) xs → Each (λ (y : ℕ). y < j) xs
each_to i j xs l = each_map (λ (y : ℕ). y < i) (λ (y : ℕ). y < j) xs (λ y h. omega arith)

-- of each that is among them
pub each_of : (P : ℕ → Type 0) (xs : List ℕ) → ((x : ℕ) → Memᴰ x xs → P x) → Each P xs
each_of P [] f = tt
each_of P (x ∷ xs) f = (f x (Memᴰ.head refl), each_of P xs (λ y m. f y (Memᴰ.tail m)))

pub each_at : (P : ℕ → Type 0) (xs : List ℕ) → Each P xs → (y : ℕ) → Memᴰ y xs → P y
each_at P [] e y m = absurd (Memᴰ.not-nil m)
each_at P (x ∷ xs) e y m = ⊎_elim (λ q. subst P (sym q) e.0) (λ r. each_at P xs e.1 y r) (Memᴰ.cases_cons m)

-- at each place
pub each_put : (P : ℕ → Type 0) (xs : List ℕ) → ((k : ℕ) → k < length xs → P (get_or xs k 0)) → Each P xs
each_put P [] f = tt
each_put P (x ∷ xs) f = (f 0 (omega arith), each_put P xs (λ k h. f (suc k) (omega arith)))

pub each_get : (P : ℕ → Type 0) (xs : List ℕ) (k : ℕ) → k < length xs → Each P xs → P (get_or xs k 0)
each_get P [] k h e = absurd (omega arith)
each_get P (x ∷ xs) zero h e = e.0
each_get P (x ∷ xs) (suc k) h e = each_get P xs k (omega arith) e.1
