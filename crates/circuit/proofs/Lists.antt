-- Laws of lists, for any element. Assumes nothing.
use mathlib.Core.Path.{◌≡◌, refl, ap, ◌∙◌, sym}
use mathlib.Core.List.{List, [], ◌∷◌, map}
use Prim.Native.Nat.{ℕ, zero, suc, ◌<◌, ◌+◌}
use native.Mathlib.Numerals.{add-one}
use native.Mathlib.Omega.{arith}
use lib.ListN.{length, get_or, drop}
use lib.Seq.{drop-cons}

-- a list that is dropped up to a place begins with what stands there
pub drop_at_next : {A : Type 0} (l : List A) (i : ℕ) (d : A) → i < length l → drop i l ≡ get_or l i d ∷ drop (i + 1) l
drop_at_next {A} l i d h = drop-cons l i d h ∙ ap (λ (x : ℕ). get_or l i d ∷ drop x l) (sym (add-one i))

-- what stands at a place of a list that a map made
pub map_at : {A : Type 0} (f : A → ℕ) (l : List A) (d : A) (i : ℕ) → i < length l → get_or (map f l) i 0 ≡ f (get_or l i d)
map_at f [] d i h = absurd (omega arith)
map_at f (x ∷ l) d zero h = refl
map_at f (x ∷ l) d (suc i) h = map_at f l d i (omega arith)
