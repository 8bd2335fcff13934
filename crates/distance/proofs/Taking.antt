-- What a set takes of a list of any elements, by its flags: as many as it has lines, and they stand at its numbers. Assumes nothing.
use mathlib.Core.Bool.{Bool, true, false}
use mathlib.Core.List.{List, [], ◌∷◌, ◌++◌, map, append_assoc}
use mathlib.Core.Path.{◌≡◌, refl, sym, ap, ap₂, ◌∙◌}
use Prim.Native.Nat.{ℕ, suc}
use native.Mathlib.Omega.{arith}
use lib.ListN.{length, get_or, length-append, length-map}
use lib.Seq.{get_or_at}
use Rattle.distance.specs.Base.{Line, set_size}
use Rattle.distance.specs.Distance.{numbers}
use Rattle.distance.proofs.Each.{Each}
use Rattle.distance.proofs.Lines.{numbers-length}

-- the elements whose flags are set
abbrev pub taken : {A : Type 0} → List A → List Bool → List A
taken [] c = []
taken (x ∷ xs) [] = []
taken (x ∷ xs) (true ∷ c) = x ∷ taken xs c
taken (x ∷ xs) (false ∷ c) = taken xs c

pub taken_each : (P : ℕ → Type 0) (xs : List ℕ) (c : List Bool) → Each P xs → Each P (taken xs c)
taken_each P [] c e = tt
taken_each P (x ∷ xs) [] e = tt
taken_each P (x ∷ xs) (true ∷ c) e = (e.0, taken_each P xs c e.1)
taken_each P (x ∷ xs) (false ∷ c) e = taken_each P xs c e.1

pub taken-map : {A B : Type 0} (f : A → B) (xs : List A) (c : List Bool) → taken (map f xs) c ≡ map f (taken xs c)
taken-map f [] c = refl
taken-map f (x ∷ xs) [] = refl
taken-map {A} {B} f (x ∷ xs) (true ∷ c) = ap (λ (l : List B). f x ∷ l) (taken-map f xs c)
taken-map f (x ∷ xs) (false ∷ c) = taken-map f xs c

-- of as many elements as a base has lines; what counts past the end is d
module _ {A : Type 0} (d : A) where
  pub taken_at : (front xs : List A) (ls : List Line) (c : List Bool) (i : ℕ) → length ls ≡ length xs → length front ≡ i
      → map (λ (j : ℕ). get_or (front ++ xs) j d) (numbers i ls c) ≡ taken xs c
  taken_at front [] [] c i h e = refl
  taken_at front [] (l ∷ ls) c i h e = absurd (omega (arith, h))
  taken_at front (x ∷ xs) [] c i h e = absurd (omega (arith, h))
  taken_at front (x ∷ xs) (l ∷ ls) [] i h e = refl
  taken_at front (x ∷ xs) (l ∷ ls) (true ∷ c) i h e =
      ap₂ (λ (y : A) (ys : List A). y ∷ ys) (get_or_at front x xs d i e)
      (ap (λ (ys : List A). map (λ (j : ℕ). get_or ys j d) (numbers (suc i) ls c)) (sym (append_assoc front (x ∷ []) xs))
      ∙ taken_at (front ++ (x ∷ [])) xs ls c (suc i) (omega (arith, h)) (omega (arith, length-append front (x ∷ []))))
  taken_at front (x ∷ xs) (l ∷ ls) (false ∷ c) i h e =
      ap (λ (ys : List A). map (λ (j : ℕ). get_or ys j d) (numbers (suc i) ls c)) (sym (append_assoc front (x ∷ []) xs))
      ∙ taken_at (front ++ (x ∷ [])) xs ls c (suc i) (omega (arith, h)) (omega (arith, length-append front (x ∷ [])))

  pub taken_size : (xs : List A) (ls : List Line) (c : List Bool) → length ls ≡ length xs → length (taken xs c) ≡ set_size ls c
  taken_size xs ls c h = sym (ap length (taken_at [] xs ls c 0 h refl)) ∙ length-map (numbers 0 ls c) (λ (j : ℕ). get_or xs j d) ∙ numbers-length 0 ls c
