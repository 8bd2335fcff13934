-- The lines of a set make its mask by themselves: no other line of the base is needed.
use mathlib.Core.Bool.{Bool, true, false}
use mathlib.Core.List.{List, [], ◌∷◌, map}
use mathlib.Core.Path.{◌≡◌, refl, sym, ap, ◌∙◌, subst}
use Prim.Native.Nat.{ℕ, suc, ◌+◌, ◌^◌, ◌≤◌}
use native.Mathlib.Omega.{arith}
use lib.ListN.{length, get_or}
use lib.Bits.{bit_xor}
use Rattle.distance.specs.Base.{Line, none, Program, set_size, mask_of, cost_of}
use Rattle.distance.specs.Distance.{FirstSmallest}
use Rattle.distance.proofs.Taking.{taken, taken_at, taken_size}
use Rattle.distance.proofs.Upper.{upper}

-- the set of all lines
abbrev pub whole : List Line → List Bool
whole [] = []
whole (l ∷ ls) = true ∷ whole ls

whole_size : (ls : List Line) → set_size ls (whole ls) ≡ length ls
whole_size [] = refl
whole_size (l ∷ ls) = ap suc (whole_size ls)

-- lines whose masks sum to t, and that fit within the depth, have a program of one gate less
pub whole-makes : (ls : List Line) (g t D : ℕ) → length ls ≡ suc g → mask_of ls (whole ls) ≡ t → cost_of ls (whole ls) ≤ 2 ^ D → Program ls g t D
whole-makes ls g t D e m c = upper ls g t D (record { chosen = whole ls; size = whole_size ls ∙ e; mask = m; cost = c })

-- the lines of a set sum to its mask
pub taken_mask : (ls : List Line) (c : List Bool) → mask_of (taken ls c) (whole (taken ls c)) ≡ mask_of ls c
taken_mask [] c = refl
taken_mask (l ∷ ls) [] = refl
taken_mask (l ∷ ls) (true ∷ c) = ap (bit_xor l.mask) (taken_mask ls c)
taken_mask (l ∷ ls) (false ∷ c) = taken_mask ls c

-- and cost what it costs
pub taken_cost : (ls : List Line) (c : List Bool) → cost_of (taken ls c) (whole (taken ls c)) ≡ cost_of ls c
taken_cost [] c = refl
taken_cost (l ∷ ls) [] = refl
taken_cost (l ∷ ls) (true ∷ c) = ap (λ (n : ℕ). 2 ^ l.depth + n) (taken_cost ls c)
taken_cost (l ∷ ls) (false ∷ c) = taken_cost ls c

pub lines_make : (ls : List Line) (t D g : ℕ) (xs : List ℕ) → FirstSmallest ls t (2 ^ D) (suc g) xs → Program (map (λ (i : ℕ). get_or ls i none) xs) g t D
lines_make ls t D g xs f =
    let c = f.chosen in
    let s = f.set in
    subst (λ (zs : List Line). Program zs g t D) (sym (taken_at none [] ls ls c 0 refl refl) ∙ ap (map (λ (i : ℕ). get_or ls i none)) f.numbered)
    (whole-makes (taken ls c) g t D (taken_size none ls ls c refl ∙ s.size) (taken_mask ls c ∙ s.mask) (omega (arith, taken_cost ls c, s.cost)))
