-- What a distance query says goes by its answer and its lines. Assumes nothing.
use Rattle.std.specs.Prelude.{Option, Some, None, Result, Ok, Err}
use mathlib.Core.Path.{◌≡◌, refl, ap}
use mathlib.Core.List.{List}
use Prim.Native.Nat.{ℕ, ◌-◌}
use lib.ListN.{length, replicate}
use lib.Seq.{take_at}
use Rattle.distance.specs.declared.Refusal.{Refusal}
use Rattle.distance.specs.Query.{found}
use Rattle.talk.specs.Texts.{gates_text, distance_text, found_text}

pub found_said : (a : Result (Option ℕ) Refusal) (xs : List ℕ) → found_text (found a xs) ≡ distance_text a xs
found_said (Ok (Some x)) xs = ap (gates_text x) (take_at xs (replicate (8 - length xs) 0) (length xs) refl)
found_said (Ok None) xs = refl
found_said (Err why) xs = refl
