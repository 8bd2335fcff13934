-- What a build leaves in the lent room, from what was planned and written.
use Rattle.std.specs.Prelude.{Ok, Err}
use mathlib.Core.List.{List}
use mathlib.Core.Path.{◌≡◌}
use Prim.Native.Nat.{ℕ}
use Rattle.circuit.specs.declared.Circuit.{Circuit}
use Rattle.circuit.specs.declared.Refusal.{Refusal}
use Rattle.stored.specs.Writing.{Writing, Wrote}
use Rattle.builder.specs.Call.{built, refusal, plan_of, build_answer, Builds}
use Rattle.builder.specs.Late.{late_built, late_refusal, late_plan_of, late_answer, BuildsLate}
use Rattle.builder.proofs.Promise.{refusal_put, plan_put}
use Rattle.builder.proofs.Theorems.{late_sound, sound_circuit}

-- ---- a refusal is given back, and a circuit is written
module _ (n : ℕ) (ar ts ds room : List ℕ) where
  pub builds_late_none : (w : Refusal) → Err w ≡ late_plan_of n ar ts ds → BuildsLate n ar ts ds room (Err w) room
  unfolding late_plan_of late_answer
  builds_late_none w e = let q = refusal_put (late_built n ar ts ds) room (late_refusal n ar ts ds) w e in record { answer = q.answer; bytes = q.bytes }

  pub builds_late : (p : Circuit) (r : Writing) (out : List ℕ) → Ok p ≡ late_plan_of n ar ts ds → Wrote p room r out → BuildsLate n ar ts ds room r out
  unfolding late_plan_of late_answer
  builds_late p r out e w = let q = plan_put (late_built n ar ts ds) room (late_refusal n ar ts ds) p r out (late_sound n ar ts ds) e w in record { answer = q.answer; bytes = q.bytes }

module _ (n : ℕ) (ts : List ℕ) (D : ℕ) (room : List ℕ) where
  pub builds_none : (w : Refusal) → Err w ≡ plan_of n ts D → Builds n ts D room (Err w) room
  unfolding plan_of build_answer
  builds_none w e = let q = refusal_put (built n ts D) room (refusal n ts D) w e in record { answer = q.answer; bytes = q.bytes }

  pub builds : (p : Circuit) (r : Writing) (out : List ℕ) → Ok p ≡ plan_of n ts D → Wrote p room r out → Builds n ts D room r out
  unfolding plan_of build_answer
  builds p r out e w = let q = plan_put (built n ts D) room (refusal n ts D) p r out (sound_circuit n ts D) e w in record { answer = q.answer; bytes = q.bytes }
