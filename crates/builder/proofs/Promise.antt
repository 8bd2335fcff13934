-- What a plan and a build give, from what their parts give; and that two results meeting a promise are equal.
use Rattle.std.specs.Prelude.{Ok, Err}
use mathlib.Core.Bool.{true, cond}
use mathlib.Core.List.{List}
use mathlib.Core.Path.{◌≡◌, refl, sym, ap, ◌∙◌}
use Prim.Native.Nat.{ℕ, ◌≤◌}
use native.Mathlib.Omega.{arith}
use lib.Dec.{leb}
use lib.ListN.{length, length-map}
use Rattle.circuit.specs.declared.Circuit.{Circuit}
use Rattle.circuit.specs.declared.Refusal.{Refusal}
use Rattle.circuit.specs.declared.Refusal.TheVariants.{Shape, NoRoom}
use Rattle.circuit.specs.Lines.{Listing}
use Rattle.circuit.specs.Structs.{held, listed}
use Rattle.circuit.specs.Rules.{Answer, done, and_then, shaped, listing_answer}
use Rattle.circuit.proofs.Listed.{listed-held}
use Rattle.circuit.proofs.RuleLaws.{circuit_fits}
use Rattle.circuit.proofs.Shapes.{shape_is, shape_true}
use Rattle.stored.specs.Stored.{stored}
use Rattle.stored.specs.Writing.{Writing, Wrote, write_answer, room_after, into_room}
use Rattle.distance.specs.Base.{Line, arriving}
use Rattle.builder.specs.Rule.{Row, rows_of, taken, xor_gate, greedy_circuit}
use Rattle.builder.specs.Call.{Builds, BuildsNumbered}
use Rattle.builder.specs.Late.{late_built, BuildsLate, BuildsLateNumbered}
use Rattle.builder.proofs.Lists.{rows_length}
use Rattle.builder.proofs.Begin.{taken_few}

-- ---- the circuit built has room in a stored form

-- as the rule gives it, over any base and rows
module _ (n : ℕ) (ls : List Line) (rs : List Row) where
  greedy_outs : length (greedy_circuit n ls rs).outs ≡ length rs
  unfolding greedy_circuit
  greedy_outs = length-map rs _

  greedy_gates : length (greedy_circuit n ls rs).gates ≡ length (taken ls rs)
  unfolding greedy_circuit
  greedy_gates = length-map (taken ls rs) xor_gate

  greedy_few : length (greedy_circuit n ls rs).gates ≤ 224
  greedy_few = omega (arith, greedy_gates, taken_few ls rs)

  greedy-inputs : (greedy_circuit n ls rs).inputs ≡ n
  unfolding greedy_circuit
  greedy-inputs = refl

module _ (n : ℕ) (ar ts ds : List ℕ) where
  pub late_inputs : (late_built n ar ts ds).inputs ≡ n
  unfolding late_built
  late_inputs = greedy-inputs n (arriving n ar) (rows_of ts ds)

  pub late_outs : length ts ≡ length ds → length (late_built n ar ts ds).outs ≡ length ts
  unfolding late_built
  late_outs e = greedy_outs n (arriving n ar) (rows_of ts ds) ∙ rows_length ts ds e

  pub late_gates : length (late_built n ar ts ds).gates ≡ length (taken (arriving n ar) (rows_of ts ds))
  unfolding late_built
  late_gates = greedy_gates n (arriving n ar) (rows_of ts ds)

  pub late_few : length (late_built n ar ts ds).gates ≤ 224
  unfolding late_built
  late_few = greedy_few n (arriving n ar) (rows_of ts ds)

  pub late_shaped : length ts ≡ length ds → shaped n (length ts) 0 ≡ true
      → shaped (late_built n ar ts ds).inputs (length (late_built n ar ts ds).outs) (length (late_built n ar ts ds).gates) ≡ true
  late_shaped e a =
      let r = shape_is n (length ts) 0 a in
      let i = late_inputs in
      let o = late_outs e in
      shape_true _ _ _ (record {
        n_least = omega (arith, r.n_least);
        n_most = omega (arith, r.n_most);
        m_least = omega (arith, r.m_least);
        m_most = omega (arith, r.m_most);
        g_most = omega (arith, late_few);
      })

-- ---- what is written of a plan

-- what stands in a room after a plan with this answer and this circuit
pub record Put (a : Answer) (c : Listing) (room : List ℕ) (r : Writing) (out : List ℕ) : Type 0 where
  pub answer : r ≡ into_room a (length (stored c)) (length room)
  pub bytes : out ≡ room_after (into_room a (length (stored c)) (length room)) (stored c) room

module _ (c : Listing) (room : List ℕ) where
  -- a refusal leaves the room as it was
  pub refusal_put : (a : Answer) (w : Refusal) → Err w ≡ and_then a (Ok (held c)) → Put a c room (Err w) room
  refusal_put (Ok _) w e = let z : ◌≡◌ {A = ℕ} 0 1 = cc in absurd (omega arith)
  refusal_put (Err v) w e = let z : w ≡ v = cc in record { answer = ap Err z; bytes = refl }

  -- the circuit planned is sound, and so its struct stands for it
  pub plan_put : (a : Answer) (p : Circuit) (r : Writing) (out : List ℕ) → (a ≡ done → listing_answer true c ≡ done) → Ok p ≡ and_then a (Ok (held c)) → Wrote p room r out → Put a c room r out
  unfolding write_answer
  plan_put (Err v) p r out sound e w = let z : ◌≡◌ {A = ℕ} 0 1 = cc in absurd (omega arith)
  plan_put (Ok _) p r out sound e w =
      let k : p ≡ held c = cc in
      let s = ap (λ (x : Circuit). stored (listed x)) k ∙ ap stored (listed-held true c (sound refl)) in
      let f : shaped p.n p.m p.g ≡ true = ap (λ (x : Circuit). shaped x.n x.m x.g) k ∙ (circuit_fits true c (sound refl)).shaped-true in
      let a : write_answer p (length room) ≡ into_room done (length (stored c)) (length room) =
      λ i. cond (f i) (cond (leb (length (s i)) (length room)) (Ok (length (s i))) (Err NoRoom)) (Err Shape) in
      record { answer = w.answer ∙ a; bytes = w.bytes ∙ (λ i. room_after (a i) (s i) room) }

-- ---- two results that meet a promise are equal
pub build_unique : (n : ℕ) (ts : List ℕ) (D : ℕ) (room : List ℕ) (r s : Writing) (out out' : List ℕ) → Builds n ts D room r out → Builds n ts D room s out' → (r ≡ s) × (out ≡ out')
build_unique n ts D room r s out out' a b = (a.answer ∙ sym b.answer, a.bytes ∙ sym b.bytes)

pub numbered_unique : (n : ℕ) (ts : List ℕ) (D : ℕ) (room : List ℕ) (r s : ℕ) (out out' : List ℕ) → BuildsNumbered n ts D room r out → BuildsNumbered n ts D room s out' → (r ≡ s) × (out ≡ out')
numbered_unique n ts D room r s out out' a b = (a.answer ∙ sym b.answer, a.bytes ∙ sym b.bytes)

pub late_unique : (n : ℕ) (ar ts ds room : List ℕ) (r s : Writing) (out out' : List ℕ) → BuildsLate n ar ts ds room r out → BuildsLate n ar ts ds room s out' → (r ≡ s) × (out ≡ out')
late_unique n ar ts ds room r s out out' a b = (a.answer ∙ sym b.answer, a.bytes ∙ sym b.bytes)

pub late_numbered_unique : (n : ℕ) (ar ts ds room : List ℕ) (r s : ℕ) (out out' : List ℕ) → BuildsLateNumbered n ar ts ds room r out → BuildsLateNumbered n ar ts ds room s out' → (r ≡ s) × (out ≡ out')
late_numbered_unique n ar ts ds room r s out out' a b = (a.answer ∙ sym b.answer, a.bytes ∙ sym b.bytes)
