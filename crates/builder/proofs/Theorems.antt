-- What is proved of the builder: the statements, each with the name of its proof.
use Rattle.std.specs.Prelude.{Ok, Err}
use Rattle.circuit.specs.Rules.{done}
use mathlib.Core.Bool.{true, false}
use mathlib.Core.List.{List, [], ◌∷◌, map}
use mathlib.Core.Logic.{◌↔◌}
use mathlib.Core.Path.{◌≡◌, refl, sym, ap, ◌∙◌, subst}
use Prim.Native.Nat.{ℕ, zero, suc, ◌-◌, ◌^◌, ◌≤◌, ◌<◌}
use native.Mathlib.Omega.{arith}
use lib.ListN.{length, get_or, length-replicate}
use Rattle.circuit.specs.declared.Refusal.TheVariants.{TooShallow}
use Rattle.circuit.specs.Gate.{row_value_on}
use Rattle.circuit.specs.Lines.{Listing, gate_at, no_gate, depths, depth_of, overall, output_on, any_of}
use Rattle.circuit.specs.Rules.{shaped, listing_answer}
use Rattle.stored.specs.Stored.{stored}
use Rattle.stored.specs.Reading.{read_stored}
use Rattle.stored.proofs.Round.{read-stored}
use Rattle.distance.specs.Base.{Line, Xor, arriving, weight}
use Rattle.distance.specs.Distance.{can, gates, distance, numbers, Leads, first_set}
use Rattle.distance.proofs.Fewest.{first_gates}
use Rattle.builder.specs.Rule.{Row, rows_of, distances, sum, first_pair, next_gate, taken, xor_gate, greedy_circuit}
use Rattle.builder.specs.Call.{built, bad_row, too_heavy, refusal}
use Rattle.builder.specs.Late.{late_built, too_late, late_refusal}
use Rattle.builder.specs.Matrix.{Computes, ComputesLate, depth_from}
use Rattle.builder.specs.Kept.{SoundRows, Alive}
use Rattle.builder.proofs.Refusals.{Ahead, accepted}
use Rattle.builder.proofs.TwoLines as two
use Rattle.builder.proofs.Ends as ends
use Rattle.builder.proofs.Solved as solved
use Rattle.builder.proofs.Promise as promise
use Rattle.builder.proofs.AsLate.{at_once, alike, built_late, refusal_late, alike_at, any_late_heavy, computes_late, late_computes, ahead_alike}

-- ---- The rule ends: where every row has a distance, a step takes a gate that reads two lines, is no deeper than the greatest limit, and makes the sum of the distances fall.
pub each_step_falls : (ls : List Line) (rs : List Row) → SoundRows rs → Alive ls rs → sum (distances ls rs) ≤ 4096 → 0 < sum (distances ls rs) → ends.Less ls rs (next_gate ls rs)
each_step_falls = ends.next_less

-- ---- Where a row is one gate away, the rule takes the first pair of lines making it. That pair is the first set of two lines for the row:
module _ (ls : List Line) (r : Row) (near : distance 8 ls r.mask r.limit ≡ gates 1) where
  some_two : can 2 r.mask (2 ^ r.limit) ls ≡ true
  some_two = (first_gates r.mask (2 ^ r.limit) ls 8 0 1 near).0

  -- its line numbers are those of the set,
  pub first_pair_is_set : numbers 0 ls (first_set 2 r.mask (2 ^ r.limit) ls) ≡ (first_pair ls r).a ∷ (first_pair ls r).b ∷ []
  first_pair_is_set = two.first_numbers ls r some_two

  -- the gate that reads them makes the row within its limit,
  pub first_pair-makes : two.PairFor ls r (first_pair ls r)
  first_pair-makes = two.first_makes ls r some_two

  -- and no pair that makes it has a lower first line, or the same and a lower second.
  pub first_pair_is_first : (g : Xor) → two.PairFor ls r g → Leads ((first_pair ls r).a ∷ (first_pair ls r).b ∷ []) (g.a ∷ g.b ∷ [])
  first_pair_is_first = two.first_among ls r some_two

-- ---- A call with late signals that nothing refuses.
module _ (n : ℕ) (ar ts ds : List ℕ) (ok : late_refusal n ar ts ds ≡ done) where
  -- The program built has only XOR gates,
  pub late_only_xor : (k : ℕ) → (gate_at (late_built n ar ts ds) k).kind ≡ 0
  unfolding late_built greedy_circuit
  late_only_xor k = kinds (taken (arriving n ar) (rows_of ts ds)) k
    where
      kinds : (gs : List Xor) (k : ℕ) → (get_or (map xor_gate gs) k no_gate).kind ≡ 0
      kinds [] k = refl
      kinds (g ∷ gs) zero = refl
      kinds (g ∷ gs) (suc k) = kinds gs k

  -- is a circuit: its gates read lines with numbers below their own, and its outputs name lines,
  pub late_sound : listing_answer true (late_built n ar ts ds) ≡ done
  late_sound = solved.sound_circuit n ar ts ds (accepted n ar ts ds ok)

  -- so that its stored bytes read back as it, under a matrix too,
  pub late_reads_back : read_stored true (stored (late_built n ar ts ds)) ≡ Ok (late_built n ar ts ds)
  late_reads_back = read-stored true (late_built n ar ts ds) late_sound

  -- has each output at its row's limit or less, counted from the arrivals,
  pub late_within : (j : ℕ) → j < length ts → depth_from ar (late_built n ar ts ds) j ≤ get_or ds j 0
  late_within = solved.in_limit n ar ts ds (accepted n ar ts ds ok)

  -- computes the matrix on all inputs: output j on input value x is the sum of the inputs in row j,
  pub late_matrix : (x j : ℕ) → j < length ts → output_on (late_built n ar ts ds) x j ≡ row_value_on n (get_or ts j 0) x
  late_matrix = solved.computes_row n ar ts ds (accepted n ar ts ds ok)

  -- and has at most the sum over rows of (weight - 1) gates.
  pub late_few_gates : length (late_built n ar ts ds).gates ≤ sum (map (λ (t : ℕ). weight n t - 1) ts)
  late_few_gates = solved.few_gates n ar ts ds (accepted n ar ts ds ok)

-- Too shallow, of a call that no refusal ahead of 10 stops:
module _ (n : ℕ) (ar ts ds : List ℕ) (p : Ahead n ar ts ds) where
  -- 10 is answered exactly when a row's sum of 2 ^ arrival exceeds 2 ^ its limit,
  pub too_shallow_is_late : (late_refusal n ar ts ds ≡ Err TooShallow) ↔ (any_of (map (too_late n ar) (rows_of ts ds)) ≡ true)
  too_shallow_is_late = (solved.shallow_late n ar ts ds p, solved.late_shallow n ar ts ds p)

  -- and that is the same as no XOR program over the inputs at those arrivals making each row within its own limit.
  pub too_shallow_is_no_late_program : (late_refusal n ar ts ds ≡ Err TooShallow) ↔ ((gs : List Xor) → ComputesLate n ar ts ds gs → ⊥)
  too_shallow_is_no_late_program = (solved.shallow-none n ar ts ds p, solved.none-shallow n ar ts ds p)

-- ---- The call of 01 is the case of arrivals 0 and one limit: its answers are those of that call,
pub as_late : (n : ℕ) (ts : List ℕ) (D : ℕ) → (refusal n ts D ≡ late_refusal n (at_once n) ts (alike D ts)) × (built n ts D ≡ late_built n (at_once n) ts (alike D ts))
as_late n ts D = (refusal_late n ts D, built_late n ts D)

-- and so are its theorems. A matrix that nothing refuses:
module _ (n : ℕ) (ts : List ℕ) (D : ℕ) (ok : refusal n ts D ≡ done) where
  taken_late : late_refusal n (at_once n) ts (alike D ts) ≡ done
  taken_late = sym (refusal_late n ts D) ∙ ok

  -- what holds of the program that is built for the call with late signals
  by_late : {A : Type 0} → (P : Listing → A) → P (built n ts D) ≡ P (late_built n (at_once n) ts (alike D ts))
  by_late P = ap P (built_late n ts D)

  -- The program built has only XOR gates,
  pub only_xor : (k : ℕ) → (gate_at (built n ts D) k).kind ≡ 0
  only_xor k = by_late (λ c. (gate_at c k).kind) ∙ late_only_xor n (at_once n) ts (alike D ts) taken_late k

  -- is a circuit,
  pub sound_circuit : listing_answer true (built n ts D) ≡ done
  sound_circuit = by_late (listing_answer true) ∙ late_sound n (at_once n) ts (alike D ts) taken_late

  -- so that its stored bytes read back as it, under a matrix too,
  pub reads-back : read_stored true (stored (built n ts D)) ≡ Ok (built n ts D)
  reads-back = read-stored true (built n ts D) sound_circuit

  -- has depth at most D,
  pub depth_within : depth_of (built n ts D) ≤ D
  depth_within = subst (λ (c : Listing). depth_of c ≤ D) (sym (built_late n ts D)) (overall-within (depths c.inputs (gate_at c) (length c.gates)) c.outs each)
    where
      c : Listing
      c = late_built n (at_once n) ts (alike D ts)

      overall-within : (ls os : List ℕ) → ((j : ℕ) → j < length os → get_or ls (get_or os j 0) 0 ≤ D) → overall os ls ≤ D
      overall-within ls [] f = omega arith
      overall-within ls (o ∷ os) f = omega (arith, f 0 (omega arith), overall-within ls os (λ j h. f (suc j) (omega arith)))

      each : (j : ℕ) → j < length c.outs → depth_from (at_once c.inputs) c j ≤ D
      each j h =
          let l = promise.late_outs n (at_once n) ts (alike D ts) (sym (length-replicate (length ts) D)) in
          let k : j < length ts = omega (arith, l) in
          omega (arith, ap (λ (k : ℕ). depth_from (at_once k) c j) (promise.late_inputs n (at_once n) ts (alike D ts)), late_within n (at_once n) ts (alike D ts) taken_late j k, alike_at D (length ts) j k)

  -- computes the matrix on all inputs: output j on input value x is the sum of the inputs in row j,
  pub computes_matrix : (x j : ℕ) → j < length ts → output_on (built n ts D) x j ≡ row_value_on n (get_or ts j 0) x
  computes_matrix x j h = by_late (λ c. output_on c x j) ∙ late_matrix n (at_once n) ts (alike D ts) taken_late x j h

  -- and has at most the sum over rows of (weight - 1) gates.
  pub few_gates : length (built n ts D).gates ≤ sum (map (λ (t : ℕ). weight n t - 1) ts)
  few_gates = omega (arith, by_late (λ c. length c.gates), late_few_gates n (at_once n) ts (alike D ts) taken_late)

-- Too shallow: n and the number of rows are in range, no row is bad, and D is at most 15.
module _ (n : ℕ) (ts : List ℕ) (D : ℕ) (shape : shaped n (length ts) 0 ≡ true) (rows : any_of (map (bad_row n) ts) ≡ false) (depth : D ≤ 15) where
  -- 10 is answered exactly when a row's weight exceeds 2 ^ D,
  pub too_shallow_is_heavy : (refusal n ts D ≡ Err TooShallow) ↔ (any_of (map (too_heavy n D) ts) ≡ true)
  too_shallow_is_heavy =
      let q = too_shallow_is_late n (at_once n) ts (alike D ts) (ahead_alike n ts D shape rows depth) in
      (λ e. sym (any_late_heavy n ts D) ∙ q.0 (sym (refusal_late n ts D) ∙ e), λ e. refusal_late n ts D ∙ q.1 (any_late_heavy n ts D ∙ e))

  -- and that is the same as no XOR program of that depth computing the matrix.
  pub too_shallow_is_no_program : (refusal n ts D ≡ Err TooShallow) ↔ ((gs : List Xor) → Computes n ts D gs → ⊥)
  too_shallow_is_no_program =
      let q = too_shallow_is_no_late_program n (at_once n) ts (alike D ts) (ahead_alike n ts D shape rows depth) in
      (λ e gs c. q.0 (sym (refusal_late n ts D) ∙ e) gs (computes_late n ts D gs c), λ f. refusal_late n ts D ∙ q.1 (λ gs c. f gs (late_computes n ts D gs c)))
