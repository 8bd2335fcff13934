-- The circuit built for a call that nothing refuses: its gates, its outputs' depths and values; and that 10 is given exactly where there is no program.
use Rattle.std.specs.Prelude.{Err}
use Rattle.circuit.specs.Rules.{done}
use mathlib.Core.Bool.{Bool, true, false, cond}
use mathlib.Core.List.{List, [], ◌∷◌, ◌++◌, map}
use mathlib.Core.Path.{◌≡◌, refl, sym, ap, ap₂, ◌∙◌, subst}
use Prim.Native.Nat.{ℕ, zero, suc, ◌+◌, ◌-◌, ◌^◌, ◌≤◌, ◌<◌}
use native.Mathlib.Omega.{arith}
use borrow.Author.Tests.{lt-ltb, ltb-true, eqb-true, leb-true, eq-eqb, le-leb}
use lib.Dec.{leb, eqb}
use lib.ListN.{length, get_or, length-append, length-map}
use Rattle.circuit.specs.declared.Refusal.TheVariants.{TooShallow}
use Rattle.circuit.specs.Gate.{row_value_on}
use Rattle.circuit.specs.Lines.{gate_at, output_on, depth_step, truth_step, any_of, lines, values}
use Rattle.circuit.specs.Rules.{gate_answer, out_answer, gates_answer, outs_answer, listing_answer}
use Rattle.circuit.proofs.ParityLaws.{row-none}
use Rattle.circuit.proofs.RuleLaws.{two_fit}
use Rattle.circuit.proofs.Lists.{map_at}
use Rattle.distance.specs.Base.{Line, none, Xor, made, run, Reads, Makes, arriving, weight, load}
use Rattle.distance.specs.Distance.{gates}
use Rattle.distance.proofs.Tests.{both_cases}
use Rattle.distance.proofs.Weight.{too-late}
use Rattle.builder.specs.Rule.{Row, row, rows_of, reach, count, away, distances, sum, makes, taken, lowest, lowest_from, xor_gate, greedy_circuit}
use Rattle.builder.specs.Late.{late_built, too_late, late_refusal}
use Rattle.builder.specs.Matrix.{ComputesLate, depth_from}
use Rattle.builder.specs.Kept.{SoundRow, SoundRows, Alive, Looking}
use Rattle.builder.proofs.Lists.{rows_length, rows_at}
use Rattle.builder.proofs.Reach.{reach_fewest}
use Rattle.builder.proofs.Ends.{Reached, enough}
use Rattle.builder.proofs.Refusals.{Ahead, Accepted, looking, any_some, refused_last}
use Rattle.builder.proofs.Begin.{Right, rights, first_alive, first_sound, first_sum, first_little, arriving-length}
use Rattle.builder.proofs.Promise.{late_shaped, late_gates}
use Rattle.builder.proofs.Values.{lines_whole, depth-step, arrival_depths, value_step, input_values}

-- ---- a line that makes a row, and the lowest such line
pub record MadeAt (ls : List Line) (r : Row) (at : ℕ) : Type 0 where
  pub within : at < length ls
  pub mask : (get_or ls at none).mask ≡ r.mask
  pub depth : (get_or ls at none).depth ≤ r.limit

-- a row of distance 0 is made by a line
pub made_row : (ls : List Line) (r : Row) → SoundRow r → reach ls r ≡ gates 0 → (at : ℕ) × MadeAt ls r at
made_row ls r ok e = let p = (reach_fewest ls r ok 0 e).program in go p.gates p.count p.makes
  where
    go : (gs : List Xor) → length gs ≡ 0 → Makes ls gs r.mask r.limit → (at : ℕ) × MadeAt ls r at
    go (g ∷ gs) z m = absurd (omega arith)
    go [] z m = (m.at, record { within = m.within; mask = m.mask; depth = m.depth })

-- among the lines that are numbered from i on
record MadeFrom (ls : List Line) (r : Row) (i at : ℕ) : Type 0 where
  from : i ≤ at
  made : MadeAt ls r (at - i)

lowest-from : (r : Row) (i : ℕ) (ls : List Line) (at : ℕ) → MadeAt ls r at → MadeFrom ls r i (lowest_from r i ls)
lowest-from r i [] at m = absurd (omega (arith, m.within))
lowest-from r i (l ∷ ls) at m = go (makes r l) refl (λ k q. lowest-from r (suc i) ls k q) at m
  where
    later : (k : ℕ) → MadeFrom ls r (suc i) k → MadeFrom (l ∷ ls) r i k
    later k f =
        let e : k - i ≡ suc (k - suc i) = omega (arith, f.from) in
        let m = f.made in
        record {
          from = omega (arith, f.from);
          made =
              record {
                within = omega (arith, m.within);
                mask = ap (λ (u : ℕ). (get_or (l ∷ ls) u none).mask) e ∙ m.mask;
                depth = subst (λ (u : ℕ). (get_or (l ∷ ls) u none).depth ≤ r.limit) (sym e) m.depth;
              };
        }

    go : (x : Bool) → makes r l ≡ x → ((k : ℕ) → MadeAt ls r k → MadeFrom ls r (suc i) (lowest_from r (suc i) ls)) → (at : ℕ) → MadeAt (l ∷ ls) r at
        → MadeFrom (l ∷ ls) r i (cond x i (lowest_from r (suc i) ls))
    go true e rest at m =
        let b = both_cases (eqb l.mask r.mask) (leb l.depth r.limit) e in
        let z : i - i ≡ 0 = omega arith in
        record {
          from = omega arith;
          made =
              record {
                within = omega arith;
                mask = ap (λ (u : ℕ). (get_or (l ∷ ls) u none).mask) z ∙ eqb-true l.mask r.mask b.0;
                depth = subst (λ (u : ℕ). (get_or (l ∷ ls) u none).depth ≤ r.limit) (sym z) (leb-true l.depth r.limit b.1);
              };
        }
    go false e rest zero m =
        let t : makes r l ≡ true = rw (eq-eqb l.mask r.mask m.mask, le-leb l.depth r.limit m.depth) in
        let z : ◌≡◌ {A = ℕ} 0 1 = cc in
        absurd (omega arith)
    go false e rest (suc at) m =
        later (lowest_from r (suc i) ls) (rest at (record { within = omega (arith, m.within); mask = m.mask; depth = m.depth }))

pub lowest-makes : (ls : List Line) (r : Row) (at : ℕ) → MadeAt ls r at → MadeAt ls r (lowest ls r)
lowest-makes ls r at m =
    let f = lowest-from r 0 ls at m in
    let z : lowest ls r - 0 ≡ lowest ls r = omega arith in
    subst (MadeAt ls r) z f.made

-- ---- lists
sum-none : (xs : List ℕ) → sum xs ≡ 0 → (i : ℕ) → get_or xs i 0 ≡ 0
sum-none [] e i = refl
sum-none (x ∷ xs) e zero = omega arith
sum-none (x ∷ xs) e (suc i) = sum-none xs (omega arith) i

alive_at : (ls : List Line) (rs : List Row) → Alive ls rs → (i : ℕ) → i < length rs → (g : ℕ) × (reach ls (get_or rs i (row 0 0)) ≡ gates g)
alive_at ls [] a i h = absurd (omega arith)
alive_at ls (r ∷ rs) a zero h = a.0
alive_at ls (r ∷ rs) a (suc i) h = alive_at ls rs a.1 i (omega arith)

sound_at : (rs : List Row) → SoundRows rs → (i : ℕ) → i < length rs → SoundRow (get_or rs i (row 0 0))
sound_at [] s i h = absurd (omega arith)
sound_at (r ∷ rs) s zero h = s.0
sound_at (r ∷ rs) s (suc i) h = sound_at rs s.1 i (omega arith)

-- ---- XOR gates that read lines, and outputs that name lines, pass the rules
gates_fine : (ls : List Line) (hs : List Xor) → Reads ls hs → gates_answer true (length ls) (map xor_gate hs) ≡ done
unfolding gates_answer gate_answer
gates_fine ls [] w = refl
gates_fine ls (g ∷ hs) w =
    let l : suc (length ls) ≡ length (ls ++ (made ls g ∷ [])) = omega (arith, length-append ls (made ls g ∷ [])) in
    rw (two_fit (length ls) (xor_gate g) (omega arith), lt-ltb g.a (length ls) w.0, lt-ltb g.b (length ls) w.1, l) (gates_fine (ls ++ (made ls g ∷ [])) hs w.2)

outs_fine : (k : ℕ) (os : List ℕ) → ((i : ℕ) → i < length os → get_or os i 0 < k) → outs_answer k os ≡ done
unfolding outs_answer out_answer
outs_fine k [] f = refl
outs_fine k (o ∷ os) f = rw (lt-ltb o k (f 0 (omega arith))) (outs_fine k os (λ i h. f (suc i) (omega arith)))

run_length : (ls : List Line) (hs : List Xor) → length (run ls hs) ≡ length ls + length hs
run_length ls [] = omega arith
run_length ls (g ∷ hs) = omega (arith, run_length (ls ++ (made ls g ∷ [])) hs, length-append ls (made ls g ∷ []))

-- ---- a call that nothing refuses
module _ (n : ℕ) (ar ts ds : List ℕ) (a : Accepted n ar ts ds) where
  abbrev first : List Line
  first = arriving n ar

  abbrev rs : List Row
  rs = rows_of ts ds

  abbrev gs : List Xor
  gs = taken first rs

  abbrev all : List Line
  all = run first gs

  abbrev at : ℕ → ℕ
  at i = lowest all (row (get_or ts i 0) (get_or ds i 0))

  seen : Looking n ar ts ds
  seen = looking n ar ts ds a.ahead

  R : (i : ℕ) → i < length ts → Right n ar (get_or ts i 0) (get_or ds i 0)
  R = rights n ar ts ds a

  sum_is : sum (distances first rs) ≡ sum (map (λ (t : ℕ). weight n t - 1) ts)
  sum_is = first_sum n ar seen.fit.inputs ts ds seen.limits R

  sum_small : sum (map (λ (t : ℕ). weight n t - 1) ts) ≤ 224
  sum_small = omega (arith, first_little n ar seen.fit.inputs ts seen.fit.below, seen.fit.few)

  rows_sound : SoundRows rs
  rows_sound = first_sound n ar seen.fit.inputs ts ds seen.limits R

  reached : Reached first rs gs
  unfolding taken
  reached =
      enough 224 first rs rows_sound (first_alive n ar seen.fit.inputs ts ds seen.limits R)
      (omega (arith, sum_is, sum_small)) (omega (arith, sum_is, sum_small))

  -- the gates are few
  pub few_gates : length (late_built n ar ts ds).gates ≤ sum (map (λ (t : ℕ). weight n t - 1) ts)
  few_gates = omega (arith, late_gates n ar ts ds, reached.few, sum_is)

  in_rows : (i : ℕ) → i < length ts → i < length rs
  in_rows i h = omega (arith, rows_length ts ds seen.limits)

  -- each row has a line within its limit
  row_made : (i : ℕ) → i < length ts → MadeAt all (row (get_or ts i 0) (get_or ds i 0)) (at i)
  row_made i h =
      let r = get_or rs i (row 0 0) in
      let v = alive_at all rs reached.alive i (in_rows i h) in
      let z : away all r ≡ 0 = sym (map_at (away all) rs (row 0 0) i (in_rows i h)) ∙ sum-none (distances all rs) reached.done i in
      let g : v.0 ≡ 0 = sym (ap count v.1) ∙ z in
      let m = made_row all r (sound_at rs rows_sound i (in_rows i h)) (v.1 ∙ ap gates g) in
      subst (λ (r : Row). MadeAt all r (lowest all r)) (rows_at ts ds i seen.limits) (lowest-makes all r m.0 m.1)

  -- which its output names
  out_at : (i : ℕ) → i < length ts → get_or (map (lowest all) rs) i 0 ≡ at i
  out_at i h = map_at (lowest all) rs (row 0 0) i (in_rows i h) ∙ ap (lowest all) (rows_at ts ds i seen.limits)

  -- so each output is within its row's limit, counted from the arrivals,
  pub in_limit : (i : ℕ) → i < length ts → depth_from ar (late_built n ar ts ds) i ≤ get_or ds i 0
  unfolding late_built greedy_circuit
  in_limit i h =
      let e = ap (λ (l : List ℕ). lines depth_step 0 l (gate_at (greedy_circuit n first rs)) (length (map xor_gate gs))) (arrival_depths n ar seen.fit.arrivals)
      ∙ lines_whole (λ (l : Line). l.depth) depth_step 0 refl depth-step first gs in
      let m = row_made i h in
      let d : depth_from ar (greedy_circuit n first rs) i ≡ (get_or all (at i) none).depth = ap₂ (λ (l : List ℕ) (k : ℕ). get_or l k 0) e (out_at i h) ∙ map_at (λ (l : Line). l.depth) all none (at i) m.within in
      omega (arith, d, m.depth)

  -- and the circuit computes the row
  pub computes_row : (x i : ℕ) → i < length ts → output_on (late_built n ar ts ds) x i ≡ row_value_on n (get_or ts i 0) x
  unfolding late_built greedy_circuit
  computes_row x i h =
      let of : Line → ℕ = λ l. row_value_on n l.mask x in
      let e : values x n (gate_at (greedy_circuit n first rs)) (length (map xor_gate gs)) ≡ map of all =
      ap (λ (l : List ℕ). lines truth_step 0 l (gate_at (greedy_circuit n first rs)) (length (map xor_gate gs))) (input_values n n ar x (omega arith))
      ∙ lines_whole (λ (l : Line). row_value_on n l.mask x) truth_step 0 (sym (row-none n x)) (value_step n x) first gs in
      ap₂ (λ (l : List ℕ) (k : ℕ). get_or l k 0) e (out_at i h)
      ∙ map_at (λ (l : Line). row_value_on n l.mask x) all none (at i) (row_made i h).within
      ∙ ap (λ (m : ℕ). row_value_on n m x) (row_made i h).mask

  pub program_computes : ComputesLate n ar ts ds gs
  program_computes =
      record {
        reads = reached.reads;
        makes = λ i h. let m = row_made i h in record { reads = reached.reads; at = at i; within = m.within; mask = m.mask; depth = m.depth };
      }

  -- it is a circuit, with XOR gates only
  pub sound_circuit : listing_answer true (late_built n ar ts ds) ≡ done
  unfolding listing_answer late_built greedy_circuit
  sound_circuit =
      let l = arriving-length n ar in
      rw (
        late_shaped n ar ts ds seen.limits a.ahead.shape,
        subst (λ (k : ℕ). gates_answer true k (map xor_gate gs) ≡ done) l (gates_fine first gs reached.reads),
        outs_fine (n + length (map xor_gate gs)) (map (lowest all) rs) outs_below,
      )
    where
      outs_below : (i : ℕ) → i < length (map (lowest all) rs) → get_or (map (lowest all) rs) i 0 < n + length (map xor_gate gs)
      outs_below i h =
          let k : i < length ts = omega (arith, length-map rs (lowest all), rows_length ts ds seen.limits) in
          omega (arith, out_at i k, (row_made i k).within, run_length first gs, arriving-length n ar, length-map gs xor_gate)

-- ---- too shallow
module _ (n : ℕ) (ar ts ds : List ℕ) (p : Ahead n ar ts ds) where
  abbrev late : Bool
  late = any_of (map (too_late n ar) (rows_of ts ds))

  -- a program makes each row within its limit, and no program makes a row that is too late
  no_program : late ≡ true → (gs : List Xor) → ComputesLate n ar ts ds gs → ⊥
  no_program e gs c =
      let l = (looking n ar ts ds p).limits in
      let s = any_some (too_late n ar) (rows_of ts ds) (row 0 0) e in
      let i = s.at in
      let t = get_or ts i 0 in
      let D = get_or ds i 0 in
      let over = ltb-true (2 ^ D) (load n ar t) (ap (too_late n ar) (sym (rows_at ts ds i l)) ∙ s.holds) in
      too-late n ar t D (length gs) over (record { gates = gs; count = refl; makes = c.makes i (omega (arith, s.within, rows_length ts ds l)) })

  pub shallow_late : late_refusal n ar ts ds ≡ Err TooShallow → late ≡ true
  shallow_late e = go late refl
    where
      go : (x : Bool) → late ≡ x → late ≡ true
      go true h = h
      go false h = let q = sym (refused_last n ar ts ds p false h) ∙ e in let z : ◌≡◌ {A = ℕ} 0 1 = cc in absurd (omega arith)

  pub late_shallow : late ≡ true → late_refusal n ar ts ds ≡ Err TooShallow
  late_shallow h = refused_last n ar ts ds p true h

  pub shallow-none : late_refusal n ar ts ds ≡ Err TooShallow → (gs : List Xor) → ComputesLate n ar ts ds gs → ⊥
  shallow-none e = no_program (shallow_late e)

  pub none-shallow : ((gs : List Xor) → ComputesLate n ar ts ds gs → ⊥) → late_refusal n ar ts ds ≡ Err TooShallow
  none-shallow f = go late refl
    where
      go : (x : Bool) → late ≡ x → late_refusal n ar ts ds ≡ Err TooShallow
      go true h = late_shallow h
      go false h = absurd (f (taken (arriving n ar) (rows_of ts ds)) (program_computes n ar ts ds (record { ahead = p; light = h })))
