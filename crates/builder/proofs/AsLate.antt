-- The call of 01 is the case of arrivals 0 and one limit for all rows: its circuit, its refusals, its plan, and the programs that compute a matrix.
use Rattle.std.specs.Prelude.{Ok, Err}
use mathlib.Core.Bool.{Bool, true, false, not, ◌||◌, or-false, or_self}
use mathlib.Core.List.{List, [], ◌∷◌, map}
use mathlib.Core.Path.{◌≡◌, refl, sym, ap, ap₂, ◌∙◌, subst}
use Prim.Native.Nat.{ℕ, zero, suc, ◌+◌, ◌-◌, ◌^◌, ◌≤◌, ◌<◌, min}
use native.Mathlib.Decide.{dec_lt}
use native.Mathlib.Omega.{arith}
use borrow.Author.Tests.{eq-eqb, le-leb, lt-leb, lt-ltb, le-ltb}
use lib.Dec.{leb, ltb}
use lib.ListN.{length, get_or, take, replicate, length-replicate, replicate-append-replicate}
use lib.Seq.{take_at}
use Rattle.circuit.specs.declared.Refusal.TheVariants.{Shape, Length, Target, TooDeep, TooShallow}
use Rattle.circuit.specs.Lines.{Listing, any_of}
use Rattle.circuit.specs.Structs.{held}
use Rattle.circuit.specs.Rules.{Answer, done, shaped, and_then, unless}
use Rattle.circuit.proofs.Padding.{pad_read}
use Rattle.circuit.proofs.Shapes.{past, shape_is}
use Rattle.distance.specs.Base.{Line, Xor, Reads, Makes, inputs, arriving}
use Rattle.distance.proofs.Weight.{arriving-none, load-none}
use Rattle.builder.specs.Rule.{Row, row, rows_of, greedy_circuit}
use Rattle.builder.specs.Call.{within, built, bad_row, too_heavy, refusal, plan_of}
use Rattle.builder.specs.Late.{late_built, lists_fit, any_deep, too_late, late_refusal, late_plan_of}
use Rattle.builder.specs.Matrix.{Computes, ComputesLate}
use Rattle.builder.proofs.Refusals.{Ahead, Accepted, accepted}
use Rattle.builder.proofs.Promise.{late_inputs, late_outs, late_few}

-- an arrival of 0 for each input
abbrev pub at_once : ℕ → List ℕ
at_once n = replicate n 0

-- the limit D for each row
abbrev pub alike : ℕ → List ℕ → List ℕ
alike D ts = replicate (length ts) D

-- ---- lists of one number
pub none_arrives : (n i : ℕ) → get_or (at_once n) i 0 ≡ 0
none_arrives n i = pad_read [] n i 0

pub alike_at : (D m i : ℕ) → i < m → get_or (replicate m D) i 0 ≡ D
alike_at D zero i h = absurd (omega arith)
alike_at D (suc m) zero h = refl
alike_at D (suc m) (suc i) h = alike_at D m i (omega arith)

pub same_taken : (m cap x : ℕ) → m ≤ cap → take m (replicate cap x) ≡ replicate m x
same_taken m cap x h =
    let e : cap ≡ m + (cap - m) = omega arith in
    ap (λ (k : ℕ). take m (replicate k x)) e
    ∙ ap (take m) (sym (replicate-append-replicate m (cap - m) x))
    ∙ take_at (replicate m x) (replicate (cap - m) x) m (length-replicate m x)

rows_alike : (D : ℕ) (ts : List ℕ) → rows_of ts (alike D ts) ≡ within D ts
rows_alike D [] = refl
rows_alike D (t ∷ ts) = ap (λ (l : List Row). row t D ∷ l) (rows_alike D ts)

at-once : (n : ℕ) → arriving n (at_once n) ≡ inputs n
at-once n = arriving-none n (at_once n) (none_arrives n)

-- ---- the circuit
pub built_late : (n : ℕ) (ts : List ℕ) (D : ℕ) → built n ts D ≡ late_built n (at_once n) ts (alike D ts)
unfolding built late_built
built_late n ts D = ap₂ (greedy_circuit n) (sym (at-once n)) (sym (rows_alike D ts))

-- ---- the refusals
any_deep_same : (m : ℕ) (x : ℕ) → any_deep (replicate (suc m) x) ≡ ltb 15 x
any_deep_same zero x = or-false (ltb 15 x)
any_deep_same (suc m) x = ap (λ (b : Bool). ltb 15 x || b) (any_deep_same m x) ∙ or_self (ltb 15 x)

none_deep : (m : ℕ) → any_deep (replicate m 0) ≡ false
none_deep zero = refl
none_deep (suc m) = none_deep m

deep_alike : (m x : ℕ) → 0 < m → any_deep (replicate m x) ≡ ltb 15 x
deep_alike zero x h = absurd (omega arith)
deep_alike (suc m) x h = any_deep_same m x

over_fifteen : (D : ℕ) → not (ltb 15 D) ≡ leb D 15
over_fifteen D = elim (dec_lt 15 D) [
  | yes h ↦ ap not (lt-ltb 15 D h) ∙ sym (lt-leb D 15 h)
  | no h ↦ ap not (le-ltb 15 D (omega arith)) ∙ sym (le-leb D 15 (omega arith))
]

heavy_late : (n D : ℕ) (ar ts : List ℕ) → ((i : ℕ) → get_or ar i 0 ≡ 0) → map (too_late n ar) (within D ts) ≡ map (too_heavy n D) ts
heavy_late n D ar [] z = refl
heavy_late n D ar (t ∷ ts) z = ap₂ (λ (x : Bool) (l : List Bool). x ∷ l) (ap (ltb (2 ^ D)) (load-none n ar t z)) (heavy_late n D ar ts z)

module _ (n : ℕ) (ts : List ℕ) (D : ℕ) where
  pub any_late_heavy : any_of (map (too_late n (at_once n)) (rows_of ts (alike D ts))) ≡ any_of (map (too_heavy n D) ts)
  any_late_heavy = ap (λ (l : List Row). any_of (map (too_late n (at_once n)) l)) (rows_alike D ts) ∙ ap any_of (heavy_late n D (at_once n) ts (none_arrives n))

  pub refusal_late : refusal n ts D ≡ late_refusal n (at_once n) ts (alike D ts)
  unfolding refusal late_refusal
  refusal_late = go (shaped n (length ts) 0) refl
    where
      rest : shaped n (length ts) 0 ≡ true → unless (not (any_of (map (bad_row n) ts))) Target (unless (leb D 15) TooDeep (unless (not (any_of (map (too_heavy n D) ts))) TooShallow done))
          ≡ unless (lists_fit n (at_once n) ts (alike D ts)) Length
          (unless (not (any_of (map (bad_row n) ts))) Target
          (unless (not (any_deep (at_once n) || any_deep (alike D ts))) TooDeep
          (unless (not (any_of (map (too_late n (at_once n)) (rows_of ts (alike D ts))))) TooShallow done)))
      rest h =
          rw (
            eq-eqb (length (at_once n)) n (length-replicate n 0),
            eq-eqb (length (alike D ts)) (length ts) (length-replicate (length ts) D),
            none_deep n,
            deep_alike (length ts) D (omega (arith, (shape_is n (length ts) 0 h).m_least)),
            over_fifteen D,
            any_late_heavy,
          )

      go : (x : Bool) → shaped n (length ts) 0 ≡ x
          → unless x Shape (unless (not (any_of (map (bad_row n) ts))) Target (unless (leb D 15) TooDeep (unless (not (any_of (map (too_heavy n D) ts))) TooShallow done)))
          ≡ unless x Shape
          (unless (lists_fit n (at_once n) ts (alike D ts)) Length
          (unless (not (any_of (map (bad_row n) ts))) Target
          (unless (not (any_deep (at_once n) || any_deep (alike D ts))) TooDeep
          (unless (not (any_of (map (too_late n (at_once n)) (rows_of ts (alike D ts))))) TooShallow done))))
      go true h = rest h
      go false h = refl

-- a call of 01 that no refusal ahead of 10 stops
pub ahead_alike : (n : ℕ) (ts : List ℕ) (D : ℕ) → shaped n (length ts) 0 ≡ true → any_of (map (bad_row n) ts) ≡ false → D ≤ 15 → Ahead n (at_once n) ts (alike D ts)
ahead_alike n ts D shape rows depth =
    record {
      shape = shape;
      arrivals = length-replicate n 0;
      limits = length-replicate (length ts) D;
      rows = rows;
      early = none_deep n;
      shallow = deep_alike (length ts) D (omega (arith, (shape_is n (length ts) 0 shape).m_least)) ∙ le-ltb 15 D depth;
    }

-- ---- the plan

-- n or the number of rows out of range
pub shape_plan : (n : ℕ) (ts : List ℕ) (D : ℕ) → shaped n (length ts) 0 ≡ false → plan_of n ts D ≡ Err Shape
unfolding plan_of refusal
shape_plan n ts D h = rw h

-- beside a refusal there is no circuit
refused_alike : (a : Answer) (b c : Listing) → (a ≡ done → ⊥) → and_then a (Ok (held b)) ≡ and_then a (Ok (held c))
refused_alike (Ok _) b c h = absurd (h refl)
refused_alike (Err w) b c h = refl

-- every depth limit over 15 is refused alike, and before anything that depends on it
too_deep : (n : ℕ) (ts : List ℕ) (D E : ℕ) → 15 < D → 15 < E → refusal n ts D ≡ refusal n ts E
unfolding refusal
too_deep n ts D E h k =
    ap (λ (x : Bool). unless (shaped n (length ts) 0) Shape (unless (not (any_of (map (bad_row n) ts))) Target (unless x TooDeep (unless (not (any_of (map (too_heavy n D) ts))) TooShallow done)))) (lt-leb D 15 h)
    ∙ ap (λ (x : Bool). unless (shaped n (length ts) 0) Shape (unless (not (any_of (map (bad_row n) ts))) Target (unless x TooDeep (unless (not (any_of (map (too_heavy n E) ts))) TooShallow done)))) (sym (lt-leb E 15 k))

deep_refused : (n : ℕ) (ts : List ℕ) (D : ℕ) → 15 < D → refusal n ts D ≡ done → ⊥
unfolding refusal
deep_refused n ts D h e =
    let a = past (shaped n (length ts) 0) Shape e in
    let b = past (not (any_of (map (bad_row n) ts))) Target a.1 in
    let c = past (leb D 15) TooDeep b.1 in
    let q = sym (lt-leb D 15 h) ∙ c.0 in
    let z : ◌≡◌ {A = ℕ} 0 1 = cc in
    omega arith

module _ (n : ℕ) (ts : List ℕ) where
  plan_at : (D : ℕ) → plan_of n ts D ≡ late_plan_of n (at_once n) ts (alike D ts)
  unfolding plan_of late_plan_of
  plan_at D = ap₂ (λ (a : Answer) (c : Listing). and_then a (Ok (held c))) (refusal_late n ts D) (built_late n ts D)

  -- a limit may be given in a byte: 16 for each one over 15
  pub plan_late : (D : ℕ) → plan_of n ts D ≡ late_plan_of n (at_once n) ts (alike (min D 16) ts)
  unfolding plan_of
  plan_late D = elim (dec_lt 15 D) [
    | yes h ↦
        let e : min D 16 ≡ 16 = omega arith in
        ap (λ (a : Answer). and_then a (Ok (held (built n ts D)))) (too_deep n ts D 16 h (omega arith))
        ∙ refused_alike (refusal n ts 16) (built n ts D) (built n ts 16) (deep_refused n ts 16 (omega arith))
        ∙ plan_at 16
        ∙ ap (λ (x : ℕ). late_plan_of n (at_once n) ts (alike x ts)) (sym e)
    | no h ↦
        let e : min D 16 ≡ D = omega arith in
        plan_at D ∙ ap (λ (x : ℕ). late_plan_of n (at_once n) ts (alike x ts)) (sym e)
  ]

-- ---- programs that compute the matrix
module _ (n : ℕ) (ts : List ℕ) (D : ℕ) (gs : List Xor) where
  pub computes_late : Computes n ts D gs → ComputesLate n (at_once n) ts (alike D ts) gs
  computes_late c =
      record {
        reads = subst (λ (l : List Line). Reads l gs) (sym (at-once n)) c.reads;
        makes = λ i h. subst (λ (l : List Line). Makes l gs (get_or ts i 0) (get_or (alike D ts) i 0)) (sym (at-once n)) (subst (Makes (inputs n) gs (get_or ts i 0)) (sym (alike_at D (length ts) i h)) (c.makes i h));
      }

  pub late_computes : ComputesLate n (at_once n) ts (alike D ts) gs → Computes n ts D gs
  late_computes c =
      record {
        reads = subst (λ (l : List Line). Reads l gs) (at-once n) c.reads;
        makes = λ i h. subst (λ (l : List Line). Makes l gs (get_or ts i 0) D) (at-once n) (subst (Makes (arriving n (at_once n)) gs (get_or ts i 0)) (alike_at D (length ts) i h) (c.makes i h));
      }

-- ---- the circuit built has room in a stored form
module _ (n : ℕ) (ts : List ℕ) (D : ℕ) where
  pub built_accepted : refusal n ts D ≡ done → Accepted n (at_once n) ts (alike D ts)
  built_accepted ok = accepted n (at_once n) ts (alike D ts) (sym (refusal_late n ts D) ∙ ok)

  pub built-inputs : (built n ts D).inputs ≡ n
  built-inputs = ap (λ (c : Listing). c.inputs) (built_late n ts D) ∙ late_inputs n (at_once n) ts (alike D ts)

  pub built_outs : length (built n ts D).outs ≡ length ts
  built_outs = ap (λ (c : Listing). length c.outs) (built_late n ts D) ∙ late_outs n (at_once n) ts (alike D ts) (sym (length-replicate (length ts) D))

  pub built_few : length (built n ts D).gates ≤ 224
  built_few = omega (arith, ap (λ (c : Listing). length c.gates) (built_late n ts D), late_few n (at_once n) ts (alike D ts))
