-- Depth ends at an output. A circuit's depth is the length of the longest path from an input to an output, as document 004 has it; its AND
-- depth counts the nonlinear gates on a path. Trial gates at the end of the list change neither.
use mathlib.Core.Path.{◌≡◌, refl, sym, ap, ap₂, ◌∙◌, subst}
use mathlib.Core.Bool.{Bool}
use mathlib.Core.Logic.{◌⊎◌, inl, inr, ⊎_elim}
use mathlib.Core.List.Memᴰ
use mathlib.Core.List.{List, [], ◌∷◌, ◌++◌, map, Memᴰ}
use Prim.Native.Nat.{ℕ, zero, suc, ◌+◌, ◌≤◌, ◌<◌, max}
use native.Mathlib.Omega.{arith}
use lib.ListN.{length, get_or, replicate, length-replicate, length-append, get_or-append}
use Rattle.circuit.specs.Gate.{kind_of, nonlinear}
use Rattle.circuit.specs.Lines.{Gate, Listing, with_gates, gate_at, no_gate, reads, lines, greatest, overall, depth_step, and_depth_step, depth_of, and_depth_of}
use Rattle.circuit.specs.Rules.{done, listing_answer}
use Rattle.circuit.proofs.Keep.{Below}
use Rattle.circuit.proofs.LineLaws.{place, lines_one, lines_more, lines_at, lines_agree}
use Rattle.circuit.proofs.Operands.{reads_one, reads_two, by_operands, reads_below}
use Rattle.circuit.proofs.Padding.{pad_read}
use Rattle.circuit.proofs.RuleLaws.{OutsDone, CircuitFits, circuit_fits, out_below}
use Rattle.bench.proofs.Standing.{all_below}

-- a path from an input to a line, each gate on it reading the line before; and what the gates on it weigh
pub data PathTo (c : Listing) (weight : Gate → ℕ) : ℕ → ℕ → Type 0 where
  starts : {i : ℕ} → i < c.inputs → PathTo c weight i 0
  passes : {i w : ℕ} (j : ℕ) → j < length c.gates → Memᴰ i (reads (gate_at c j)) → PathTo c weight i w → PathTo c weight (c.inputs + j) (w + weight (gate_at c j))

-- some path from an input to an output weighs w, and none weighs more
pub record Longest (c : Listing) (weight : Gate → ℕ) (w : ℕ) : Type 0 where
  pub output : ℕ
  pub named : Memᴰ output c.outs
  pub path : PathTo c weight output w
  pub most : (o v : ℕ) → Memᴰ o c.outs → PathTo c weight o v → v ≤ w

-- ---- the greatest of what some lines have: of a list of lines below m

-- no line has more, and
line-le : (f : ℕ → ℕ) (m r : ℕ) (rs : List ℕ) → Below m rs → Memᴰ r rs → (r < m) × (f r ≤ greatest (map f rs))
line-le f m r [] b e = absurd (Memᴰ.not-nil e)
line-le f m r (x ∷ rs) b e = go (Memᴰ.cases_cons e) (line-le f m r rs b.1)
  where
    go : (r ≡ x) ⊎ Memᴰ r rs → (Memᴰ r rs → (r < m) × (f r ≤ greatest (map f rs))) → (r < m) × (f r ≤ greatest (map f (x ∷ rs)))
    go (inl q) rest = (omega (arith, b.0, q), omega (arith, ap f q))
    go (inr e) rest = let z = rest e in (z.0, omega (arith, z.1))

-- one has just that
line-with : (f : ℕ → ℕ) (rs : List ℕ) → 1 ≤ length rs → (r : ℕ) × Memᴰ r rs × (f r ≡ greatest (map f rs))
line-with f [] h = absurd (omega arith)
line-with f (x ∷ []) h = (x, Memᴰ.head refl, omega arith)
line-with f (x ∷ y ∷ rs) h = go (line-with f (y ∷ rs) (omega arith)) (place (f x) (greatest (map f (y ∷ rs))))
  where
    go : ((r : ℕ) × Memᴰ r (y ∷ rs) × (f r ≡ greatest (map f (y ∷ rs)))) → (f x < greatest (map f (y ∷ rs))) ⊎ ((f x ≡ greatest (map f (y ∷ rs))) ⊎ (greatest (map f (y ∷ rs)) < f x))
        → (r : ℕ) × Memᴰ r (x ∷ y ∷ rs) × (f r ≡ greatest (map f (x ∷ y ∷ rs)))
    go z (inl less) = (z.0, Memᴰ.tail z.1, omega (arith, z.2, less))
    go z (inr more) = (x, Memᴰ.head refl, ⊎_elim (λ e. omega (arith, e)) (λ l. omega (arith, l)) more)

-- a gate reads a line at least
some_read : (q : Gate) → 1 ≤ length (reads q)
some_read q = by_operands (λ (q : Gate). 1 ≤ length (reads q)) q (λ h. omega (arith, ap length (reads_two q h))) (λ h. omega (arith, ap length (reads_one q h)))

-- ---- a circuit that keeps the rules, and what its gates weigh
module _ (only : Bool) (c : Listing) (ok : listing_answer only c ≡ done) where
  abbrev n : ℕ
  n = c.inputs

  abbrev g : ℕ
  g = length c.gates

  fits : CircuitFits only c
  fits = circuit_fits only c ok

  -- what a gate reads, and the outputs name, is there
  read_below : (j : ℕ) → j < g → Below (n + j) (reads (gate_at c j))
  read_below j h = let o = all_below only c fits j h in (reads_below (n + j) (gate_at c j) o.0 o.1).0

  outs_below : Below (n + g) c.outs
  outs_below = each c.outs fits.outs where
    each : (os : List ℕ) → OutsDone (n + g) os → Below (n + g) os
    each [] h = tt
    each (o ∷ os) h = (out_below (n + g) o (h 0 (omega arith)), each os (λ j l. h (suc j) (omega arith)))

  module _ (step : ℕ → Gate → List ℕ → ℕ) where
    abbrev all : ℕ → List ℕ
    all = lines step 0 (replicate n 0) (gate_at c)

    -- a line has the same however many gates follow it
    line_stays : (j i : ℕ) → i < n + j → j ≤ g → get_or (all g) i 0 ≡ get_or (all j) i 0
    line_stays j i h l = lines_more step 0 (replicate n 0) (gate_at c) j i (omega (arith, length-replicate {A = ℕ} n 0)) g l

    gate-line : (j : ℕ) → get_or (all (suc j)) (n + j) 0 ≡ step j (gate_at c j) (map (λ (r : ℕ). get_or (all j) r 0) (reads (gate_at c j)))
    gate-line j = lines_at step 0 (replicate n 0) (gate_at c) j (n + j) (omega (arith, length-replicate {A = ℕ} n 0))

    module _ (weight : Gate → ℕ) (weighs : (k : ℕ) (q : Gate) (xs : List ℕ) → step k q xs ≡ greatest xs + weight q) where
      -- no path to a line weighs more than the line has,
      path_le : (x v : ℕ) → PathTo c weight x v → v ≤ get_or (all g) x 0
      path_le x v (PathTo.starts h) = omega arith
      path_le x v (PathTo.passes {i} {w} j h m p) =
          let q = gate_at c j in
          let below = line-le (λ (r : ℕ). get_or (all j) r 0) (n + j) i (reads q) (read_below j h) m in
          let stays = line_stays j i below.0 (omega arith) in
          let line = line_stays (suc j) (n + j) (omega arith) (omega arith) ∙ gate-line j ∙ weighs j q (map (λ (r : ℕ). get_or (all j) r 0) (reads q)) in
          omega (arith, path_le i w p, below.1, stays, line)

      -- and one weighs as much: of the first j gates' lines, hence of the next
      path_next : (j : ℕ) → j < g → ((i : ℕ) → i < n + j → PathTo c weight i (get_or (all j) i 0)) → (i : ℕ) → i < n + suc j → PathTo c weight i (get_or (all (suc j)) i 0)
      path_next j l before i h = ⊎_elim earlier (λ m. here (⊎_elim (λ e. e) (λ u. absurd (omega arith)) m)) (place i (n + j))
        where
          earlier : i < n + j → PathTo c weight i (get_or (all (suc j)) i 0)
          earlier u = subst (PathTo c weight i) (sym (lines_one step 0 (replicate n 0) (gate_at c) j i (omega (arith, length-replicate {A = ℕ} n 0)))) (before i u)

          here : i ≡ n + j → PathTo c weight i (get_or (all (suc j)) i 0)
          here e =
              let q = gate_at c j in
              let f : ℕ → ℕ = λ r. get_or (all j) r 0 in
              let z = line-with f (reads q) (some_read q) in
              let below = line-le f (n + j) z.0 (reads q) (read_below j l) z.1 in
              let line = gate-line j ∙ weighs j q (map f (reads q)) ∙ ap (λ (x : ℕ). x + weight q) (sym z.2) in
              subst (λ (k : ℕ). PathTo c weight k (get_or (all (suc j)) k 0)) (sym e)
              (subst (PathTo c weight (n + j)) (sym line) (PathTo.passes j l z.1 (before z.0 below.0)))

      path_with : (j : ℕ) → j ≤ g → (i : ℕ) → i < n + j → PathTo c weight i (get_or (all j) i 0)
      unfolding lines
      path_with zero l i h = subst (PathTo c weight i) (sym (pad_read {A = ℕ} [] n i 0)) (PathTo.starts (omega arith))
      path_with (suc j) l i h = path_next j (omega arith) (path_with j (omega arith)) i h

      -- so the circuit as a whole has what the longest path to an output weighs
      longest : Longest c weight (overall c.outs (all g))
      longest =
          let f : ℕ → ℕ = λ o. get_or (all g) o 0 in
          let z = line-with f c.outs fits.shape.m_least in
          let below = line-le f (n + g) z.0 c.outs outs_below z.1 in
          record {
            output = z.0;
            named = z.1;
            path = subst (PathTo c weight z.0) z.2 (path_with g (omega arith) z.0 below.0);
            most = λ o v m p. omega (arith, path_le o v p, (line-le f (n + g) o c.outs outs_below m).1);
          }

  -- The depth is the length of the longest path from an input to an output,
  pub depth_longest : Longest c (λ (q : Gate). 1) (depth_of c)
  depth_longest = longest depth_step (λ (q : Gate). 1) (λ k q xs. omega arith)

  -- and the AND depth the most nonlinear gates that one passes.
  pub and_depth_longest : Longest c (λ (q : Gate). nonlinear (kind_of q.kind)) (and_depth_of c)
  and_depth_longest = longest and_depth_step (λ (q : Gate). nonlinear (kind_of q.kind)) (λ k q xs. refl)

  -- ---- gates added at the end, whatever they are
  module _ (trial : List Gate) where
    abbrev longer : Listing
    longer = with_gates c (c.gates ++ trial)

    same_overall : (step : ℕ → Gate → List ℕ → ℕ) → overall c.outs (lines step 0 (replicate n 0) (gate_at longer) (length longer.gates)) ≡ overall c.outs (all step g)
    same_overall step = each c.outs outs_below where
      line : (o : ℕ) → o < n + g → get_or (lines step 0 (replicate n 0) (gate_at longer) (length longer.gates)) o 0 ≡ get_or (all step g) o 0
      line o h =
          lines_more step 0 (replicate n 0) (gate_at longer) g o (omega (arith, length-replicate {A = ℕ} n 0)) (length longer.gates) (omega (arith, length-append c.gates trial))
          ∙ ap (λ (l : List ℕ). get_or l o 0) (lines_agree step 0 (replicate n 0) (gate_at c) (gate_at longer) g (λ i l. get_or-append c.gates trial no_gate i l))

      each : (os : List ℕ) → Below (n + g) os → overall os (lines step 0 (replicate n 0) (gate_at longer) (length longer.gates)) ≡ overall os (all step g)
      each [] b = refl
      each (o ∷ os) b = ap₂ max (line o b.0) (each os b.1)

    -- Trial gates at the end of the list change neither the depth
    pub trial_gates_depth : depth_of longer ≡ depth_of c
    trial_gates_depth = same_overall depth_step

    -- nor the AND depth.
    pub trial_gates_and_depth : and_depth_of longer ≡ and_depth_of c
    trial_gates_and_depth = same_overall and_depth_step
