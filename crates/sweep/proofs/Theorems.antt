-- The theorems of the sweep, of every circuit that is accepted. Assumes nothing.
use Rattle.circuit.specs.Rules.{done}
use mathlib.Core.Path.{◌≡◌, refl, ap, ap₂, ◌∙◌, sym, subst}
use mathlib.Core.Bool.{Bool, true, false}
use mathlib.Core.Logic.{⊎_elim}
use mathlib.Core.List.{List, [], ◌∷◌, ◌++◌, map, map-map}
use Prim.Native.Nat.{ℕ, zero, suc, ◌+◌, ◌≤◌, ◌<◌}
use native.Mathlib.Omega.{arith}
use lib.ListN.{length, get_or, take, replicate, length-replicate, length-take, length-map}
use lib.Seq.{take-suc, take-length, length-take-le}
use Rattle.circuit.specs.Gate.{bit, no_words}
use Rattle.circuit.specs.Lines.{Gate, Listing, gate, listing, gate_at, no_gate, reads, upto, lines, depths, and_depths, words, depth_of, and_depth_of, inputs_on, input_words, output_on, greatest, truth_step, words_step, depth_step, and_depth_step}
use Rattle.circuit.specs.Rules.{gate_answer, listing_answer}
use Rattle.circuit.proofs.Lists.{map_at}
use Rattle.circuit.proofs.Shapes.{Shaped, shape_true}
use Rattle.circuit.proofs.Keep.{Below}
use Rattle.circuit.proofs.LineLaws.{lines_more, place as place_of}
use Rattle.circuit.proofs.RuleLaws.{CircuitFits, circuit_fits, fits_circuit, out_below, out_there}
use Rattle.circuit.proofs.Upto.{upto-length, upto_at}
use Rattle.sweep.specs.Sweep.{has, used, same_gate, place, joined, renamed, Sweep, to, sweep_to, sweep_of, swept}
use Rattle.sweep.proofs.SameLaws.{lt-or-le, has_all, has-map, has_below, has_at, map-has, has_other, back_outs, back-reads, back-all, AllBelow, Alike, alike, Firsts, firsts_differ, firsts_before, joined_cases}
use Rattle.sweep.proofs.FoldLaws.{At, put, placed, turn_kept, new_more, new_input, kept_few, kept_firsts, kept_all, merged, put_reads, kept_from, kept_first, lands, map_below}
use Rattle.sweep.proofs.Fits.{fits_below, renamed_fits, renamed_same}
use Rattle.sweep.proofs.Steps.{Fair, alike_makes, line_is, depth_fair, and_fair, truth_fair, words_fair}

map_same : (f : ℕ → ℕ) (xs : List ℕ) → ((j : ℕ) → j < length xs → f (get_or xs j 0) ≡ get_or xs j 0) → map f xs ≡ xs
map_same f [] h = refl
map_same f (x ∷ xs) h = ap₂ (λ (y : ℕ) (l : List ℕ). y ∷ l) (h 0 (omega arith)) (map_same f xs (λ j l. h (suc j) (omega arith)))

module _ (only : Bool) (c : Listing) (ok : listing_answer only c ≡ done) where
  abbrev n : ℕ
  n = c.inputs

  abbrev g : ℕ
  g = length c.gates

  abbrev S : ℕ → Sweep
  S j = At n (used c) (gate_at c) j

  abbrev fits : CircuitFits only c
  fits = circuit_fits only c ok

  below : AllBelow n c.gates
  below = fits_below only c fits

  -- ---- the swept circuit is accepted, and has no more gates
  pub swept_fewer : length (swept c).gates ≤ length c.gates
  unfolding swept
  swept_fewer = kept_few n (used c) (gate_at c) g

  pub swept_accepted : listing_answer only (swept c) ≡ done
  unfolding swept
  swept_accepted =
      let f = fits in
      let s = f.shape in
      let lo = length-map c.outs (to (S g)) in
      let low = lands n (used c) (gate_at c) s.n_least in
      let shape : Shaped n (length (map (to (S g)) c.outs)) (length (S g).kept) =
      record { n_least = s.n_least; n_most = s.n_most; m_least = omega arith; m_most = omega arith; g_most = omega (arith, kept_few n (used c) (gate_at c) g) } in
      fits_circuit only (swept c)
      (record {
        shape = shape;
        shaped-true = shape_true _ _ _ shape;
        gates =
            kept_all n (used c) (gate_at c) (λ (k : ℕ) (q : Gate). gate_answer only (n + k) q ≡ done) g
            (λ i h e z. renamed_fits (to (S i)) (n + length (S i).kept) (low i) only (n + i) (gate_at c i) (f.gates i h));
        outs = λ j h. out_there (n + length (S g).kept) _ (omega (arith, map_at (to (S g)) c.outs 0 j (omega arith), low g (get_or c.outs j 0)));
      })

  -- ---- what outputs reach, before and after

  -- an output's own line is reached, and so is what a gate reads whose line is
  used_out : (j : ℕ) → j < length c.outs → used c (get_or c.outs j 0) ≡ true
  used_out j h = back_outs n c.gates c.outs _ (has_at c.outs j h)

  used_read : (j : ℕ) → j < g → used c (n + j) ≡ true → (r : ℕ) → has (reads (gate_at c j)) r ≡ true → used c r ≡ true
  used_read = back-reads n c.gates c.outs below

  -- where a gate that is reached went: a gate that is the same, with the new lines of what it reads
  pub record Went (j : ℕ) : Type 0 where
    pub k : ℕ
    pub line : to (S g) (n + j) ≡ n + k
    pub there : k < length (S g).kept
    pub gate : Gate
    pub alike : Alike gate (get_or (S g).kept k no_gate)
    pub kind : gate.kind ≡ (gate_at c j).kind
    pub operands : reads gate ≡ map (to (S g)) (reads (gate_at c j))

  pub went : (j : ℕ) → j < g → used c (n + j) ≡ true → Went j
  unfolding renamed
  went j h e =
      let m = merged n (used c) (gate_at c) j g h e in
      record {
        k = placed n (used c) (gate_at c) j;
        line = m.line;
        there = m.there;
        gate = put n (used c) (gate_at c) j;
        alike = alike _ _ m.same;
        kind = refl;
        operands = put_reads n (used c) (gate_at c) j g (omega arith) (below j h);
      }

  -- ---- no two gates are the same, and each is reached
  pub swept_firsts : Firsts (swept c).gates
  unfolding swept
  swept_firsts = kept_firsts n (used c) (gate_at c) g

  pub swept_distinct : (i k : ℕ) → i < k → k < length (swept c).gates → same_gate (gate_at (swept c) k) (gate_at (swept c) i) ≡ false
  swept_distinct = firsts_differ (swept c).gates swept_firsts

  -- a line that is reached goes to one that is
  reached_goes : (i : ℕ) → used c i ≡ true → (used c i ≡ true) × (used (swept c) (to (S g) i) ≡ true)
  unfolding swept
  reached_goes =
      let new-below = fits_below only (swept c) (circuit_fits only (swept c) swept_accepted) in
      back-all (λ (i : ℕ). (used c i ≡ true) × (used (swept c) (to (S g) i) ≡ true)) n c.gates c.outs
      (λ o h. (back_outs n c.gates c.outs o h, back_outs n (S g).kept (map (to (S g)) c.outs) (to (S g) o) (has-map (to (S g)) c.outs o h)))
      (λ j h p r m.
      let w = went j h p.0 in
      let there : has (reads w.gate) (to (S g) r) ≡ true = subst (λ (l : List ℕ). has l (to (S g) r) ≡ true) (sym w.operands) (has-map (to (S g)) (reads (gate_at c j)) r m) in
      let read : has (reads (get_or (S g).kept w.k no_gate)) (to (S g) r) ≡ true =
      ⊎_elim (λ e. subst (λ (l : List ℕ). has l (to (S g) r) ≡ true) (sym e) there)
      (λ e. subst (λ (l : List ℕ). has l (to (S g) r) ≡ true) (sym e) (has_other (reads w.gate) (to (S g) r) there)) w.alike.operands in (
        used_read j h p.0 r m,
        back-reads n (S g).kept (map (to (S g)) c.outs) new-below w.k w.there (subst (λ (x : ℕ). used (swept c) x ≡ true) w.line p.1) (to (S g) r) read,
      ))

  pub swept-reached : (k : ℕ) → k < length (swept c).gates → used (swept c) ((swept c).inputs + k) ≡ true
  unfolding swept
  swept-reached k h =
      let w = kept_from n (used c) (gate_at c) g k h in
      subst (λ (x : ℕ). used (swept c) x ≡ true) w.line (reached_goes (n + w.gate_no) w.lives).1

  -- ---- kept gates are the first of those that are merged, in their order, each with its own operands in its own order
  pub record First (k : ℕ) : Type 0 where
    pub gate_no : ℕ
    pub there : gate_no < length c.gates
    pub reached : used c (c.inputs + gate_no) ≡ true
    pub line : to (sweep_of c) (c.inputs + gate_no) ≡ c.inputs + k
    pub gate : gate_at (swept c) k ≡ renamed (to (sweep_of c)) (gate_at c gate_no)
    pub first : (i : ℕ) → i < gate_no → used c (c.inputs + i) ≡ true → to (sweep_of c) (c.inputs + i) < c.inputs + k

  pub swept_first : (k : ℕ) → k < length (swept c).gates → First k
  unfolding swept renamed
  swept_first k h =
      let w = kept_from n (used c) (gate_at c) g k h in
      let b = below w.gate_no w.before in
      let m = map_below (to (S w.gate_no)) (to (S g)) (n + w.gate_no) (λ i l. sym (new_more n (used c) (gate_at c) w.gate_no i l g (omega (arith, w.before)))) (reads (gate_at c w.gate_no)) b in
      record {
        gate_no = w.gate_no;
        there = w.before;
        reached = w.lives;
        line = w.line;
        gate = w.is ∙ (λ i. gate (gate_at c w.gate_no).kind (get_or (m i) 0 0) (get_or (m i) 1 0));
        first = kept_first n (used c) (gate_at c) w;
      }

  pub swept_order : {k l : ℕ} (v : First k) (w : First l) → k < l → v.gate_no < w.gate_no
  swept_order {k} {l} v w h =
      ⊎_elim (λ b. b)
      (⊎_elim (λ e. absurd (omega (arith, v.line, w.line, ap (λ (x : ℕ). to (sweep_of c) (c.inputs + x)) e)))
      (λ b. absurd (omega (arith, v.first w.gate_no b w.reached, w.line)))) (place_of v.gate_no w.gate_no)

  -- ---- whatever lines have, each output has the same
  module _ {A : Type 0} (step : ℕ → Gate → List A → A) (fair : Fair step) (d : A) (ins : List A) (is : length ins ≡ c.inputs) where
    abbrev Old : ℕ → A
    Old i = get_or (lines step d ins (gate_at c) g) i d

    abbrev New : ℕ → A
    New i = get_or (lines step d ins (gate_at (swept c)) (length (swept c).gates)) i d

    -- what a line has is what its gate makes, in the one and in the other
    old_is : (j : ℕ) → j < g → Old (n + j) ≡ step j (gate_at c j) (map Old (reads (gate_at c j)))
    old_is j h =
        subst (λ (m : ℕ). Old (m + j) ≡ step j (gate_at c j) (map Old (reads (gate_at c j)))) is
        (line_is step d ins (gate_at c) g j h (subst (λ (m : ℕ). Below (m + j) (reads (gate_at c j))) (sym is) (below j h)))

    new_is : (k : ℕ) → k < length (swept c).gates → New (n + k) ≡ step k (gate_at (swept c) k) (map New (reads (gate_at (swept c) k)))
    unfolding swept
    new_is k h =
        let b = fits_below only (swept c) (circuit_fits only (swept c) swept_accepted) in
        subst (λ (m : ℕ). New (m + k) ≡ step k (gate_at (swept c) k) (map New (reads (gate_at (swept c) k)))) is
        (line_is step d ins (gate_at (swept c)) (length (swept c).gates) k h (subst (λ (m : ℕ). Below (m + k) (reads (gate_at (swept c) k))) (sym is) (b k h)))

    abbrev Kept : ℕ → Type 0
    Kept i = used c i ≡ true → New (to (S g) i) ≡ Old i

    same_made : (j : ℕ) → j < g → ((i : ℕ) → i < n + j → Kept i) → Kept (n + j)
    unfolding swept
    same_made j h s u =
        let w = went j h u in
        let q = gate_at c j in
        ap New w.line ∙ new_is w.k w.there ∙ alike_makes step fair New j w.k w.gate (get_or (S g).kept w.k no_gate) w.alike
        ∙ fair.kinds j j w.gate q (map New (reads w.gate)) w.kind
        ∙ ap (step j q)
        (ap (map New) w.operands ∙ map-map New (to (S g)) (reads q)
        ∙ map-has (λ (i : ℕ). New (to (S g) i)) Old (reads q) (λ r m. s r (has_below (n + j) (reads q) r (below j h) m) (used_read j h u r m)))
        ∙ sym (old_is j h)

    input_same : (i : ℕ) → i < n → New (to (S g) i) ≡ Old i
    unfolding lines
    input_same i h =
        ap New (new_input n (used c) (gate_at c) g i h)
        ∙ lines_more step d ins (gate_at (swept c)) 0 i (omega arith) (length (swept c).gates) (omega arith)
        ∙ sym (lines_more step d ins (gate_at c) 0 i (omega arith) g (omega arith))

    -- a line that is reached has what its new line has
    pub same_lines : (j : ℕ) → j ≤ g → (i : ℕ) → i < n + j → used c i ≡ true → New (to (S g) i) ≡ Old i
    same_lines zero l i h u = input_same i (omega arith)
    same_lines (suc j) l i h u =
        ⊎_elim (λ b. same_lines j (omega arith) i b u)
        (λ b. let z : n + j ≡ i = omega arith in subst Kept z (same_made j (omega arith) (same_lines j (omega arith))) u) (lt-or-le i (n + j))

    -- what the outputs have, as a list, and one by one
    pub same_outs : map New (swept c).outs ≡ map Old c.outs
    unfolding swept
    same_outs =
        map-map New (to (S g)) c.outs
        ∙ map-has (λ (i : ℕ). New (to (S g) i)) Old c.outs
        (λ o m. same_lines g (omega arith) o (outs_below o m) (back_outs n c.gates c.outs o m)) where
          outs_below : (o : ℕ) → has c.outs o ≡ true → o < n + g
          outs_below = has_all (λ (o : ℕ). o < n + g) c.outs (λ j h. out_below (n + g) _ (fits.outs j h))

    pub same_outputs : (j : ℕ) → j < length c.outs → New (get_or (swept c).outs j 0) ≡ Old (get_or c.outs j 0)
    unfolding swept
    same_outputs j h =
        ap New (map_at (to (S g)) c.outs 0 j h) ∙ same_lines g (omega arith) (get_or c.outs j 0) (out_below (n + g) _ (fits.outs j h)) (used_out j h)

  -- the value on every input, the words, the depth and the AND depth of each output
  module _ (j : ℕ) (h : j < length c.outs) where
    pub same_values : (x : ℕ) → output_on (swept c) x j ≡ output_on c x j
    unfolding swept
    same_values x = same_outputs truth_step truth_fair 0 (inputs_on n x) (upto-length (λ (i : ℕ). bit i x) n) j h

    pub same_depth : get_or (depths (swept c).inputs (gate_at (swept c)) (length (swept c).gates)) (get_or (swept c).outs j 0) 0
        ≡ get_or (depths c.inputs (gate_at c) (length c.gates)) (get_or c.outs j 0) 0
    unfolding swept
    same_depth = same_outputs depth_step depth_fair 0 (replicate n 0) (length-replicate n 0) j h

    pub same_and_depth : get_or (and_depths (swept c).inputs (gate_at (swept c)) (length (swept c).gates)) (get_or (swept c).outs j 0) 0
        ≡ get_or (and_depths c.inputs (gate_at c) (length c.gates)) (get_or c.outs j 0) 0
    unfolding swept
    same_and_depth = same_outputs and_depth_step and_fair 0 (replicate n 0) (length-replicate n 0) j h

    pub same_words : get_or (words (swept c).inputs (gate_at (swept c)) (length (swept c).gates)) (get_or (swept c).outs j 0) no_words
        ≡ get_or (words c.inputs (gate_at c) (length c.gates)) (get_or c.outs j 0) no_words
    unfolding swept
    same_words = same_outputs words_step words_fair no_words (take n input_words) (let s = fits.shape in omega (arith, length-take n input_words)) j h

  -- so the circuit's depth and AND depth
  pub swept_depth : depth_of (swept c) ≡ depth_of c
  unfolding swept
  swept_depth = ap greatest (same_outs depth_step depth_fair 0 (replicate n 0) (length-replicate n 0))

  pub swept-and_depth : and_depth_of (swept c) ≡ and_depth_of c
  unfolding swept
  swept-and_depth = ap greatest (same_outs and_depth_step and_fair 0 (replicate n 0) (length-replicate n 0))

  -- ---- a circuit whose gates are all reached, and of which no two are the same, stays as it is
  module _ (all : (k : ℕ) → k < g → used c (n + k) ≡ true) (firsts : Firsts c.gates) where
    steady_to : (j : ℕ) → j ≤ g → S j ≡ record { kept = take j c.gates; new = upto (λ (i : ℕ). i) (n + j) }
    unfolding sweep_to upto
    steady_to zero h = let e : n ≡ n + 0 = omega arith in λ i. record { kept = []; new = upto (λ (x : ℕ). x) (e i) }
    steady_to (suc j) h =
        let q = gate_at c j in
        let r = steady_to j (omega arith) in
        let p : put n (used c) (gate_at c) j ≡ q =
        ap (λ (s : Sweep). renamed (to s) q) r
        ∙ renamed_same (λ (i : ℕ). get_or (upto (λ (x : ℕ). x) (n + j)) i 0) only (n + j) q (λ i l. upto_at (λ (x : ℕ). x) 0 (n + j) i l) (fits.gates j h) in
        let k = ap (λ (s : Sweep). s.kept) r in
        let f = firsts_before c.gates firsts j h in
        let l = length-take-le j c.gates (omega arith) in
        let at : placed n (used c) (gate_at c) j ≡ j = ap₂ place p k ∙ f in
        let e : suc (n + j) ≡ n + suc j = omega arith in
        let grown : joined q (take j c.gates) ≡ take (suc j) c.gates =
        ⊎_elim (λ w. absurd (omega (arith, w.0))) (λ w. w.1 ∙ sym (take-suc c.gates j no_gate h)) (joined_cases q (take j c.gates)) in
        let nr = ap (λ (s : Sweep). s.new) r in
        turn_kept n (used c) (gate_at c) j (all j h)
        ∙ (λ i. record { kept = joined (p i) (k i); new = nr i ++ ((n + at i) ∷ []) })
        ∙ (λ i. record { kept = grown i; new = upto (λ (x : ℕ). x) (e i) })

    pub steady : swept c ≡ c
    unfolding swept
    steady =
        let r = steady_to g (omega arith) in
        let k = ap (λ (s : Sweep). s.kept) r ∙ take-length c.gates in
        let o : map (to (S g)) c.outs ≡ c.outs =
        map_same (to (S g)) c.outs
        (λ j h. ap (λ (s : Sweep). to s (get_or c.outs j 0)) r ∙ upto_at (λ (x : ℕ). x) 0 (n + g) (get_or c.outs j 0) (out_below (n + g) _ (fits.outs j h))) in
        λ i. listing n (k i) (o i)

-- a second sweep changes nothing
pub swept_again : (only : Bool) (c : Listing) → listing_answer only c ≡ done → swept (swept c) ≡ swept c
swept_again only c ok = steady only (swept c) (swept_accepted only c ok) (swept-reached only c ok) (swept_firsts only c ok)
