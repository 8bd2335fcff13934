-- What opening leaves: the bench with a circuit and its target placed on it is the one that stands for them. Assumes nothing.
use Rattle.std.specs.Prelude.{Ok, Err}
use Rattle.circuit.specs.Rules.{Answer, done}
use mathlib.Core.Path.{◌≡◌, refl, ap, ◌∙◌, sym, subst}
use mathlib.Core.Bool.{Bool, true, false}
use mathlib.Core.List.{List}
use Prim.Native.Nat.{ℕ, ◌≤◌}
use native.Mathlib.Omega.{arith}
use lib.ListN.{length}
use Rattle.circuit.specs.declared.Words.{Words}
use Rattle.circuit.specs.declared.Circuit.{Circuit}
use Rattle.circuit.specs.declared.Refusal.{Refusal}
use Rattle.circuit.specs.declared.Refusal.TheVariants.{Target as BadTarget}
use Rattle.circuit.specs.Lines.{Listing, padded}
use Rattle.circuit.specs.Structs.{held}
use Rattle.circuit.specs.Rules.{unless, and_then}
use Rattle.circuit.specs.Sizes.{most_values}
use Rattle.circuit.proofs.Shapes.{Shaped, past, then_done}
use Rattle.circuit.proofs.RuleLaws.{circuit_fits, CircuitFits}
use Rattle.stored.specs.Stored.{listing_in}
use Rattle.stored.specs.Reading.{reading_answer, reading_of}
use Rattle.stored.proofs.Round.{listing_accepted}
use Rattle.stored.proofs.Restoring.{done_is, refused_is, read_done, read_refused}
use Rattle.targets.specs.Target.{is_matrix, target_bytes, target_fits, Brought, target_in, brought_fits}
use Rattle.targets.specs.Wanted.{wanted_in}
use Rattle.targets.proofs.Bytes.{kind_by, brings, target_short}
use Rattle.targets.proofs.Wanting.{wanted_padded}
use Rattle.bench.specs.declared.Bench.{Bench}
use Rattle.bench.specs.State.{Limits, State, Present}
use Rattle.bench.specs.Held.{full_bench, bench_of, Stands, unexamined}
use Rattle.bench.specs.Calls.{after, open_answer, open_state, after_open, bench_after_open, OpenPromise}
use Rattle.bench.specs.Parts.{examined_as, examined, placed_of, accepted_of}
use Rattle.bench.proofs.Standing.{examined_full}

-- ---- the bench with a circuit, a target and limits

-- as the code places it
pub placed_by : (c : Circuit) (only : Bool) (bytes T : List ℕ) (W : List Words) (l : Limits) → T ≡ padded most_values 0 bytes
    → W ≡ wanted_in only T c.m → examined (unexamined true c only T W l) ≡ placed_of c only bytes l
unfolding placed_of
placed_by c only bytes T W l e f =
    let w = f ∙ ap (λ (x : List ℕ). wanted_in only x c.m) e in
    λ i. examined (unexamined true c only (e i) (w i) l)

module _ (s : State) (f : CircuitFits (is_matrix s.target) s.circuit) (fits : target_fits s.circuit.inputs (length s.circuit.outs) s.target ≡ true) where
  pub placed_full : placed_of (held s.circuit) (is_matrix s.target) (target_bytes s.target) s.limits ≡ full_bench s
  unfolding placed_of full_bench examined_as
  placed_full =
      let t = s.target in
      (λ i. examined (unexamined true (held s.circuit) (is_matrix t) (padded most_values 0 (target_bytes t)) (wanted_padded s.circuit.inputs (length s.circuit.outs) t fits f.shape.m_most i) s.limits))
      ∙ examined_full s f

-- ---- what is read and looked at first

module _ (bytes : List ℕ) (t : Brought) where
  abbrev pub found : Listing
  found = listing_in bytes

  -- the circuit that is brought keeps every rule, and the target too
  pub open_shows : open_answer bytes t ≡ done → (reading_answer t.of_matrix bytes ≡ done) × (brought_fits found.inputs (length found.outs) t ≡ true)
  unfolding open_answer
  open_shows h =
      let fits = brought_fits found.inputs (length found.outs) t in
      let p = then_done (reading_answer t.of_matrix bytes) (unless fits BadTarget done) h in
      (p.0, (past fits BadTarget p.1).0)

  -- the reader refuses
  pub accepted_unread : (w : Refusal) → Err w ≡ reading_of t.of_matrix bytes → Err w ≡ accepted_of bytes t
  unfolding accepted_of open_answer
  accepted_unread w h =
      sym (λ i. and_then (and_then (read_refused t.of_matrix bytes w h i) (unless (brought_fits found.inputs (length found.outs) t) BadTarget done)) (Ok (held found)))

  -- the reader accepts, and then the target is looked at
  pub accepted_read : (c : Circuit) → Ok c ≡ reading_of t.of_matrix bytes → (b : Bool) → brought_fits c.n c.m t ≡ b → unless b BadTarget (Ok c) ≡ accepted_of bytes t
  unfolding accepted_of open_answer
  accepted_read c h b f =
      let r = read_done t.of_matrix bytes c h in
      let g = ap (λ (z : Circuit). brought_fits z.n z.m t) (sym r.1) ∙ f in
      ap (λ (z : Circuit). unless b BadTarget (Ok z)) r.1 ∙ by b ∙ sym (λ i. and_then (and_then (r.0 i) (unless (g i) BadTarget done)) (Ok (held found))) where
        by : (b : Bool) → unless b BadTarget (Ok (held found)) ≡ and_then (unless b BadTarget done) (Ok (held found))
        by true = refl
        by false = refl

  -- so an open is answered by what was accepted
  pub accepted_no : (w : Refusal) → Err w ≡ accepted_of bytes t → open_answer bytes t ≡ Err w
  unfolding accepted_of
  accepted_no w h = refused_is (open_answer bytes t) (held found) h

  pub accepted_yes : (c : Circuit) → Ok c ≡ accepted_of bytes t → (open_answer bytes t ≡ done) × (c ≡ held found)
  unfolding accepted_of
  accepted_yes c h = done_is (open_answer bytes t) (held found) h

  -- ---- what is placed

  module _ (h : open_answer bytes t ≡ done) where
    fits : CircuitFits t.of_matrix found
    fits = circuit_fits t.of_matrix found (listing_accepted t.of_matrix bytes (open_shows h).0)

    pub open_shaped : Shaped found.inputs (length found.outs) (length found.gates)
    open_shaped = fits.shape

    pub open_short : length t.bytes ≤ most_values
    open_short =
        let n = found.inputs in
        let m = length found.outs in
        let b = brings n m t (open_shows h).1 in
        omega (arith, target_short n m (target_in n m t) fits.shape.n_most fits.shape.m_most b.fits, ap length b.bytes)

    pub open_placed : (l : Limits) → placed_of (held found) t.of_matrix t.bytes l ≡ full_bench (open_state bytes t l)
    open_placed l =
        let n = found.inputs in
        let m = length found.outs in
        let b = brings n m t (open_shows h).1 in
        let same = sym (kind_by t.of_matrix n m t.bytes) in
        (λ i. placed_of (held found) (same i) (sym b.bytes i) l)
        ∙ placed_full (open_state bytes t l) (subst (λ (only : Bool). CircuitFits only found) same fits) b.fits

-- ---- the call

module _ (b : Bench) (bytes : List ℕ) (t : Brought) (l : Limits) where
  pub open_refused : (w : Refusal) → open_answer bytes t ≡ Err w → OpenPromise b bytes t l (Err w) b
  open_refused w e = (sym e, ap (λ (x : Answer). bench_after_open x (open_state bytes t l) b) (sym e))

  pub open_done : (next : Bench) → open_answer bytes t ≡ done → next ≡ full_bench (open_state bytes t l) → OpenPromise b bytes t l done next
  open_done next e f = (sym e, f ∙ ap (λ (x : Answer). bench_after_open x (open_state bytes t l) b) (sym e))

  -- on a bench that stands for something the bench after it is the one of what is present then
  pub open_stands : {p : Present} → Stands b p → bench_after_open (open_answer bytes t) (open_state bytes t l) b ≡ bench_of (after_open p bytes t l)
  open_stands {p} k = by (open_answer bytes t) where
    by : (a : Answer) → bench_after_open a (open_state bytes t l) b ≡ bench_of (after a (open_state bytes t l) p)
    by (Ok _) = refl
    by (Err w) = k.is
