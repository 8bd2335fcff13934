-- What pointing an output and setting the limits leave, from what was looked at first. Assumes nothing.
use Rattle.std.specs.Prelude.{Ok, Err}
use Rattle.circuit.specs.Rules.{Answer, done}
use mathlib.Core.Path.{◌≡◌, refl, ap, ◌∙◌, sym}
use mathlib.Core.Bool.{Bool, true, false}
use mathlib.Core.List.{List}
use Prim.Native.Nat.{ℕ, ◌<◌, ◌+◌}
use native.Mathlib.Omega.{arith}
use lib.Dec.{ltb}
use lib.ListN.{length, set, length-set}
use borrow.Author.Tests.{ltb-true}
use Rattle.circuit.specs.declared.Refusal.{Refusal}
use Rattle.circuit.specs.declared.Refusal.TheVariants.{NotThere, NothingOpen}
use Rattle.circuit.specs.Rules.{unless, out_answer}
use Rattle.circuit.specs.Sizes.{most_outputs}
use Rattle.circuit.specs.Structs.{put_outputs, held}
use Rattle.circuit.proofs.Shapes.{Shaped, past}
use Rattle.circuit.proofs.Padding.{padded-set}
use Rattle.circuit.proofs.RuleLaws.{out_below}
use Rattle.targets.specs.Wanted.{wanted_of}
use Rattle.bench.specs.declared.Bench.{Bench}
use Rattle.bench.specs.State.{State, Sound, SoundPresent, Present, nothing, present, Limits}
use Rattle.bench.specs.Held.{empty_bench, full_bench, bench_of, Stands, recircuited, limited, circuit_of, retargeted}
use Rattle.bench.specs.Calls.{Edit, after, no_lines, no_rework, output_edit_answer, output_edited, after_output, after_limits, OutputPromise, LimitsPromise}
use Rattle.bench.specs.Parts.{open_on, output_look}
use Rattle.bench.proofs.Standing.{full_standing}
use Rattle.bench.proofs.Stood.{standing-shaped, when-open, when_shut}

-- ---- any edit that reworks no line, given by its answer, by what is present after it, and by what the code looks at
module _ (answer : Present → Answer) (next : Present → Present) (look : Bench → Answer) (shut : answer nothing ≡ Err NothingOpen)
    (looked : (b : Bench) (p : Present) → Stands b p → look b ≡ answer p)
    (kept : (p : Present) (w : Refusal) → answer p ≡ Err w → next p ≡ p) where
  abbrev pub Promise : Bench → Edit → Bench → Type 0
  Promise b edit after = (p : Present) → Stands b p → (edit ≡ no_rework (answer p)) × (after ≡ bench_of (next p))

  -- a refused edit leaves the bench
  pub edit_refused : (b : Bench) (w : Refusal) → look b ≡ Err w → Promise b (Err w) b
  edit_refused b w h p k =
      let a : answer p ≡ Err w = sym (looked b p k) ∙ h in
      (ap no_rework (sym a), k.is ∙ ap bench_of (sym (kept p w a)))

  -- an accepted one makes of the bench what f makes
  pub edit_done : (f : Bench → Bench) → ((s : State) → Sound s → answer (present s) ≡ done → f (full_bench s) ≡ bench_of (next (present s)))
      → (b z : Bench) → look b ≡ done → z ≡ f b → Promise b (Ok no_lines) z
  edit_done f made b z h e p k =
      (ap no_rework (sym (a p k)), e ∙ ap f k.is ∙ moved p k.sound (a p k)) where
        a : (p : Present) → Stands b p → answer p ≡ done
        a p k = sym (looked b p k) ∙ h

        moved : (p : Present) → SoundPresent p → answer p ≡ done → f (bench_of p) ≡ bench_of (next p)
        moved nothing ok d = let z : Err NothingOpen ≡ done = sym shut ∙ d in let y : ◌≡◌ {A = ℕ} 0 1 = cc in absurd (omega arith)
        moved (present s) ok d = made s ok d

-- ---- pointing an output

-- the bench with other outputs
abbrev pub pointing : Bench → List ℕ → Bench
pointing b os = recircuited b (put_outputs (circuit_of b) os)

-- what an accepted look shows, on any bench
pub record OutputFits (n m g j line : ℕ) : Type 0 where
  pub shape : Shaped n m g
  pub there : j < m
  pub below : line < n + g

pub output_fits : (b : Bench) (j line : ℕ) → output_look b j line ≡ done → OutputFits b.n b.m b.g j line
unfolding output_look
output_fits b j line h =
    let p = past (open_on b) NothingOpen h in
    let q = past (ltb j b.m) NotThere p.1 in
    record { shape = standing-shaped b.is_open b.n b.m b.g p.0; there = ltb-true j b.m q.0; below = out_below (b.n + b.g) line q.1 }

module _ (j line : ℕ) where
  abbrev output_look_on : Bench → Answer
  output_look_on b = output_look b j line

  -- looking at the bench gives the call's answer
  output-look : (b : Bench) (p : Present) → Stands b p → output_look_on b ≡ output_edit_answer p j line
  unfolding output_look output_edit_answer empty_bench full_bench
  output-look b nothing k = ap output_look_on k.is
  output-look b (present s) k =
      let c = s.circuit in
      ap output_look_on k.is
      ∙ ap (λ (t : Bool). unless t NothingOpen (unless (ltb j (length c.outs)) NotThere (out_answer (c.inputs + length c.gates) line)))
      (full_standing s k.sound)

  -- the state's bench with the output pointed
  output_pointed : (s : State) → j < length s.circuit.outs
      → pointing (full_bench s) (set (full_bench s).outputs j line) ≡ full_bench (output_edited s j line)
  unfolding full_bench
  output_pointed s h =
      let l = sym (length-set s.circuit.outs j line) in
      let o = padded-set most_outputs 0 s.circuit.outs j line h in
      let c = held s.circuit in
      λ i. retargeted (recircuited (full_bench s) (record { n = c.n; m = l i; g = c.g; kinds = c.kinds; left = c.left; right = c.right; outputs = o i }))
      (full_bench s).target (wanted_of s.target (l i))

  -- a refused edit leaves what is present
  pub output_kept : (p : Present) (w : Refusal) → output_edit_answer p j line ≡ Err w → after_output p j line ≡ p
  output_kept nothing w e = refl
  output_kept (present s) w e = ap (λ (x : Answer). after x (output_edited s j line) (present s)) e

  -- what an accepted edit shows of a state
  pub output_there : (s : State) → output_edit_answer (present s) j line ≡ done
      → (j < length s.circuit.outs) × (out_answer (s.circuit.inputs + length s.circuit.gates) line ≡ done)
  unfolding output_edit_answer
  output_there s e = let p = past (ltb j (length s.circuit.outs)) NotThere e in (ltb-true _ _ p.0, p.1)

  shut : output_edit_answer nothing j line ≡ Err NothingOpen
  unfolding output_edit_answer
  shut = refl

  pub output_refused : (b : Bench) (w : Refusal) → output_look_on b ≡ Err w → OutputPromise b j line (Err w) b
  output_refused = edit_refused (λ p. output_edit_answer p j line) (λ p. after_output p j line) output_look_on shut output-look output_kept

  pub output_done : (b z : Bench) → output_look_on b ≡ done → z ≡ pointing b (set b.outputs j line)
      → OutputPromise b j line (Ok no_lines) z
  output_done =
      edit_done (λ p. output_edit_answer p j line) (λ p. after_output p j line) output_look_on shut output-look output_kept
      (λ b. pointing b (set b.outputs j line))
      (λ s ok d. output_pointed s (output_there s d).0 ∙ ap (λ (x : Answer). bench_of (after x (output_edited s j line) (present s))) (sym d))

-- ---- setting the limits

module _ (b : Bench) (l : Limits) where
  full_limited : (s : State) → limited (full_bench s) l ≡ bench_of (after_limits (present s) l)
  unfolding full_bench
  full_limited s = refl

  pub limits_open : (next : Bench) → open_on b ≡ true → next ≡ limited b l → LimitsPromise b l (Ok no_lines) next
  limits_open next t e = when-open _ b t (λ s ok is. (refl, e ∙ ap (λ (x : Bench). limited x l) is ∙ full_limited s))

  pub limits_shut : open_on b ≡ false → LimitsPromise b l (Err NothingOpen) b
  limits_shut t = when_shut _ b t (λ is. (refl, is))
