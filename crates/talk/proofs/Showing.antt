-- What is shown of a bench is the circuit, the depths and the verdict of what stands on it. Assumes nothing.
use Rattle.std.specs.Prelude.{Result}
use mathlib.Core.Path.{◌≡◌, ap, ◌∙◌}
use mathlib.Core.Bool.{Bool, cond}
use mathlib.Core.List.{[]}
use Rattle.circuit.specs.declared.Circuit.{Circuit}
use Rattle.circuit.specs.declared.Refusal.{Refusal}
use Rattle.circuit.specs.Lines.{Listing}
use Rattle.circuit.specs.Rules.{done, listing_answer}
use Rattle.circuit.specs.Structs.{held, listed}
use Rattle.circuit.proofs.Shapes.{shape_true}
use Rattle.circuit.proofs.RuleLaws.{circuit_fits}
use Rattle.circuit.proofs.Listed.{listed-held}
use Rattle.targets.specs.Target.{is_matrix}
use Rattle.bench.specs.declared.Bench.{Bench}
use Rattle.bench.specs.declared.Report.{Report}
use Rattle.bench.specs.State.{State, Sound, Present, nothing, present, report_of}
use Rattle.bench.specs.Held.{Stands, circuit_of}
use Rattle.bench.specs.Calls.{reported}
use Rattle.bench.proofs.StoreLaws.{circuit_of_full}
use Rattle.listing.specs.Printed.{lines_text, lines_in}
use Rattle.talk.specs.Texts.{state_shown, show_text}
use Rattle.talk.specs.Saying.{shown_with, shown_in}

-- the lines of a circuit that is accepted
held_lines : (only : Bool) (c : Listing) → listing_answer only c ≡ done → lines_in (held c) ≡ lines_text c
unfolding lines_in
held_lines only c h =
    let s = shape_true _ _ _ (circuit_fits only c h).shape in
    ap (λ (t : Bool). cond t (lines_text (listed (held c))) []) s ∙ ap lines_text (listed-held only c h)

module _ (s : State) (ok : Sound s) where
  -- the circuit of a state with its report
  state-shown : shown_with (held s.circuit) (report_of s) ≡ state_shown s
  unfolding shown_with report_of
  state-shown = shown (held_lines (is_matrix s.target) s.circuit ok.circuit) where
    shown : lines_in (held s.circuit) ≡ lines_text s.circuit → shown_with (held s.circuit) (report_of s) ≡ state_shown s
    shown e = rw e

-- what `show` says of a bench that stands for p
pub shown_is : (b : Bench) (r : Result Report Refusal) (p : Present) → Stands b p → r ≡ reported p → shown_in (circuit_of b) r ≡ show_text p
shown_is b r nothing k e = ap (shown_in (circuit_of b)) e
shown_is b r (present s) k e =
    ap (shown_in (circuit_of b)) e ∙ ap (λ (c : Circuit). shown_with c (report_of s)) (ap circuit_of k.is ∙ circuit_of_full s) ∙ state-shown s k.sound
