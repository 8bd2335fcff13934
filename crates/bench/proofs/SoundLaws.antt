-- Every call keeps what is present sound: an accepted open brings a sound state, an accepted edit of a sound state makes a sound one. Assumes nothing.
use Rattle.std.specs.Prelude.{Ok, Err}
use Rattle.circuit.specs.Rules.{Answer, done}
use mathlib.Core.Path.{◌≡◌, refl, ap, ◌∙◌, sym, subst}
use mathlib.Core.Bool.{Bool, true}
use mathlib.Core.List.{List}
use Prim.Native.Nat.{ℕ, ◌+◌}
use lib.ListN.{length, length-set}
use Rattle.circuit.specs.Rules.{shaped, out_answer, listing_answer}
use Rattle.circuit.proofs.Shapes.{Shaped}
use Rattle.circuit.proofs.RuleLaws.{circuit_fits, fits_circuit}
use Rattle.stored.specs.Stored.{listing_in}
use Rattle.stored.proofs.Round.{listing_accepted}
use Rattle.targets.specs.Target.{is_matrix, target_fits, Brought}
use Rattle.targets.proofs.Bytes.{kind_by, brings}
use Rattle.bench.specs.State.{Limits, State, with_limits, Present, nothing, present, Sound, SoundPresent, LimitsFit}
use Rattle.bench.specs.Calls.{after, open_answer, open_state, output_edit_answer, output_edited, entry_edit_answer, entry_edited, append_answer, appended}
use Rattle.bench.specs.Run.{Call, after_call}
use Rattle.bench.specs.Run.Call.{opening, replacing, pointing, changing, limiting, sweeping, appending, reporting, storing}
use Rattle.bench.proofs.OpenLaws.{open_shows}
use Rattle.bench.proofs.Setting.{set_each}
use Rattle.bench.proofs.EditLaws.{output_there}
use Rattle.bench.proofs.EntryLaws.{entry_accepted, same_kind}
use Rattle.bench.proofs.Replacing.{sound_after as gate-sound}
use Rattle.bench.proofs.Appends.{sound_appended}
use Rattle.bench.proofs.Sweeps.{sound_sweep}

pub sound_open : (bytes : List ℕ) (t : Brought) (l : Limits) → LimitsFit l → open_answer bytes t ≡ done → Sound (open_state bytes t l)
sound_open bytes t l small h =
    let c = listing_in bytes in
    let n = c.inputs in
    let m = length c.outs in
    let p = open_shows bytes t h in
    record {
      circuit = ap (λ (only : Bool). listing_answer only c) (kind_by t.of_matrix n m t.bytes) ∙ listing_accepted t.of_matrix bytes p.0;
      target = (brings n m t p.1).fits;
      limits = small;
    }

module _ (s : State) (ok : Sound s) where
  pub sound_output : (j line : ℕ) → output_edit_answer (present s) j line ≡ done → Sound (output_edited s j line)
  sound_output j line h =
      let c = s.circuit in
      let only = is_matrix s.target in
      let f = circuit_fits only c ok.circuit in
      let lines = c.inputs + length c.gates in
      let l = sym (length-set c.outs j line) in
      record {
        circuit = fits_circuit only (output_edited s j line).circuit (record {
          shape = subst (λ (m : ℕ). Shaped c.inputs m (length c.gates)) l f.shape;
          shaped-true = subst (λ (m : ℕ). shaped c.inputs m (length c.gates) ≡ true) l f.shaped-true;
          gates = f.gates;
          outs = set_each (λ (i o : ℕ). out_answer lines o ≡ done) c.outs j line 0 (output_there j line s h).1 f.outs;
        });
        target = subst (λ (m : ℕ). target_fits c.inputs m s.target ≡ true) l ok.target;
        limits = ok.limits;
      }

  pub sound_entry : (i value constant : ℕ) → entry_edit_answer (present s) i value constant ≡ done → Sound (entry_edited s i value constant)
  sound_entry i value constant h =
      record {
        circuit = subst (λ (only : Bool). listing_answer only s.circuit ≡ done) (same_kind i value constant s.target) ok.circuit;
        target = (entry_accepted i value constant s ok h).fits;
        limits = ok.limits;
      }

  pub sound_limits : (l : Limits) → LimitsFit l → Sound (with_limits s l)
  sound_limits l small =
      record { circuit = ok.circuit; target = ok.target; limits = small }

-- a call that gives a sound state where it is accepted
pub sound_after : (a : Answer) (s : State) (p : Present) → (a ≡ done → Sound s) → SoundPresent p → SoundPresent (after a s p)
sound_after (Ok _) s p f ok = f refl
sound_after (Err w) s p f ok = ok

-- the limits that a call gives can be held
abbrev pub Callable : Call → Type 0
Callable (opening bytes t l) = LimitsFit l
Callable (replacing k kind a b) = Unit {0}
Callable (pointing j line) = Unit {0}
Callable (changing i value constant) = Unit {0}
Callable (limiting l) = LimitsFit l
Callable sweeping = Unit {0}
Callable (appending kind a b) = Unit {0}
Callable reporting = Unit {0}
Callable (storing room) = Unit {0}

-- every call
pub sound_call : (p : Present) (call : Call) → Callable call → SoundPresent p → SoundPresent (after_call p call)
sound_call p (opening bytes t l) small ok = sound_after (open_answer bytes t) (open_state bytes t l) p (sound_open bytes t l small) ok
sound_call p (replacing k kind a b) u ok = gate-sound p k kind a b ok
sound_call nothing (pointing j line) u ok = ok
sound_call (present s) (pointing j line) u ok =
    sound_after (output_edit_answer (present s) j line) (output_edited s j line) (present s) (sound_output s ok j line) ok
sound_call nothing (changing i value constant) u ok = ok
sound_call (present s) (changing i value constant) u ok =
    sound_after (entry_edit_answer (present s) i value constant) (entry_edited s i value constant) (present s) (sound_entry s ok i value constant) ok
sound_call nothing (limiting l) small ok = ok
sound_call (present s) (limiting l) small ok = sound_limits s ok l small
sound_call nothing sweeping u ok = ok
sound_call (present s) sweeping u ok = sound_sweep s ok
sound_call nothing (appending kind a b) u ok = ok
sound_call (present s) (appending kind a b) u ok =
    sound_after (append_answer (present s) kind a b) (appended s kind a b) (present s) (sound_appended s kind a b ok) ok
sound_call p reporting u ok = ok
sound_call p (storing room) u ok = ok
