-- `change_entry`: a refusal is what was looked at; else the target has the entry, and wants what it says. Assumes nothing.
use mathlib.Core.Path.{◌≡◌, ◌∙◌, sym, ap, ap₂}
use Prim.Native.Nat.{◌%◌}
use Rattle.circuit.specs.Rules.{done}
use Rattle.bench.specs.Parts.{entered}
use Rattle.bench.specs.Held.{retargeted}
use Rattle.bench.proofs.EntryLaws.{entry_there, entry_look_on, entry_refused, entry_done, aimed}
use Rattle.bench.proofs.edits.change_entry.Goals as goal
use Rattle.bench.proofs.edits.change_entry.Goals.{In_default}

-- what was looked at showed
looked : (c : In_default) → let a = c.args in entry_look_on a.i a.value a.constant a.bench ≡ done
looked c = sym c.look_at_entry.ensures ∙ c.in_default.is

pub enter-c-requires : goal.enter-c-requires
enter-c-requires c = let t = entry_there _ _ _ _ (looked (goal.at.enter-c-requires c).In_default) in
    (t.few, t.there, t.row)

pub returns-in-Err : goal.returns-in-Err
returns-in-Err c = let a = c.args in
    entry_refused a.i a.value a.constant a.bench _ (sym c.look_at_entry.ensures ∙ c.in-Err.is)

pub returns : goal.returns
returns c = let a = c.args in
    let b = a.bench in
    let T : c.enter-c.result ≡ entered b.is_matrix b.m b.target a.i (a.value % 256) (a.constant % 256) =
    c.enter-c.ensures ∙ ap₂ (entered b.is_matrix b.m b.target a.i) c.low_byte.ensures c.low_byte-2.ensures in
    entry_done a.i a.value a.constant b _ (looked (goal.at.returns c).In_default)
    (ap (retargeted b c.enter-c.result) c.wanted_words-wanted.ensures ∙ ap (aimed b) T)
