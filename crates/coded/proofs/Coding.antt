-- From the promise of a call to that of the call with numbers for its answer. Assumes nothing.
use mathlib.Core.Path.{◌≡◌, ap, ◌∙◌}
use mathlib.Core.List.{List}
use Prim.Native.Nat.{ℕ}
use Rattle.circuit.specs.Rules.{answer_no}
use Rattle.targets.specs.Target.{Brought}
use Rattle.bench.specs.declared.Bench.{Bench}
use Rattle.bench.specs.declared.Opened.{Opened}
use Rattle.bench.specs.declared.Edited.{Edited}
use Rattle.bench.specs.State.{Limits, Present}
use Rattle.bench.specs.Held.{bench_of, Stands}
use Rattle.bench.specs.Calls.{Edit, OpenPromise}
use Rattle.coded.specs.declared.Opened.{Opened as OpenedNumbers}
use Rattle.coded.specs.declared.Edited.{Edited as EditedNumbers}
use Rattle.coded.specs.Coded.{edit_code, open_coded, edit_coded, OpenCode}

pub open-coded : (b : Bench) (bytes : List ℕ) (t : Brought) (l : Limits) (r : Opened) (q : OpenedNumbers)
    → q ≡ open_coded r → OpenPromise b bytes t l r.answer r.bench → OpenCode b bytes t l q.refusal q.bench
unfolding open_coded
open-coded b bytes t l r q e h = (ap (λ (x : OpenedNumbers). x.refusal) e ∙ ap answer_no h.0, ap (λ (x : OpenedNumbers). x.bench) e ∙ h.1)

-- the same of an edit that answers E p and after which N p is present
pub edit-coded : (b : Bench) (E : Present → Edit) (N : Present → Present) (r : Edited) (q : EditedNumbers)
    → q ≡ edit_coded r → ((p : Present) → Stands b p → (r.edit ≡ E p) × (r.bench ≡ bench_of (N p)))
    → (p : Present) → Stands b p → (q.edit ≡ edit_code (E p)) × (q.bench ≡ bench_of (N p))
unfolding edit_coded
edit-coded b E N r q e h p st =
    let k = h p st in
    (ap (λ (x : EditedNumbers). x.edit) e ∙ ap edit_code k.0, ap (λ (x : EditedNumbers). x.bench) e ∙ k.1)
