-- `hint::ask` meets its contract. Assumes nothing.
use native.Mathlib.Omega.{arith}
use Rattle.std.specs.Prelude.{Some, None, Ok, Err}
use mathlib.Core.Path.{◌≡◌, ap, ◌∙◌, sym}
use mathlib.Core.List.{List}
use Prim.Native.Nat.{ℕ, ◌+◌, ◌≤◌}
use lib.ListN.{length}
use lib.Seq.{length-take-le}
use Rattle.circuit.specs.Sizes.{most_lines}
use Rattle.bench.specs.declared.Bench.{Bench}
use Rattle.hint.specs.Parts.{masks_on, gathered}
use Rattle.hint.proofs.Numbering.{base_fits, found_few, asked_is, asked_none, asked_err}
use Rattle.hint.proofs.ask.Goals as goal
use Rattle.hint.proofs.ask.Goals.{After-gather-base}

-- the bench
abbrev on : After-gather-base → Bench
on c = c.args.b.now

-- what was gathered from it
based : (c : After-gather-base) → c.gather-base.result ≡ gathered (masks_on (on c)) (on c).depths ((on c).n + (on c).g)
based c = c.gather-base.ensures ∙ ap (λ (l : List ℕ). gathered l (on c).depths ((on c).n + (on c).g)) c.masks_of-masks.ensures

-- there are not too many lines
fits : (c : After-gather-base) → (on c).n + (on c).g ≤ most_lines
fits c = omega (arith, c.requires)

-- so the parts that are lent lie within the arrays
within : (c : After-gather-base) → let r = c.gather-base.result in (r.count ≤ length r.masks) × (r.count ≤ length r.depths) × (r.count ≤ most_lines)
within c = base_fits (masks_on (on c)) (on c).depths ((on c).n + (on c).g) c.gather-base.result (fits c) (based c)

pub shared_ref_as_front-distance : goal.shared_ref_as_front-distance
shared_ref_as_front-distance c = (within (goal.at.shared_ref_as_front-distance c).After-gather-base).2

pub slice_bounds-distance-end : goal.slice_bounds-distance-end
slice_bounds-distance-end c = sym (length-take-le _ _ (within (goal.at.slice_bounds-distance-end c).After-gather-base).0)

pub slice_bounds-distance-end-2 : goal.slice_bounds-distance-end-2
slice_bounds-distance-end-2 c = sym (length-take-le _ _ (within (goal.at.slice_bounds-distance-end-2 c).After-gather-base).1)

pub numbers_of-lines-requires : goal.numbers_of-lines-requires
numbers_of-lines-requires c =
    let m = (goal.at.numbers_of-lines-requires c).After-gather-base in
    let is : c.distance.result ≡ Ok (Some c.in-Ok-Some.found) = rw c.in-Ok-Some.field-0-is at c.in-Ok-Some.is in
    found_few c.args.b.now c.args.t c.args.d c.gather-base.result c.distance.result c.requires.0 (fits m) (based m) c.distance.ensures c.in-Ok-Some.found is

pub returns-in-Ok-Some : goal.returns-in-Ok-Some
returns-in-Ok-Some c =
    let m = (goal.at.returns-in-Ok-Some c).After-gather-base in
    let is : c.distance.result ≡ Ok (Some c.in-Ok-Some.found) = rw c.in-Ok-Some.field-0-is at c.in-Ok-Some.is in
    asked_is c.args.b.now c.args.t c.args.d c.gather-base.result c.distance.result c.requires.0 (fits m) (based m) c.distance.ensures c.in-Ok-Some.found is
    c.numbers_of-lines.result c.numbers_of-lines.ensures

pub returns-in-Ok-None : goal.returns-in-Ok-None
returns-in-Ok-None c =
    let m = (goal.at.returns-in-Ok-None c).After-gather-base in
    let is : c.distance.result ≡ Ok None = rw c.in-Ok-None.field-0-is at c.in-Ok-None.is in
    asked_none c.args.b.now c.args.t c.args.d c.gather-base.result c.distance.result c.requires.0 (fits m) (based m) c.distance.ensures is

pub returns-in-Err : goal.returns-in-Err
returns-in-Err c =
    let m = (goal.at.returns-in-Err c).After-gather-base in
    ap Err c.refusal_of.ensures
    ∙ asked_err c.args.b.now c.args.t c.args.d c.gather-base.result c.distance.result c.requires.0 (fits m) (based m) c.distance.ensures c.in-Err.why c.in-Err.is
