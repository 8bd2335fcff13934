-- `bench::sweeping::sweep` meets its contract. Assumes nothing.
use mathlib.Core.Path.{◌≡◌, ap, sym, ◌∙◌, subst}
use mathlib.Core.Bool.{true}
use Prim.Native.Nat.{◌≤◌}
use Rattle.std.specs.Prelude.{Ok}
use Rattle.circuit.specs.declared.Circuit.{Circuit}
use Rattle.circuit.specs.Sizes.{most_inputs, most_gates}
use Rattle.sweep.specs.Sweep.{swept_in}
use Rattle.bench.specs.declared.Bench.{Bench}
use Rattle.bench.specs.Held.{circuit_of, recircuited}
use Rattle.bench.specs.Calls.{reworking}
use Rattle.bench.specs.Parts.{open_on, examined}
use Rattle.bench.proofs.Sweeps.{lines_of, sweep_bounds, sweep_open, sweep_shut}
use Rattle.bench.proofs.sweeping.sweep.Goals as goal
use Rattle.bench.proofs.sweeping.sweep.Goals.{After-sweep-c}

-- something is open, and what the sweep of the circuit gives
opened : (c : After-sweep-c) → open_on c.args.bench ≡ true
opened c = sym c.is_standing.ensures ∙ c.if-not-is_standing.false

cleared : (c : After-sweep-c) → c.sweep-c.result ≡ swept_in (circuit_of c.args.bench)
cleared c = c.sweep-c.ensures ∙ ap swept_in c.circuit_of.ensures

pub examine-next-requires : goal.examine-next-requires
examine-next-requires c = let s = c.before in
    let b = s.args.bench in
    subst (λ (d : Bench). (d.n ≤ most_inputs) × (d.g ≤ most_gates)) (sym c.with_circuit.ensures) (sweep_bounds b s.sweep-c.result (opened (goal.at.examine-next-requires c).After-sweep-c) (cleared (goal.at.examine-next-requires c).After-sweep-c))

pub kept_lines-requires : goal.kept_lines-requires
kept_lines-requires c = let s = c.before in sweep_bounds s.args.bench s.sweep-c.result (opened (goal.at.kept_lines-requires c).After-sweep-c) (cleared (goal.at.kept_lines-requires c).After-sweep-c)

pub returns-then-not-is_standing : goal.returns-then-not-is_standing
returns-then-not-is_standing c = sweep_shut c.args.bench (sym c.is_standing.ensures ∙ c.if-not-is_standing.true)

pub returns : goal.returns
returns c = let s = c.before in
    let b = s.args.bench in
    let e = cleared (goal.at.returns c).After-sweep-c in
    sweep_open b _ c.examine-next.result (opened (goal.at.returns c).After-sweep-c)
    (ap Ok c.kept_lines.ensures ∙ ap (λ (z : Circuit). Ok (reworking (lines_of z.n z.g))) e)
    (c.examine-next.ensures ∙ ap examined (c.with_circuit.ensures ∙ ap (recircuited b) e))
