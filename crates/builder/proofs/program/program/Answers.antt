-- `program` meets its contract: the state that begins stands, and what has grown is the circuit.
use mathlib.Core.List.{List, map}
use mathlib.Core.Path.{◌≡◌, refl, ap, ◌∙◌, subst}
use Prim.Native.Nat.{ℕ}
use borrow.Author.Rules.{rules}
use lib.ListN.{length, take}
use Rattle.circuit.specs.Sizes.{most_outputs, most_lines}
use Rattle.circuit.proofs.Padding.{padded-take}
use Rattle.distance.specs.Base.{Line}
use Rattle.circuit.specs.Lines.{padded}
use Rattle.builder.specs.Rule.{rows_of, lowest}
use Rattle.builder.specs.Kept.{base, Grown, Looking}
use Rattle.builder.proofs.Refusals.{accepted, looking}
use Rattle.builder.proofs.Begin.{begun_base, begun_table, stands, late_held}
use Rattle.builder.proofs.Steps.{tabled_all}
use Rattle.builder.proofs.program.program.Goals as goal
use Rattle.builder.proofs.program.program.Goals.{Start, After-widened-wide}

-- nothing refuses the call
seen : (c : Start) → let a = c.args in Looking a.n a.arrivals.now a.rows.now a.limits.now
seen c = looking _ _ _ _ (accepted _ _ _ _ c.requires.accepted).ahead

-- the rows in 32 bits are the rows
same : (c : After-widened-wide) → take (length c.args.rows.now) c.widened-wide.result ≡ c.args.rows.now
same c = ap (take (length c.args.rows.now)) c.widened-wide.ensures ∙ padded-take most_outputs 0 c.args.rows.now (length c.args.rows.now) refl

pub invariant_of-inputs : goal.invariant_of-inputs
invariant_of-inputs c = let f = (seen (goal.at.invariant_of-inputs c).Start).fit in record { few = f.inputs; each = f.arrivals; early = f.early }

pub begin-s-requires : goal.begin-s-requires
begin-s-requires c = (seen (goal.at.begin-s-requires c).Start).fit

pub invariant_of-wide_rows : goal.invariant_of-wide_rows
invariant_of-wide_rows c = let l = seen (goal.at.invariant_of-wide_rows c).Start in
    rw (same (goal.at.invariant_of-wide_rows c).After-widened-wide) (record { paired = l.limits; few = l.fit.few; bytes = λ i. (c.type_inv.rows i).fits })

pub grow-requires-clause-so_far : goal.grow-requires-clause-so_far
grow-requires-clause-so_far c = let a = c.args in
    let b = c.begin-s in
    let e : length b.result.masks ≡ most_lines = search rules in
    rw (same (goal.at.grow-requires-clause-so_far c).After-widened-wide) (stands a.n a.arrivals.now a.rows.now a.limits.now (accepted _ _ _ _ c.requires.accepted) b.result b.ensures e)

pub grow-requires-clause-tabled : goal.grow-requires-clause-tabled
grow-requires-clause-tabled c = let a = c.args in
    let b = c.begin-s in
    let e : length b.result.masks ≡ most_lines = search rules in
    let so_far = stands a.n a.arrivals.now a.rows.now a.limits.now (accepted _ _ _ _ c.requires.accepted) b.result b.ensures e in
    let held = begun_table a.n a.arrivals.now a.rows.now b.result _ (seen (goal.at.grow-requires-clause-tabled c).Start).fit b.ensures c.first_table-h.ensures in
    rw (same (goal.at.grow-requires-clause-tabled c).After-widened-wide) (tabled_all a.rows.now a.limits.now b.result so_far.poised _ held (λ i. (c.type_inv.rows i).fits))

pub returns : goal.returns
unfolding base
returns c = let a = c.args in
    let l = seen (goal.at.returns c).Start in
    let s = c.grow.new.s in
    let wide = same (goal.at.returns c).After-widened-wide in
    let first = begun_base a.n a.arrivals.now a.rows.now c.begin-s.result l.fit c.begin-s.ensures in
    let grown = subst (λ (x : List Line). Grown x (rows_of a.rows.now a.limits.now) s) first (subst (λ (x : List ℕ). Grown (base c.begin-s.result) (rows_of x a.limits.now) s) wide c.grow.ensures) in
    late_held a.n a.arrivals.now a.rows.now a.limits.now s c.outputs-outs.result l.limits grown
    (c.outputs-outs.ensures ∙ ap (λ (x : List ℕ). padded most_outputs 0 (map (lowest (base s)) (rows_of x a.limits.now))) wide)
