-- `sums_of` meets its contract: what the inputs passed come to, and what the digits that are left come to.
use mathlib.Core.Path.{ap}
use native.Mathlib.Omega.{arith}
use borrow.Author.Rules.{rules}
use Rattle.distance.specs.Base.{weight, load}
use Rattle.builder.proofs.SumsOf.{next-out, cost-most, next-in}
use Rattle.builder.proofs.look.sums_of.Goals as goal

pub loop-k-init : goal.loop-k-init
loop-k-init c = record { digits = search rules; weighed = omega (arith, ap (weight c.args.inputs.now.n) c.from-rest.ensures); loaded = omega (arith, ap (load c.args.inputs.now.n c.args.inputs.now.arrivals.now) c.from-rest.ensures); small = omega (arith, c.requires, c.from-rest.ensures); few = search rules; light = omega arith }

pub overflow_add-load : goal.overflow_add-load
overflow_add-load c = let l = c.loop-k in
    let q = cost-most c.args.inputs.now.n c.args.inputs.now.arrivals.now c.args.t l.weight l.load l.rest l.k c.power-top.result l.invariant c.loop-k-test.true c.power-top.ensures c.cost-load.result c.args.inputs.now.early c.cost-load.ensures in
    omega (arith, q, l.invariant.light, c.args.inputs.now.few)

pub loop-k-preserved-then-top-rest : goal.loop-k-preserved-then-top-rest
loop-k-preserved-then-top-rest c = let l = c.loop-k in
    next-in c.args.inputs.now.n c.args.inputs.now.arrivals.now c.args.t l.weight l.load l.rest l.k c.power-top.result l.invariant c.loop-k-test.true c.power-top.ensures c.cost-load.result c.args.inputs.now.early c.cost-load.ensures c.if-top-rest.true

pub loop-k-preserved : goal.loop-k-preserved
loop-k-preserved c = let l = c.loop-k in
    next-out c.args.inputs.now.n c.args.inputs.now.arrivals.now c.args.t l.weight l.load l.rest l.k c.power-top.result l.invariant c.loop-k-test.true c.power-top.ensures c.if-top-rest.false
