-- `look_at_append`: each way out is the definition at the tests that led there.
use borrow.Author.Tests.{lt-ltb, le-ltb}
use native.Mathlib.Omega.{arith}
use mathlib.Core.Path.{sym, ◌∙◌}
use Rattle.bench.specs.Parts.{append_look}
use Rattle.bench.proofs.Stood.{standing-shaped}
use Rattle.bench.proofs.appending.look_at_append.Goals as goal

pub overflow_add-bench : goal.overflow_add-bench
overflow_add-bench c = let z = c.args.bench.now in
    omega (arith, standing-shaped z.is_open z.n z.m z.g (sym c.is_standing.ensures ∙ c.if-not-is_standing.false))

pub returns-then-not-is_standing : goal.returns-then-not-is_standing
unfolding append_look
returns-then-not-is_standing c = simp (sym c.is_standing.ensures ∙ c.if-not-is_standing.true)

pub returns-then-bench-ge-GATES : goal.returns-then-bench-ge-GATES
unfolding append_look
returns-then-bench-ge-GATES c = simp (sym c.is_standing.ensures ∙ c.if-not-is_standing.false, le-ltb _ _ c.if-bench-ge-GATES.true)

pub returns : goal.returns
unfolding append_look
returns c = simp (sym c.is_standing.ensures ∙ c.if-not-is_standing.false, lt-ltb _ _ c.if-bench-ge-GATES.false) c.check_gate.ensures
