-- `distance` meets its contract: a refusal is what the look found, and nothing after it refuses.
use mathlib.Core.Path.{refl, sym, ap, ◌∙◌}
use Prim.Native.Nat.{◌≤◌}
use native.Mathlib.Omega.{arith}
use lib.Pow.{pow_mono}
use Rattle.std.specs.Prelude.{Ok}
use Rattle.std.proofs.lemmas.Result.{err_from_is_err_and}
use Rattle.distance.specs.Query.{answer_of, lines_of}
use Rattle.distance.proofs.Refuse.{Fit, fit}
use Rattle.distance.proofs.distance.Goals as goal
use Rattle.distance.proofs.distance.Goals.{In_ok-look}

-- what the look showed
ok : (c : In_ok-look) → let a = c.args in Fit a.n a.masks.now a.depths.now a.target a.d
ok c = fit _ _ _ _ _ (sym c.look.ensures ∙ c.in_ok-look.was)

pub returns-in_err-look : goal.returns-in_err-look
unfolding answer_of lines_of
returns-in_err-look c =
    let p = err_from_is_err_and c.from_residual.result c.from_residual.ensures.1 in
    rw (p.1, p.2) (rw (sym c.look.ensures ∙ c.in_err-look.was) refl)

pub invariant_of-base : goal.invariant_of-base
invariant_of-base c = let f = ok c in record { even = f.even; few_lines = f.few_lines; shallow = f.shallow }

pub overflow_cast-n : goal.overflow_cast-n
overflow_cast-n c = omega (arith, (ok (goal.at.overflow_cast-n c).In_ok-look).few_inputs)

pub overflow_cast-target : goal.overflow_cast-target
overflow_cast-target c =
    let f = ok (goal.at.overflow_cast-target c).In_ok-look in
    let h : c.args.n ≤ 8 = omega (arith, f.few_inputs) in omega (arith, f.below, pow_mono h)

pub overflow_cast-d : goal.overflow_cast-d
overflow_cast-d c = omega (arith, (ok (goal.at.overflow_cast-d c).In_ok-look).depth)

pub by_sizes-requires-clause-few_inputs : goal.by_sizes-requires-clause-few_inputs
by_sizes-requires-clause-few_inputs c = (ok (goal.at.by_sizes-requires-clause-few_inputs c).In_ok-look).few_inputs

pub by_sizes-requires-clause-shallow : goal.by_sizes-requires-clause-shallow
by_sizes-requires-clause-shallow c = (ok (goal.at.by_sizes-requires-clause-shallow c).In_ok-look).depth

pub returns : goal.returns
unfolding answer_of lines_of
returns c = rw (sym c.look.ensures ∙ c.in_ok-look.was) (ap Ok c.by_sizes.ensures)
