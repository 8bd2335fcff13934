-- `text::read_number` meets its contract. The invariant: the digits left, after the number so far, say the whole; a number too large stays so. Assumes nothing.
use Rattle.std.proofs.Common.{rules, arith}
use mathlib.Core.Path.{◌≡◌, sym, ◌∙◌}
use Prim.Native.Nat.{◌+◌, ◌-◌, ◌*◌, ◌^◌, ◌≤◌}
use lib.ListN.{get_or}
use Rattle.text.proofs.Numbers.{num_other, num_step, num_big, num_end, num_is}
use Rattle.text.proofs.read_number.Goals as goal

pub returns-in_err-d : goal.returns-in_err-d
returns-in_err-d c = let s = c.args.s.now in
    num_is s (omega arith) (c.from_residual.ensures ∙ sym (num_other _ s _ c.loop-x-test.true c.in_err-d.ensures) ∙ c.loop-x.invariant.left)

pub returns-then-acc : goal.returns-then-acc
returns-then-acc c = let s = c.args.s.now in
    let big : 2 ^ 64 ≤ c.loop-x.acc * 10 + (get_or s c.loop-x.x-index 0 - 48) = omega arith in
    num_is s (omega arith)
    (sym (num_step _ s _ c.loop-x-test.true c.in_ok-d.ensures.0 ∙ num_big _ _ big) ∙ c.loop-x.invariant.left)

pub returns-in_err-acc : goal.returns-in_err-acc
returns-in_err-acc c = let s = c.args.s.now in
    let big : 2 ^ 64 ≤ c.loop-x.acc * 10 + (get_or s c.loop-x.x-index 0 - 48) =
    omega (arith, c.in_err-acc.ensures, c.in_ok-d.ensures) in
    num_is s (omega arith)
    (c.from_residual-in_err-acc.ensures ∙ sym (num_step _ s _ c.loop-x-test.true c.in_ok-d.ensures.0 ∙ num_big _ _ big) ∙ c.loop-x.invariant.left)

pub loop-x-preserved : goal.loop-x-preserved
loop-x-preserved c = let s = c.args.s.now in
    let i = c.loop-x.x-index in
    let sum : c.in_ok-acc.acc ≡ c.loop-x.acc * 10 + (get_or s i 0 - 48) =
    omega (arith, c.in_ok-acc.ensures, c.in_ok-d.ensures) in
    record {
      fits = omega (arith, c.in_ok-acc.ensures);
      left = rw sum (sym (num_step c.loop-x.acc s i c.loop-x-test.true c.in_ok-d.ensures.0) ∙ c.loop-x.invariant.left);
    }

pub returns : goal.returns
returns c = let s = c.args.s.now in
    num_is s (search rules) (num_end _ s _ c.loop-x-test.false c.loop-x.invariant.fits ∙ c.loop-x.invariant.left)
