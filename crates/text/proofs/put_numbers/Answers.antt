-- `text::put_numbers` meets its contract. The invariant: the numbers so far are put. Assumes nothing.
use Rattle.std.proofs.Common.{rules, arith, ◌≡◌, ℕ, length, take}
use mathlib.Core.Path.{◌∙◌, ap}
use lib.Seq.{take-length}
use Rattle.text.specs.Numbers.{numbers_text}
use Rattle.text.proofs.Numbers.{numbers_next}
use Rattle.text.proofs.Putting.{put-none, put_then, put_as, is_free, not_free, put_fits, put_short, put_free}
use Rattle.text.proofs.put_numbers.Goals as goal

pub returns-then-room-numbers : goal.returns-then-room-numbers
returns-then-room-numbers c = put_short (omega arith)

pub returns-then-not-is_free : goal.returns-then-not-is_free
returns-then-not-is_free c = put_short (not_free _ _ c.is_free.ensures c.if-not-is_free.true-raw)

pub loop-x-init : goal.loop-x-init
unfolding numbers_text
loop-x-init c = record { so_far = search rules; put = put-none c.args.room.now c.args.at }

pub loop-x-preserved : goal.loop-x-preserved
loop-x-preserved c = let room = is_free _ _ c.is_free.ensures c.if-not-is_free.false-raw in
    record {
      so_far = omega (arith, c.put_spaced-next.ensures.bound);
      put =
          put_as (numbers_next c.args.numbers.now c.loop-x.x-index c.loop-x-test.true)
          (put_then (omega arith) c.loop-x.invariant.put (put_free (omega arith) c.put_spaced-next.ensures));
    }

pub returns : goal.returns
returns c = let ns = c.args.numbers.now in
    let e : c.loop-x.x-index ≡ length ns = omega arith in
    put_fits (is_free _ _ c.is_free.ensures c.if-not-is_free.false-raw) (omega arith)
    (put_as (ap (λ (k : ℕ). numbers_text (take k ns)) e ∙ ap numbers_text (take-length ns)) c.loop-x.invariant.put)
