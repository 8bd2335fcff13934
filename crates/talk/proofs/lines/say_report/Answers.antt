-- `talk::lines::say_report` meets its contract. Assumes nothing.
use mathlib.Core.Path.{◌≡◌}
use mathlib.Core.List.{[], ◌∷◌, ◌++◌}
use native.Mathlib.Omega.{arith}
use borrow.Author.Rules.{rules}
use Rattle.text.specs.Numbers.{labelled}
use Rattle.text.proofs.Putting.{put_then, put_free}
use Rattle.listing.specs.Printed.{new_line}
use Rattle.talk.specs.Words.{depth_name, and_depth_name}
use Rattle.talk.specs.Texts.{tally_text, report_text, verdict_text}
use Rattle.talk.proofs.Spoken.{said, said_as}
use Rattle.talk.proofs.lines.say_report.Goals as goal

pub returns : goal.returns
unfolding report_text
returns c = let r = c.args.r in
    let d = c.from.ensures in
    let a = c.from-2.ensures in
    let three = put_then (omega arith) (put_then (omega arith) c.put_tally-counted.ensures.put (put_free (omega arith) c.put_labelled-depth.ensures)) (put_free (omega arith) c.put_labelled-ands.ensures) in
    let five = put_then (omega arith) (put_then (omega arith) three (put_free (omega arith) c.put-space.ensures)) c.put_verdict-judged.ensures.put in
    let e : _ ≡ report_text r =
    λ i. tally_text r.gates r.counts ++ labelled depth_name (d i) ++ labelled and_depth_name (a i) ++ (32 ∷ []) ++ verdict_text r.verdict ++ new_line in
    said_as e (said (search rules) (put_then (omega arith) five (put_free (omega arith) c.put.ensures)))
