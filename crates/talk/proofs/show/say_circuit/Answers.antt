-- `talk::show::say_circuit` meets its contract. Assumes nothing.
use mathlib.Core.Path.{ap}
use mathlib.Core.List.{◌++◌}
use Prim.Native.Nat.{ℕ}
use native.Mathlib.Omega.{arith}
use borrow.Author.Rules.{rules}
use Rattle.text.specs.Numbers.{labelled}
use Rattle.text.proofs.Putting.{put_then, put_free}
use Rattle.listing.specs.Printed.{new_line, counts_text, lines_in}
use Rattle.talk.specs.Words.{and_depth_name}
use Rattle.talk.specs.Texts.{verdict_text}
use Rattle.talk.specs.Saying.{shown_with}
use Rattle.talk.proofs.Spoken.{said, said_as}
use Rattle.talk.proofs.show.say_circuit.Goals as goal

pub returns : goal.returns
unfolding shown_with
returns c = let x = c.args.c in
    let r = c.args.r in
    let counts = put_free (omega arith) c.put_counts-counted.ensures in
    let lines = put_free (omega arith) c.put_lines-listed.ensures in
    let three = put_then (omega arith) (put_then (omega arith) counts (put_free (omega arith) c.put_labelled-ands.ensures)) (put_free (omega arith) c.put-start.ensures) in
    let five = put_then (omega arith) (put_then (omega arith) three lines) c.put_verdict-judged.ensures.put in
    let e = ap (λ (d : ℕ). counts_text x.n x.m x.g r.depth ++ labelled and_depth_name d ++ new_line ++ lines_in x ++ verdict_text r.verdict ++ new_line) c.from.ensures in
    said_as e (said (search rules) (put_then (omega arith) five (put_free (omega arith) c.put.ensures)))
