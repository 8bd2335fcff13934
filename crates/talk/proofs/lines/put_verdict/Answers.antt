-- `talk::lines::put_verdict` meets its contract. Assumes nothing.
use native.Mathlib.Omega.{arith}
use borrow.Author.Rules.{rules}
use Rattle.text.proofs.Putting.{put_then, put_free}
use Rattle.talk.proofs.lines.put_verdict.Goals as goal

pub returns-in-Wrong : goal.returns-in-Wrong
returns-in-Wrong c = let told = c.in-Wrong.is in
    record { put = rw told (put_then (omega arith) (put_free (omega arith) c.put_labelled-input.ensures) (put_free (omega arith) c.put_labelled.ensures)); upper_bound = search rules }

pub returns-in-OverGates : goal.returns-in-OverGates
returns-in-OverGates c = record { put = rw c.in-OverGates.is (put_free (omega arith) c.put.ensures); upper_bound = search rules }

pub returns-in-OverDepth : goal.returns-in-OverDepth
returns-in-OverDepth c = record { put = rw c.in-OverDepth.is (put_free (omega arith) c.put-in-OverDepth.ensures); upper_bound = search rules }

pub returns-in-OverAndDepth : goal.returns-in-OverAndDepth
returns-in-OverAndDepth c = record { put = rw c.in-OverAndDepth.is (put_free (omega arith) c.put-in-OverAndDepth.ensures); upper_bound = search rules }

pub returns-in-Pass : goal.returns-in-Pass
returns-in-Pass c = record { put = rw c.in-Pass.is (put_free (omega arith) c.put-in-Pass.ensures); upper_bound = search rules }
