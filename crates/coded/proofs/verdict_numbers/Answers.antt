-- `coded::verdict_numbers` meets its contract. Assumes nothing.
use mathlib.Core.Path.{ap, sym}
use Rattle.coded.specs.Coded.{verdict_code}
use Rattle.coded.proofs.verdict_numbers.Goals as goal

pub returns-in-Wrong : goal.returns-in-Wrong
returns-in-Wrong c = sym (ap verdict_code c.in-Wrong.is)

pub returns-in-OverGates : goal.returns-in-OverGates
returns-in-OverGates c = sym (ap verdict_code c.in-OverGates.is)

pub returns-in-OverDepth : goal.returns-in-OverDepth
returns-in-OverDepth c = sym (ap verdict_code c.in-OverDepth.is)

pub returns-in-OverAndDepth : goal.returns-in-OverAndDepth
returns-in-OverAndDepth c = sym (ap verdict_code c.in-OverAndDepth.is)

pub returns-in-Pass : goal.returns-in-Pass
returns-in-Pass c = sym (ap verdict_code c.in-Pass.is)
