use mathlib.Core.Path.{◌≡◌}
use Rattle.circuit.specs.Gate.{value_in}
use Rattle.circuit.specs.Lines.{upto, padded}
use Rattle.talk.specs.Texts.{byte_of}
use Rattle.talk.specs.Saying.{packed_most}
use Rattle.talk.proofs.values.value_bytes.Given as goal

abbrev pub invariant-loop-j : goal.invariant-loop-j
invariant-loop-j l = l.bytes ≡ padded packed_most 0 (upto (byte_of (value_in l.w) l.n) l.j)
