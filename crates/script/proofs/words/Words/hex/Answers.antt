-- `words::Words::hex` meets its contract, a law for each return. Assumes nothing.
use Rattle.script.proofs.HexWords.{hex_none, hex_dash, hex_pairs, hex_lost}
use Rattle.script.proofs.words.Words.hex.Goals as goal

pub returns-in_err-from : goal.returns-in_err-from
returns-in_err-from c = rw c.from_residual.ensures (hex_none _ c.in_err-from.ensures)

pub returns-then-same : goal.returns-then-same
returns-then-same c = hex_dash c.in_ok-from.ensures c.same.ensures c.if-same.true

pub returns-then-is_pairs : goal.returns-then-is_pairs
returns-then-is_pairs c = hex_pairs c.in_ok-from.ensures c.same.ensures c.if-same.false c.is_pairs.ensures c.if-is_pairs.true

pub returns-else-is_pairs : goal.returns-else-is_pairs
returns-else-is_pairs c = hex_lost c.in_ok-from.ensures c.same.ensures c.if-same.false c.is_pairs.ensures c.if-is_pairs.false
