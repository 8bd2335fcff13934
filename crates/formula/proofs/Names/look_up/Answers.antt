use Rattle.formula.proofs.Table.{look_input, look_table}
use Rattle.formula.proofs.Names.look_up.Goals as goal

pub returns-in-Some : goal.returns-in-Some
returns-in-Some c = look_input _ _ _ _ _ _ _ _ _ c.input_of.ensures c.in-Some.is

pub returns-in-None : goal.returns-in-None
returns-in-None c = look_table _ _ _ _ _ _ _ _ _ _ _ c.input_of.ensures c.in-None.is c.low_key.ensures c.high_key.ensures c.find.ensures
