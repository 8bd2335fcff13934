-- `circuit::gate::not` meets its contract: word by word. Assumes nothing.
use borrow.Author.Rules.{rules}
use Rattle.circuit.specs.Gate.{Kind}
use Rattle.circuit.proofs.WordLaws.{words_are}
use Rattle.circuit.proofs.gate.not.Goals as goal

pub returns : goal.returns
returns c = words_are Kind.NOT c.args.a c.args.a _ (search rules) (search rules) (search rules) (search rules)
