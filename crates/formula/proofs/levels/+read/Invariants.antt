use Rattle.std.proofs.Common.{◌*◌, ◌+◌, ◌-◌, length}
use Rattle.formula.specs.Tree.{And, Xor, Or}
use Rattle.formula.specs.Names.{name_in}
use Rattle.formula.specs.Levels.{not_of, and_of, xor_of, or_of}
use Rattle.formula.proofs.Reading.{Going}
use Rattle.formula.proofs.levels.+read.Given as goal

abbrev pub decreases-read_and : goal.decreases-read_and
decreases-read_and l = l.left * 8 + 3

abbrev pub decreases-read_not : goal.decreases-read_not
decreases-read_not l = l.left * 8 + 2

abbrev pub decreases-read_or : goal.decreases-read_or
decreases-read_or l = l.left * 8 + 5

abbrev pub decreases-read_paren : goal.decreases-read_paren
decreases-read_paren l = l.left * 8 + 1

abbrev pub decreases-read_xor : goal.decreases-read_xor
decreases-read_xor l = l.left * 8 + 4

abbrev pub invariant-read_and-loop-gates : goal.invariant-read_and-loop-gates
invariant-read_and-loop-gates l = Going l.s And (not_of l.s (name_in l.s l.names) l.left) l.fn.gates (and_of l.s (name_in l.s l.names) l.left l.at) l.gates l.p l.v

abbrev pub decreases-read_and-loop-gates : goal.decreases-read_and-loop-gates
decreases-read_and-loop-gates l = length l.s - l.p

abbrev pub invariant-read_or-loop-gates : goal.invariant-read_or-loop-gates
invariant-read_or-loop-gates l = Going l.s Or (xor_of l.s (name_in l.s l.names) l.left) l.fn.gates (or_of l.s (name_in l.s l.names) l.left l.at) l.gates l.p l.v

abbrev pub decreases-read_or-loop-gates : goal.decreases-read_or-loop-gates
decreases-read_or-loop-gates l = length l.s - l.p

abbrev pub invariant-read_xor-loop-gates : goal.invariant-read_xor-loop-gates
invariant-read_xor-loop-gates l = Going l.s Xor (and_of l.s (name_in l.s l.names) l.left) l.fn.gates (xor_of l.s (name_in l.s l.names) l.left l.at) l.gates l.p l.v

abbrev pub decreases-read_xor-loop-gates : goal.decreases-read_xor-loop-gates
decreases-read_xor-loop-gates l = length l.s - l.p
