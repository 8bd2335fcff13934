-- `text::put_decimal` meets its contract. The digits are those that `io` writes, the fewest. Assumes nothing.
use borrow.Author.Rules.{rules}
use mathlib.Core.Path.{◌∙◌}
use Rattle.text.proofs.Numbers.{digits_text, few_digits}
use Rattle.text.proofs.put_decimal.Goals as goal

pub returns : goal.returns
returns c = let f = few_digits c.args.n c.decimal-k.result (search rules) c.decimal-k.ensures.len in
    rw (c.decimal-k.ensures.digits ∙ digits_text 20 _ _ f c.decimal-k.ensures.len) at c.put.ensures
