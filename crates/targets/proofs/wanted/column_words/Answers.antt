-- `targets::wanted::column_words` meets its contract. Assumes nothing.
use mathlib.Core.Path.{◌∙◌}
use native.Mathlib.Nat.{zero-add}
use lib.ListN.{get_or}
use Rattle.circuit.specs.Gate.{bit}
use Rattle.targets.specs.Wanted.{packed}
use Rattle.targets.proofs.wanted.column_words.Goals as goal

pub returns : goal.returns
returns c = let a = c.args in
    let w = c.column_word.ensures ∙ (λ i. packed (λ b. bit a.j (get_or a.table.now (zero-add b i) 0)) 64) in
    λ i. record { w0 = w i; w1 = c.column_word-2.ensures i; w2 = c.column_word-3.ensures i; w3 = c.column_word-4.ensures i }
