-- `words::Words::is_matrix` meets its contract: the word is `matrix`, `table` or neither. Assumes nothing.
use mathlib.Core.Bool.{Bool}
use mathlib.Core.List.{List}
use Prim.Native.Nat.{ℕ}
use Rattle.text.specs.Places.{same_list}
use Rattle.script.specs.Reading.{matrix_word, table_word}
use Rattle.script.proofs.Steps.{word_is, word_read, kind_none, kind_matrix, kind_table, kind-not}
use Rattle.script.proofs.words.Words.is_matrix.Goals as goal

abbrev is-matrix : List ℕ → Bool
is-matrix w = same_list w matrix_word

abbrev is-table : List ℕ → Bool
is-table w = same_list w table_word

pub returns-in_err-word : goal.returns-in_err-word
returns-in_err-word c = rw c.from_residual.ensures (kind_none _ c.in_err-word.ensures)

pub returns-then-same : goal.returns-then-same
returns-then-same c = let p = c.in_ok-word.ensures in
    word_read p (kind_matrix _ (word_is is-matrix p c.if-same.ensures))

pub returns-then-same-2 : goal.returns-then-same-2
returns-then-same-2 c = let p = c.in_ok-word.ensures in
    word_read p (kind_table _ (word_is is-matrix p c.if-same.ensures) (word_is is-table p c.if-same-2.ensures))

pub returns-else-same-2 : goal.returns-else-same-2
returns-else-same-2 c = let p = c.in_ok-word.ensures in
    kind-not _ (word_is is-matrix p c.if-same.ensures) (word_is is-table p c.if-same-2.ensures)
