-- An equation file: a reader that computes. Each name is set after its formula was read.
use Rattle.std.specs.Prelude.{cond, List, ℕ, zero, suc, ◌+◌, ◌-◌, leb, ltb, eqb, length, get_or, set, replicate, Option, Some, None, Result, Ok, Err}
use Rattle.formula.specs.Sizes.{most_names, longest, nesting}
use Rattle.formula.specs.Text.{seen, skip_of, word_end}
use Rattle.formula.specs.Tree.{Res}
use Rattle.formula.specs.Names.{low_key, high_key, no_names, look_up, name_in}
use Rattle.formula.specs.Levels.{or_of}
use Rattle.formula.specs.Emit.{Out, Read, read_at, no_gates, failed, emitted}
use Rattle.formula.specs.declared.Gates.{Gates}
use Rattle.formula.specs.declared.Names.{Names}
use Rattle.formula.specs.declared.Why.{Why}
use Rattle.formula.specs.declared.Why.TheVariants.{Text, Name}
use Rattle.grammar.specs.File.{line_ends, sign_after}
use Rattle.sheet.specs.declared.Book.{Book}

-- no names and no gates
unfoldable pub no_book : Book
no_book = record { names = no_names; starts = replicate most_names 0; gates = no_gates }

-- what is known of names after the table of a book
abbrev pub names_in : List ℕ → Book → ℕ → Res
names_in s b = name_in s b.names

-- one name more in a table: the one at p, which has the line v
abbrev pub name_set : List ℕ → Names → ℕ → ℕ → Names
name_set s t p v = record { low = set t.low t.n (low_key s p (word_end s p)); high = set t.high t.n (high_key s p (word_end s p)); lines = set t.lines t.n v; n = t.n + 1 }

-- the same in a book, and these gates
abbrev pub set_name : List ℕ → Book → Gates → ℕ → ℕ → Book
set_name s b g p v = record { names = name_set s b.names p v; starts = set b.starts b.names.n p; gates = g }

-- after a formula the line has to end
abbrev pub line_with : List ℕ → Gates → Out → Read
line_with s g (Ok x) = cond (line_ends s x.0) (read_at g (Ok x)) (failed (Text x.0))
line_with s g (Err w) = failed w

-- the same of an answer
unfoldable pub line_ended : List ℕ → Read → Read
line_ended s r = line_with s r.gates r.out

-- the rest of an assignment after its name at p, of which this is known: = and a formula over the names nm
abbrev pub targeted : List ℕ → (ℕ → Res) → ℕ → Gates → Option ℕ → Read
targeted s nm p g (Some v) = failed (Name (word_end s p - 1))
targeted s nm p g None =
    let q = sign_after s p in
    let r = line_ended s (emitted g (or_of s nm nesting (q + 1))) in
    cond (seen s q 61) r (failed (Text q))

-- one assignment, whose first byte stands at p, over the names that were set before it: where the text goes on, and its line
unfoldable pub assigning : List ℕ → Names → ℕ → Gates → Read
assigning s t p g =
    let e = word_end s p in
    let r = targeted s (name_in s t) p g (look_up s t.low t.high t.lines t.n p e) in
    cond (leb most_names t.n) (failed (Text p)) (cond (leb e p) (failed (Text p)) (cond (ltb longest (e - p)) (failed (Text (p + longest))) r))

-- the assignment at p after a book
abbrev pub assign_at : List ℕ → ℕ → Book → Read
assign_at s p b = assigning s b.names p b.gates

-- the names and gates of a file, and where it ends, or why it is refused
pub record Sheet : Type 0 where
  pub book : Book
  pub step : Result ℕ Why

-- no file, and why
abbrev pub refused : Why → Sheet
refused w = record { book = no_book; step = Err w }

-- after an assignment, which left these gates: k goes on with its name set, or the file is refused
abbrev pub onward : (ℕ → Book → Sheet) → List ℕ → ℕ → Book → Gates → Out → Sheet
onward k s p b g (Ok x) = k x.0 (set_name s b g p x.1)
onward k s p b g (Err w) = refused w

-- from p on, at most f lines and assignments
unfoldable pub filed : List ℕ → ℕ → ℕ → Book → Sheet
filed s zero p b = record { book = b; step = Ok p }
filed s (suc f) p b =
    let q = skip_of s p in
    let a = assign_at s q b in
    let next = filed s f (q + 1) b in
    let on = onward (λ z c. filed s f z c) s q b a.gates a.out in
    cond (leb (length s) q) (record { book = b; step = Ok q }) (cond (eqb (get_or s q 0) 10) next on)

-- the whole file
abbrev pub file_of : List ℕ → Sheet
file_of s = filed s (suc (length s)) 0 no_book

-- a book and where it ends, or why it was not read
abbrev pub book_by : Book → Result ℕ Why → Result (Book × ℕ) Why
book_by b (Ok q) = Ok (b, q)
book_by b (Err w) = Err w

-- the book of a file, and where the file ends
abbrev pub book_of : List ℕ → Result (Book × ℕ) Why
book_of s = book_by (file_of s).book (file_of s).step
