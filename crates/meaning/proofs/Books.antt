-- The book of a file that was read, and the file's reading: the names, how many gates and inputs, and which outputs are set.
use Rattle.std.specs.Prelude.{Option, Some, None, Ok}
use mathlib.Core.Path.{◌≡◌, refl, sym, ap, ◌∙◌}
use mathlib.Core.Bool.{Bool, true, false, ◌||◌}
use mathlib.Core.List.{List, [], ◌∷◌}
use Prim.Native.Nat.{ℕ, zero, suc, ◌+◌, ◌≤◌, ◌<◌, min}
use native.Mathlib.Omega.{arith}
use borrow.Author.Tests.{eq-eqb, ne_eqb}
use lib.Dec.{eqb}
use lib.ListN.{length, get_or}
use Rattle.circuit.specs.Sizes.{most_inputs, most_gates}
use Rattle.circuit.specs.Lines.{upto}
use Rattle.circuit.proofs.Upto.{upto-length, upto_at}
use Rattle.formula.specs.Sizes.{most_names}
use Rattle.formula.specs.Names.{no_names, is_line}
use Rattle.formula.specs.Emit.{no_gates}
use Rattle.grammar.specs.File.{Assignment, File}
use Rattle.sheet.specs.declared.Book.{Book}
use Rattle.sheet.specs.Sheet.{no_book, file_of}
use Rattle.drawing.specs.Outputs.{output_no, out_line, top_of}
use Rattle.drawing.specs.Drawing.{numbers_in}
use Rattle.known.proofs.Words.{clash}
use Rattle.known.proofs.Table.{start_of}
use Rattle.known.proofs.Fault.{read_table}
use Rattle.meaning.specs.Meaning.{operators_in, inputs_in, sets_output}
use Rattle.meaning.proofs.Rows.{Leads, file_leads}
use Rattle.meaning.proofs.Tables.{starts_of, names_of, leads_names}
use Rattle.meaning.proofs.Inputs.{inputs_few, leads_inputs}
use Rattle.meaning.proofs.Course.{leads_count}
use Rattle.meaning.proofs.Outs.{shows, shows_none, none_above, highest}

-- an output is set where one of the names that are set is that output
sets_some : (s : List ℕ) (l : List Assignment) (i j : ℕ) → i < length (names_of l) → output_no s (get_or (names_of l) i 0) ≡ suc j → sets_output s l j ≡ true
unfolding sets_output
sets_some s [] i j h e = absurd (omega arith)
sets_some s (a ∷ l) zero j h e = rw (eq-eqb _ _ e)
sets_some s (a ∷ l) (suc i) j h e = by (eqb (output_no s a.name) (suc j)) (sets_some s l i j (omega arith) e)
  where
    by : (t : Bool) → sets_output s l j ≡ true → (t || sets_output s l j) ≡ true
    by true k = refl
    by false k = k

sets_none : (s : List ℕ) (l : List Assignment) (j : ℕ) → ((i : ℕ) → i < length (names_of l) → output_no s (get_or (names_of l) i 0) ≡ suc j → ⊥) → sets_output s l j ≡ false
unfolding sets_output
sets_none s [] j h = refl
sets_none s (a ∷ l) j h = rw (ne_eqb (output_no s a.name) (suc j) (h 0 (omega arith))) (sets_none s l j (λ i k. h (suc i) (omega arith)))

module _ (s : List ℕ) (l : List Assignment) (file : File s l) (q : ℕ) (read : (file_of s).step ≡ Ok q) where
  abbrev b : Book
  b = (file_of s).book

  pub leads : Leads s no_book l b
  leads = file_leads s q l read file

  pub few-names : b.names.n ≤ most_names
  few-names = (read_table s q read).room

  -- how many gates there are: one for each operator, or one more than there is room for
  pub count_is : b.gates.count ≡ min (most_gates + 1) (operators_in l)
  unfolding no_book no_names no_gates
  count_is = leads_count s no_book b l leads (omega arith) ∙ omega arith

  -- as many inputs are read as the file's names read
  pub inputs_are : b.gates.high ≡ inputs_in s l
  unfolding no_book no_names no_gates
  inputs_are = leads_inputs s no_book b l leads (λ i h. absurd (omega arith)) ∙ omega arith

  pub few_inputs : b.gates.high ≤ most_inputs
  few_inputs = omega (arith, inputs_are, inputs_few s l)

  -- ---- names and outputs

  -- the names of the table are those that are set, in their order
  names_are : starts_of b ≡ names_of l
  unfolding no_book no_names upto
  names_are = leads_names s no_book b l leads

  names_many : length (names_of l) ≡ b.names.n
  names_many = ap length (sym names_are) ∙ upto-length (start_of b) b.names.n

  name_at : (i : ℕ) → i < b.names.n → get_or (names_of l) i 0 ≡ start_of b i
  name_at i h = ap (λ (l : List ℕ). get_or l i 0) (sym names_are) ∙ upto_at (start_of b) 0 b.names.n i h

  -- a row that is output j sets it
  row_sets : (i j : ℕ) → i < b.names.n → output_no s (start_of b i) ≡ suc j → sets_output s l j ≡ true
  row_sets i j h e = sets_some s l i j (omega (arith, names_many)) (ap (output_no s) (name_at i h) ∙ e)

  -- an output is set exactly where the table has its line
  pub sets_is : (j : ℕ) → sets_output s l j ≡ is_line (out_line (numbers_in s b) b.names.lines b.names.n j)
  sets_is j = by (out_line (numbers_in s b) b.names.lines b.names.n j) refl
    where
      by : (f : Option ℕ) → out_line (numbers_in s b) b.names.lines b.names.n j ≡ f → sets_output s l j ≡ is_line f
      by (Some v) e = let w = shows s b few-names j v e in row_sets w.row j w.within w.number
      by None e = sets_none s l j (λ i k z. let h : i < b.names.n = omega (arith, names_many) in shows_none s b few-names j e i h (ap (output_no s) (sym (name_at i h)) ∙ z))

  -- each is below the highest,
  pub set_below : (j : ℕ) → sets_output s l j ≡ true → j < top_of (numbers_in s b) b.names.n
  set_below j e = by (out_line (numbers_in s b) b.names.lines b.names.n j) refl (sym (sets_is j) ∙ e)
    where
      by : (f : Option ℕ) → out_line (numbers_in s b) b.names.lines b.names.n j ≡ f → is_line f ≡ true → j < top_of (numbers_in s b) b.names.n
      by (Some v) ef e = let w = shows s b few-names j v ef in none_above s b few-names w.row j w.within w.number
      by None ef e = absurd (clash false e refl)

  -- so that none is from there on,
  pub unset_above : (j : ℕ) → top_of (numbers_in s b) b.names.n ≤ j → sets_output s l j ≡ false
  unset_above j h = by (sets_output s l j) refl
    where
      by : (t : Bool) → sets_output s l j ≡ t → sets_output s l j ≡ false
      by true e = absurd (omega (arith, set_below j e))
      by false e = e

  -- and the last before it is set
  pub highest_set : (j : ℕ) → suc j ≡ top_of (numbers_in s b) b.names.n → sets_output s l j ≡ true
  highest_set j e = let x = highest s b few-names j e in row_sets x.0 j x.1.0 x.1.1
