-- What a small file says: a = ~x0, then y0 = a & (x1 ^ x0), then y1 = a.
use mathlib.Core.Path.{◌≡◌, refl}
use mathlib.Core.List.{List, [], ◌∷◌, map}
use mathlib.Core.Bool.{true}
use Prim.Native.Nat.{ℕ, ◌+◌, ◌≤◌, ◌<◌}
use native.Mathlib.Omega.{arith}
use Rattle.circuit.specs.Lines.{upto}
use Rattle.circuit.specs.Rules.{shaped}
use Rattle.stored.specs.Stored.{gate_bytes, out_bytes}
use Rattle.stored.specs.Writing.{write_answer}
use Rattle.formula.specs.Sizes.{longest, nesting}
use Rattle.formula.specs.Text.{seen, past, is_letter, in_class, word_end, wrap_with}
use Rattle.formula.specs.Tree.{And, Xor, Tree, leaf, neg, bin, got}
use Rattle.formula.specs.Names.{input_of, name_by, look_up, find_from, few_names, no_names, low_key, high_key, middle, part_of, appended}
use Rattle.formula.specs.Emit.{no_gates, add_gate, invert, new_line, use_line}
use Rattle.formula.specs.Levels.{close_tree, chain, level, bracket, paren_of, not_of, or_of}
use Rattle.grammar.specs.File.{any_name, line_ends, sign_after, Assignment, Assigns, over, blank, assigned, File}
use Rattle.grammar.proofs.Unique.{found-formula}
use Rattle.grammar.proofs.Files.{any_past}
use Rattle.sheet.specs.Sheet.{line_ended, assigning, no_book, filed}
use Rattle.std.specs.Prelude.{Ok}
use Rattle.drawing.specs.Numbering.{shift_of, few_outputs, circuit_of}
use Rattle.drawing.specs.Drawing.{sketch_book, sketch_of, drawn_answer, drawn_bytes}
use Rattle.drawing.specs.Outputs.{digits_from, zero_first, output_no, numbers_of, out_from, top_from, all_from, whole_of}
use Rattle.text.specs.Places.{same_list}
use Rattle.meaning.specs.Meaning.{after, file_says, kinds_in, inputs_in}

-- the text, with LF after each line
abbrev file : List ℕ
file = 97 ∷ 61 ∷ 126 ∷ 120 ∷ 48 ∷ 10 ∷ 121 ∷ 48 ∷ 61 ∷ 97 ∷ 38 ∷ 40 ∷ 120 ∷ 49 ∷ 94 ∷ 120 ∷ 48 ∷ 41 ∷ 10 ∷ 121 ∷ 49 ∷ 61 ∷ 97 ∷ 10 ∷ []

-- its assignments: a name is the place where it stands
abbrev reading : List Assignment
reading =
    record { name = 0; formula = neg (leaf 3) }
    ∷ record { name = 6; formula = bin And (leaf 9) (bin Xor (leaf 12) (leaf 15)) }
    ∷ record { name = 19; formula = leaf 22 }
    ∷ []

-- the reader finds the formula t from p to z, and the line ends there
reads : (p z e : ℕ) (t : Tree) → word_end file p ≡ e → p < e → e ≤ p + longest → seen file (sign_after file p) 61 ≡ true → or_of file (any_name file) nesting (sign_after file p + 1) ≡ got z t
    → line_ends file z ≡ true → Assigns file p z (record { name = p; formula = t })
reads p z e t w h m sign f l =
    record { name = refl; some = omega arith; short = omega arith; sign = sign; formula = (found-formula file (any_name file) (any_past file) nesting (sign_after file p + 1) z t f).0; line = l }

read_so : File file reading
unfolding seen past is_letter in_class wrap_with name_by close_tree chain level bracket paren_of not_of line_ends
read_so =
    assigned {c = 0} (omega arith) (reads 0 5 1 (neg (leaf 3)) refl (omega arith) (omega arith) refl refl refl)
    (blank refl (assigned {c = 1} (omega arith) (reads 6 18 8 (bin And (leaf 9) (bin Xor (leaf 12) (leaf 15))) refl (omega arith) (omega arith) refl refl refl)
    (blank refl (assigned {c = 2} (omega arith) (reads 19 23 21 (leaf 22) refl (omega arith) (omega arith) refl refl refl) (blank refl (over refl))))))

-- y0 is 1 where x0 is 0 and x1 is 1
first_says : ◌≡◌ {A = List ℕ} (map (λ (x : ℕ). file_says file reading x 0) (0 ∷ 1 ∷ 2 ∷ 3 ∷ [])) (0 ∷ 0 ∷ 1 ∷ 0 ∷ [])
unfolding seen past is_letter in_class input_of digits_from zero_first output_no same_list after
first_says = refl

-- y1 is not x0
second_says : ◌≡◌ {A = List ℕ} (map (λ (x : ℕ). file_says file reading x 1) (0 ∷ 1 ∷ 2 ∷ 3 ∷ [])) (1 ∷ 0 ∷ 1 ∷ 0 ∷ [])
unfolding seen past is_letter in_class input_of digits_from zero_first output_no same_list after
second_says = refl

-- NOT, XOR and AND, over two inputs
worked_so : kinds_in reading ≡ 6 ∷ 0 ∷ 2 ∷ []
unfolding kinds_in
worked_so = refl

inputs_so : inputs_in file reading ≡ 2
unfolding seen past is_letter in_class input_of inputs_in
inputs_so = refl

-- what is stored: ~x0 on line 2, x1 ^ x0 on line 3, and AND of the two on line 4; y0 is line 4 and y1 is line 2
stored_so : (drawn_answer file 26 ≡ Ok 26)
    × (drawn_bytes file ≡ 83 ∷ 72 ∷ 2 ∷ 2 ∷ 3 ∷ 71 ∷ 84 ∷ 6 ∷ 0 ∷ 0 ∷ 71 ∷ 84 ∷ 0 ∷ 1 ∷ 0 ∷ 71 ∷ 84 ∷ 2 ∷ 2 ∷ 3 ∷ 79 ∷ 80 ∷ 4 ∷ 79 ∷ 80 ∷ 2 ∷ [])
unfolding seen past is_letter in_class wrap_with name_by close_tree chain level bracket paren_of not_of line_ends input_of look_up find_from few_names no_names low_key high_key middle part_of appended no_gates add_gate invert new_line use_line line_ended assigning no_book filed digits_from zero_first output_no numbers_of out_from top_from all_from whole_of shift_of few_outputs circuit_of sketch_book sketch_of drawn_answer drawn_bytes upto shaped write_answer gate_bytes out_bytes
stored_so = (refl, refl)
