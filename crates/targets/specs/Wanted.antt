-- What a target wants of the outputs on every input, in words.
use Rattle.std.specs.Prelude.{Bool, cond, List, ℕ, zero, suc, ◌+◌, ◌*◌, ◌^◌, min, eqb, get_or}
use Rattle.circuit.specs.declared.Words.{Words}
use Rattle.circuit.specs.Sizes.{most_inputs, most_outputs}
use Rattle.circuit.specs.Gate.{Kind, bit, words_of, no_words}
use Rattle.circuit.specs.Lines.{upto, padded, input_words}
use Rattle.circuit.specs.Rows.{Row, no_row}
use Rattle.targets.specs.Target.{Target, matrix, table, target_by}

-- the number whose bits are f 0, f 1, .., k of them
abbrev pub packed : (ℕ → ℕ) → ℕ → ℕ
packed f zero = 0
packed f (suc k) = packed f k + f k * 2 ^ k

-- the sum of the words of the inputs among the lowest k that a mask has
abbrev pub mask_words : ℕ → ℕ → Words
mask_words zero mask = no_words
mask_words (suc k) mask =
    let w = mask_words k mask in
    let v = words_of Kind.XOR w (get_or input_words k no_words) in
    cond (eqb (bit k mask) 1) v w

-- what a row wants, in words: the sum that its mask says, inverted where its constant is 1
unfoldable pub row_words : Row → Words
row_words r =
    let w = mask_words most_inputs r.mask in
    cond (eqb r.constant 1) (words_of Kind.NOT w w) w

-- what a table wants of output j, in words: bit j of its entries
abbrev pub column_words : List ℕ → ℕ → Words
column_words entries j =
    record {
      w0 = packed (λ (b : ℕ). bit j (get_or entries b 0)) 64;
      w1 = packed (λ (b : ℕ). bit j (get_or entries (64 + b) 0)) 64;
      w2 = packed (λ (b : ℕ). bit j (get_or entries (128 + b) 0)) 64;
      w3 = packed (λ (b : ℕ). bit j (get_or entries (192 + b) 0)) 64;
    }

-- what the target wants of output j on every input, in words
unfoldable pub wanted_words : Target → ℕ → Words
wanted_words (matrix rows) j = row_words (get_or rows j no_row)
wanted_words (table entries) j = column_words entries j

-- what it wants of each of m outputs, at most as many as there may be, and no words past the last of them
unfoldable pub wanted_of : Target → ℕ → List Words
wanted_of t m = padded most_outputs no_words (upto (wanted_words t) (min m most_outputs))

-- the same of a target by its kind and its bytes, with zeros past the last of them
unfoldable pub wanted_in : Bool → List ℕ → ℕ → List Words
wanted_in only bytes m = let k = min m most_outputs in wanted_of (target_by only most_inputs k bytes) k
