-- Which names are outputs, which lines they have, and refusal 17.
use Rattle.std.specs.Prelude.{Bool, true, false, cond, List, ℕ, zero, suc, ◌+◌, ◌-◌, ◌*◌, leb, ltb, eqb, get_or, Option, Some, None}
use Rattle.circuit.specs.Lines.{upto}
use Rattle.formula.specs.Sizes.{most_names, longest}
use Rattle.formula.specs.Text.{seen, word_end}
use Rattle.formula.specs.Names.{few_names, is_line}

-- one more than the number that f digits from i on write after the number v; 0 where there is anything else
unfoldable pub digits_from : List ℕ → ℕ → ℕ → ℕ → ℕ
digits_from s zero i v = v + 1
digits_from s (suc f) i v =
    let r = digits_from s f (i + 1) (v * 10 + (get_or s i 0 - 48)) in
    cond (ltb (get_or s i 0) 48) 0 (cond (ltb 57 (get_or s i 0)) 0 r)

-- a zero stands first among the digits from p to e, and not alone
unfoldable pub zero_first : List ℕ → ℕ → ℕ → Bool
zero_first s p e = cond (ltb 1 (e - p)) (seen s p 48) false

-- one more than the number of the output that the name at p is, y and a decimal number; 0 for any other name
unfoldable pub output_no : List ℕ → ℕ → ℕ
output_no s p =
    let e = word_end s p in
    cond (seen s p 121) (cond (leb (e - p) 1) 0 (cond (ltb longest (e - p)) 0 (cond (zero_first s (p + 1) e) 0 (digits_from s (e - (p + 1)) (p + 1) 0)))) 0

-- the numbers of the first n names; 0 past them
unfoldable pub numbers_of : List ℕ → List ℕ → ℕ → List ℕ
numbers_of s starts n = upto (λ (i : ℕ). cond (ltb i (few_names n)) (output_no s (get_or starts i 0)) 0) most_names

-- the line of output j, among f names from i on
unfoldable pub out_from : List ℕ → List ℕ → ℕ → ℕ → ℕ → Option ℕ
out_from numbers lines j zero i = None
out_from numbers lines j (suc f) i =
    let r = out_from numbers lines j f (i + 1) in
    cond (eqb (get_or numbers i 0) (j + 1)) (Some (get_or lines i 0)) r

-- the line of output j, among the first n names
abbrev pub out_line : List ℕ → List ℕ → ℕ → ℕ → Option ℕ
out_line numbers lines n j = out_from numbers lines j (few_names n) 0

-- a line, or 0 where there is none
abbrev pub line_or0 : Option ℕ → ℕ
line_or0 (Some v) = v
line_or0 None = 0

-- the greatest of t and f numbers from i on
unfoldable pub top_from : List ℕ → ℕ → ℕ → ℕ → ℕ
top_from numbers zero i t = t
top_from numbers (suc f) i t = top_from numbers f (i + 1) (cond (ltb t (get_or numbers i 0)) (get_or numbers i 0) t)

-- one more than the highest output; 0 where there is none
abbrev pub top_of : List ℕ → ℕ → ℕ
top_of numbers n = top_from numbers (few_names n) 0 0

-- f outputs from j on are set
unfoldable pub all_from : List ℕ → List ℕ → ℕ → ℕ → ℕ → Bool
all_from numbers lines n zero j = true
all_from numbers lines n (suc f) j = let r = all_from numbers lines n f (j + 1) in cond (is_line (out_line numbers lines n j)) r false

-- an input is read, an output is set, and each output below one that is set; else 17
unfoldable pub whole_of : List ℕ → List ℕ → ℕ → ℕ → Bool
whole_of numbers lines n high =
    let t = top_of numbers n in
    cond (eqb high 0) false (cond (eqb t 0) false (all_from numbers lines n t 0))
