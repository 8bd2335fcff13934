-- What an equation file means, on trees: the value of each output on each input value, each name standing for the formula
-- that was set before it. The reading l of a file is that of the grammar; a leaf is the place of a name.
use Rattle.std.specs.Prelude.{Option, Some, None}
use Rattle.std.specs.Prelude.{◌≡◌, Bool, false, cond, ◌||◌, List, [], ◌∷◌, ◌++◌, map, ℕ, suc, ◌+◌, ◌-◌, min, max, eqb, ltb, length}
use Rattle.std.specs.Int.Bits.{differ}
use Rattle.circuit.specs.Gate.{bit}
use Rattle.circuit.specs.Lines.{Gate, Listing}
use Rattle.formula.specs.Text.{word_end}
use Rattle.formula.specs.Tree.{Op, And, Xor, Or, kind_no, Tree, leaf, neg, bin}
use Rattle.formula.specs.Names.{input_of}
use Rattle.grammar.specs.File.{Assignment}
use Rattle.drawing.specs.Outputs.{output_no}
use Rattle.known.specs.Known.{same_name}

-- what an operator gives for two values, each 0 or 1
abbrev pub apply : Op → ℕ → ℕ → ℕ
apply And a b = min a b
apply Xor a b = differ a b
apply Or a b = max a b

-- what a formula says, where `at p` is the value of the name at p
abbrev pub says : (ℕ → ℕ) → Tree → ℕ
says at (leaf p) = at p
says at (neg t) = 1 - says at t
says at (bin o a b) = apply o (says at a) (says at b)

-- a name that was set, by the place where it stands, and its value
pub record Held : Type 0 where
  pub name : ℕ
  pub value : ℕ

-- the value of the name at p among names that were set
abbrev pub value_in : List ℕ → List Held → ℕ → ℕ
value_in s [] p = 0
value_in s (h ∷ held) p = cond (same_name s h.name p) h.value (value_in s held p)

-- an input's bit of the input value x, or another value
abbrev pub input_or : Option ℕ → ℕ → ℕ → ℕ
input_or (Some i) x v = bit i x
input_or None x v = v

-- the value of the name at p on input value x: an input's bit, or that of a name that was set
abbrev pub name_on : List ℕ → ℕ → List Held → ℕ → ℕ
name_on s x held p = input_or (input_of s p (word_end s p)) x (value_in s held p)

-- the names after some assignments, the last one first, each with the value of its formula on input value x
unfoldable pub after : List ℕ → ℕ → List Held → List Assignment → List Held
after s x held [] = held
after s x held (a ∷ l) = after s x (record { name = a.name; value = says (name_on s x held) a.formula } ∷ held) l

-- the value of output j among names that were set
abbrev pub output_in : List ℕ → List Held → ℕ → ℕ
output_in s [] j = 0
output_in s (h ∷ held) j = cond (eqb (output_no s h.name) (suc j)) h.value (output_in s held j)

-- what a file says of output j on input value x
abbrev pub file_says : List ℕ → List Assignment → ℕ → ℕ → ℕ
file_says s l x j = output_in s (after s x [] l) j

-- how many operators a formula has
abbrev pub operators : Tree → ℕ
operators (leaf p) = 0
operators (neg t) = suc (operators t)
operators (bin o a b) = suc (operators a + operators b)

-- how many operators a file has
unfoldable pub operators_in : List Assignment → ℕ
operators_in [] = 0
operators_in (a ∷ l) = operators a.formula + operators_in l

-- the kinds of a formula's operators as they are worked: those of the left operand, those of the right one, then the operator
abbrev pub worked_kinds : Tree → List ℕ
worked_kinds (leaf p) = []
worked_kinds (neg t) = worked_kinds t ++ (6 ∷ [])
worked_kinds (bin o a b) = worked_kinds a ++ (worked_kinds b ++ (kind_no o ∷ []))

-- those of a file, assignment by assignment
unfoldable pub kinds_in : List Assignment → List ℕ
kinds_in [] = []
kinds_in (a ∷ l) = worked_kinds a.formula ++ kinds_in l

-- one more than the number of an input; 0 where there is none
abbrev pub input_count : Option ℕ → ℕ
input_count (Some i) = suc i
input_count None = 0

-- one more than the highest input that a formula reads; 0 where it reads none
abbrev pub inputs_read : List ℕ → Tree → ℕ
inputs_read s (leaf p) = input_count (input_of s p (word_end s p))
inputs_read s (neg t) = inputs_read s t
inputs_read s (bin o a b) = max (inputs_read s a) (inputs_read s b)

-- the same of a file
unfoldable pub inputs_in : List ℕ → List Assignment → ℕ
inputs_in s [] = 0
inputs_in s (a ∷ l) = max (inputs_read s a.formula) (inputs_in s l)

-- an assignment sets output j
unfoldable pub sets_output : List ℕ → List Assignment → ℕ → Bool
sets_output s [] j = false
sets_output s (a ∷ l) j = eqb (output_no s a.name) (suc j) || sets_output s l j

-- the circuit c is made of what the file has: the inputs up to the highest read, a gate for each operator as they are worked, and
-- the outputs that are set, with none missing below another
pub record MadeOf (s : List ℕ) (l : List Assignment) (c : Listing) : Type 0 where
  pub inputs : c.inputs ≡ inputs_in s l
  pub gates : length c.gates ≡ operators_in l
  pub kinds : map (λ (q : Gate). q.kind) c.gates ≡ kinds_in l
  pub outs : (j : ℕ) → sets_output s l j ≡ ltb j (length c.outs)
