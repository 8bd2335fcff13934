-- A circuit as text, in lists of byte numbers: the counts, then a line for each gate and for each output.
use Rattle.std.specs.Prelude.{cond, List, [], ◌∷◌, ◌++◌, ℕ, zero, suc, ◌-◌, ltb, length, get_or}
use Rattle.circuit.specs.declared.Circuit.{Circuit}
use Rattle.circuit.specs.declared.Refusal.{Refusal}
use Rattle.circuit.specs.Gate.{Kind, kind_of}
use Rattle.circuit.specs.Lines.{Gate, Listing, gate_at, depth_of}
use Rattle.circuit.specs.Structs.{listed}
use Rattle.circuit.specs.Rules.{shaped, refusal_no}
use Rattle.text.specs.Numbers.{labelled, numbered}

-- the name of line i of a circuit with n inputs: `x` and its number for an input, `t` and k for gate k
unfoldable pub line_name : ℕ → ℕ → List ℕ
line_name n i = cond (ltb i n) (numbered 120 i) (numbered 116 (i - n))

-- two operands with a sign between them, as `a ^ b`
abbrev pub joined : List ℕ → ℕ → List ℕ → List ℕ
joined a sign b = a ++ (32 ∷ sign ∷ 32 ∷ []) ++ b

-- the same turned over, as `~(a ^ b)`
abbrev pub turned : List ℕ → ℕ → List ℕ → List ℕ
turned a sign b = (126 ∷ 40 ∷ []) ++ joined a sign b ++ (41 ∷ [])

-- one operand turned over, as `~a`
abbrev pub negated : List ℕ → List ℕ
negated a = (126 ∷ []) ++ a

-- the formula of a gate by its kind, for the names a and b of its operands: `^` is 94, `&` 38, `|` 124, `~` 126
abbrev pub formula : Kind → List ℕ → List ℕ → List ℕ
formula Kind.XOR a b = joined a 94 b
formula Kind.XNOR a b = turned a 94 b
formula Kind.AND a b = joined a 38 b
formula Kind.NAND a b = turned a 38 b
formula Kind.OR a b = joined a 124 b
formula Kind.NOR a b = turned a 124 b
formula Kind.NOT a b = negated a

-- ` = `
abbrev pub equals : List ℕ
equals = 32 ∷ 61 ∷ 32 ∷ []

-- the end of a line
abbrev pub new_line : List ℕ
new_line = 10 ∷ []

-- the line of gate k, which is q: `tK = FORMULA`, operands as stored
unfoldable pub gate_line : ℕ → ℕ → Gate → List ℕ
gate_line n k q = numbered 116 k ++ equals ++ formula (kind_of q.kind) (line_name n q.left) (line_name n q.right) ++ new_line

-- the line of output j, which names line i: `yJ = NAME`
unfoldable pub output_line : ℕ → ℕ → ℕ → List ℕ
output_line n j i = numbered 121 j ++ equals ++ line_name n i ++ new_line

-- f 0, f 1, .., j of them, one after the other
unfoldable pub lines_to : (ℕ → List ℕ) → ℕ → List ℕ
lines_to f zero = []
lines_to f (suc j) = lines_to f j ++ f j

-- the lines of all gates in order
abbrev pub gates_text : Listing → List ℕ
gates_text c = lines_to (λ (k : ℕ). gate_line c.inputs k (gate_at c k)) (length c.gates)

-- the lines of all outputs in order
abbrev pub outputs_text : Listing → List ℕ
outputs_text c = lines_to (λ (j : ℕ). output_line c.inputs j (get_or c.outs j 0)) (length c.outs)

-- the gates and the outputs
abbrev pub lines_text : Listing → List ℕ
lines_text c = gates_text c ++ outputs_text c

-- `inputs N outputs M gates G depth D`
unfoldable pub counts_text : ℕ → ℕ → ℕ → ℕ → List ℕ
counts_text n m g d =
    labelled (105 ∷ 110 ∷ 112 ∷ 117 ∷ 116 ∷ 115 ∷ 32 ∷ []) n
    ++ labelled (32 ∷ 111 ∷ 117 ∷ 116 ∷ 112 ∷ 117 ∷ 116 ∷ 115 ∷ 32 ∷ []) m
    ++ labelled (32 ∷ 103 ∷ 97 ∷ 116 ∷ 101 ∷ 115 ∷ 32 ∷ []) g
    ++ labelled (32 ∷ 100 ∷ 101 ∷ 112 ∷ 116 ∷ 104 ∷ 32 ∷ []) d

-- a circuit as the build program prints it
abbrev pub listing_text : Listing → List ℕ
listing_text c = counts_text c.inputs (length c.outs) (length c.gates) (depth_of c) ++ new_line ++ lines_text c

-- the line `unreadable`, of what is no call or no file
abbrev pub unreadable_text : List ℕ
unreadable_text = 117 ∷ 110 ∷ 114 ∷ 101 ∷ 97 ∷ 100 ∷ 97 ∷ 98 ∷ 108 ∷ 101 ∷ 10 ∷ []

-- the word `refused`, and a space
abbrev pub refused_name : List ℕ
refused_name = 114 ∷ 101 ∷ 102 ∷ 117 ∷ 115 ∷ 101 ∷ 100 ∷ 32 ∷ []

-- `refused N`, with the refusal's number
abbrev pub refused_text : Refusal → List ℕ
refused_text w = labelled refused_name (refusal_no w) ++ new_line

-- `refused N PLACE`, of a refusal that has a place; the line is not ended
abbrev pub placed_text : ℕ → ℕ → List ℕ
placed_text number place = labelled refused_name number ++ labelled (32 ∷ []) place

-- the most that the counts take
abbrev pub counts_size : ℕ
counts_size = 128

-- the most that the lines of a circuit take
abbrev pub lines_size : ℕ
lines_size = 6000

-- the most that a refusal takes
abbrev pub refused_size : ℕ
refused_size = 32

-- the most that a refusal with its place takes
abbrev pub placed_size : ℕ
placed_size = 64

-- the lines of the circuit that a struct stands for; a struct out of range has none
unfoldable pub lines_in : Circuit → List ℕ
lines_in c = cond (shaped c.n c.m c.g) (lines_text (listed c)) []
