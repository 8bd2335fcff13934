-- The call language: what a line asks. A reader of a word goes on with what the word says and with the rest of the line.
use Rattle.std.specs.Prelude.{Bool, true, false, cond, List, [], ◌∷◌, ℕ, ◌%◌, eqb, leb, ltb, length, get_or, Option, Some, None}
use Rattle.text.specs.Places.{head_word, tail_words, same_list}
use Rattle.text.specs.Numbers.{number_in, all_hex, hex_bytes}
use Rattle.script.specs.Order.{Order, silent, unreadable, ask_new, ask_open_matrix, ask_open_table, ask_report, ask_gate, ask_output, ask_entry, ask_limits, ask_sweep, ask_append, ask_store, ask_held, ask_show, ask_hint, ask_build, ask_late, ask_distance, ask_equations}

-- what the rest of a line asks
abbrev pub Rest : Type 0
Rest = List ℕ → Order

-- on with a number's value; unreadable where there is none
abbrev pub on_value : Option ℕ → (ℕ → Order) → Order
on_value (Some v) f = f v
on_value None f = unreadable

-- a number, 0 to 2^64 - 1
unfoldable pub number : (ℕ → Rest) → Rest
number f s = on_value (number_in (head_word s)) (λ (v : ℕ). f v (tail_words s))

-- a number that may be left out at the end of a line, and is 0 then
unfoldable pub number_or_zero : (ℕ → Rest) → Rest
number_or_zero f s = cond (ltb 0 (length (head_word s))) (number f s) (f 0 s)

-- a number that a limit holds, 0 to 255
unfoldable pub limit : (ℕ → Rest) → Rest
limit f = number (λ (v : ℕ) (s : List ℕ). cond (leb v 255) (f v s) unreadable)

-- whether a word is pairs of hexadecimal digits, one pair or more
unfoldable pub is_pairs : List ℕ → Bool
is_pairs w = cond (ltb 0 (length w)) (cond (eqb (length w % 2) 0) (all_hex w) false) false

-- whether a word says bytes: pairs of digits, or `-` for none
abbrev pub is_hex : List ℕ → Bool
is_hex w = cond (same_list w (45 ∷ [])) true (is_pairs w)

-- bytes; `-` alone is no pair, so it says none
unfoldable pub hex : (List ℕ → Rest) → Rest
hex f s = cond (is_hex (head_word s)) (f (hex_bytes (head_word s)) (tail_words s)) unreadable

-- the word `matrix`
abbrev pub matrix_word : List ℕ
matrix_word = 109 ∷ 97 ∷ 116 ∷ 114 ∷ 105 ∷ 120 ∷ []

-- the word `table`
abbrev pub table_word : List ℕ
table_word = 116 ∷ 97 ∷ 98 ∷ 108 ∷ 101 ∷ []

-- a target's kind, by its word: whether it is a matrix
unfoldable pub kind : (Bool → Rest) → Rest
kind f s =
    cond (same_list (head_word s) matrix_word) (f true (tail_words s))
    (cond (same_list (head_word s) table_word) (f false (tail_words s)) unreadable)

-- no word more
unfoldable pub no_more : Order → Rest
no_more o s = cond (ltb 0 (length (head_word s))) unreadable o

-- an open, by the kind of its target
abbrev pub ask_open : Bool → List ℕ → List ℕ → ℕ → ℕ → ℕ → Order
ask_open is_matrix bytes target g d a = cond is_matrix (ask_open_matrix bytes target g d a) (ask_open_table bytes target g d a)

-- `open HEX matrix HEX G D A` or `open HEX table HEX G D A`
abbrev pub open_rest : Rest
open_rest = hex (λ bytes. kind (λ is_matrix. hex (λ target. limit (λ g. limit (λ d. limit (λ a. no_more (ask_open is_matrix bytes target g d a)))))))

-- `gate K KIND A B`
abbrev pub gate_rest : Rest
gate_rest = number (λ k. number (λ t. number (λ a. number (λ b. no_more (ask_gate k t a b)))))

-- `output J LINE`
abbrev pub output_rest : Rest
output_rest = number (λ j. number (λ line. no_more (ask_output j line)))

-- `entry I VALUE` or `entry I VALUE CONSTANT`
abbrev pub entry_rest : Rest
entry_rest = number (λ i. number (λ value. number_or_zero (λ constant. no_more (ask_entry i value constant))))

-- `limits G D A`
abbrev pub limits_rest : Rest
limits_rest = limit (λ g. limit (λ d. limit (λ a. no_more (ask_limits g d a))))

-- `append KIND A B`
abbrev pub append_rest : Rest
append_rest = number (λ t. number (λ a. number (λ b. no_more (ask_append t a b))))

-- `hint J D`
abbrev pub hint_rest : Rest
hint_rest = number (λ row. number (λ d. no_more (ask_hint row d)))

-- `store ROOM`
abbrev pub store_rest : Rest
store_rest = number (λ room. no_more (ask_store room))

-- `build N ROWSHEX D ROOM`
abbrev pub build_rest : Rest
build_rest = number (λ n. hex (λ rows. number (λ d. number (λ room. no_more (ask_build n rows d room)))))

-- `late N ARRIVALSHEX ROWSHEX LIMITSHEX ROOM`
abbrev pub late_rest : Rest
late_rest = number (λ n. hex (λ arrivals. hex (λ rows. hex (λ limits. number (λ room. no_more (ask_late n arrivals rows limits room))))))

-- `distance N MASKSHEX DEPTHSHEX T D`
abbrev pub distance_rest : Rest
distance_rest = number (λ n. hex (λ masks. hex (λ depths. number (λ t. number (λ d. no_more (ask_distance n masks depths t d))))))

-- `equations HEX ROOM`
abbrev pub equations_rest : Rest
equations_rest = hex (λ file. number (λ room. no_more (ask_equations file room)))

-- the word `new`
abbrev pub new_word : List ℕ
new_word = 110 ∷ 101 ∷ 119 ∷ []

-- the word `report`
abbrev pub report_word : List ℕ
report_word = 114 ∷ 101 ∷ 112 ∷ 111 ∷ 114 ∷ 116 ∷ []

-- the word `held`
abbrev pub held_word : List ℕ
held_word = 104 ∷ 101 ∷ 108 ∷ 100 ∷ []

-- the word `show`
abbrev pub show_word : List ℕ
show_word = 115 ∷ 104 ∷ 111 ∷ 119 ∷ []

-- the word `sweep`
abbrev pub sweep_word : List ℕ
sweep_word = 115 ∷ 119 ∷ 101 ∷ 101 ∷ 112 ∷ []

-- the word `hint`
abbrev pub hint_word : List ℕ
hint_word = 104 ∷ 105 ∷ 110 ∷ 116 ∷ []

-- the word `gate`
abbrev pub gate_word : List ℕ
gate_word = 103 ∷ 97 ∷ 116 ∷ 101 ∷ []

-- the word `output`
abbrev pub output_word : List ℕ
output_word = 111 ∷ 117 ∷ 116 ∷ 112 ∷ 117 ∷ 116 ∷ []

-- the word `entry`
abbrev pub entry_word : List ℕ
entry_word = 101 ∷ 110 ∷ 116 ∷ 114 ∷ 121 ∷ []

-- the word `limits`
abbrev pub limits_word : List ℕ
limits_word = 108 ∷ 105 ∷ 109 ∷ 105 ∷ 116 ∷ 115 ∷ []

-- the word `append`
abbrev pub append_word : List ℕ
append_word = 97 ∷ 112 ∷ 112 ∷ 101 ∷ 110 ∷ 100 ∷ []

-- the word `open`
abbrev pub open_word : List ℕ
open_word = 111 ∷ 112 ∷ 101 ∷ 110 ∷ []

-- the word `store`
abbrev pub store_word : List ℕ
store_word = 115 ∷ 116 ∷ 111 ∷ 114 ∷ 101 ∷ []

-- the word `build`
abbrev pub build_word : List ℕ
build_word = 98 ∷ 117 ∷ 105 ∷ 108 ∷ 100 ∷ []

-- the word `late`
abbrev pub late_word : List ℕ
late_word = 108 ∷ 97 ∷ 116 ∷ 101 ∷ []

-- the word `distance`
abbrev pub distance_word : List ℕ
distance_word = 100 ∷ 105 ∷ 115 ∷ 116 ∷ 97 ∷ 110 ∷ 99 ∷ 101 ∷ []

-- the word `equations`
abbrev pub equations_word : List ℕ
equations_word = 101 ∷ 113 ∷ 117 ∷ 97 ∷ 116 ∷ 105 ∷ 111 ∷ 110 ∷ 115 ∷ []

-- a table of calls: each word, and what the rest of the line asks after it
abbrev pub Table : Type 0
Table = List (List ℕ × Rest)

-- what the rest of a line asks after the word w; a word that the table does not have is unreadable
unfoldable pub by_word : Table → List ℕ → Rest
by_word [] w s = unreadable
by_word (row ∷ rows) w s = cond (same_list w row.0) (row.1 s) (by_word rows w s)

-- calls that bring or take bytes
abbrev pub bytes_calls : Table
bytes_calls =
    (open_word, open_rest) ∷ (store_word, store_rest) ∷ (build_word, build_rest) ∷ (late_word, late_rest) ∷ (distance_word, distance_rest)
    ∷ (equations_word, equations_rest) ∷ []

-- those, and edits
abbrev pub edit_calls : Table
edit_calls = (gate_word, gate_rest) ∷ (output_word, output_rest) ∷ (entry_word, entry_rest) ∷ (limits_word, limits_rest) ∷ (append_word, append_rest) ∷ bytes_calls

-- those, calls of one word, and a hint: the whole language
abbrev pub calls : Table
calls =
    (new_word, no_more ask_new) ∷ (report_word, no_more ask_report) ∷ (held_word, no_more ask_held) ∷ (show_word, no_more ask_show) ∷ (sweep_word, no_more ask_sweep)
    ∷ (hint_word, hint_rest) ∷ edit_calls

-- what a line asks: nothing where it is blank or its first byte is `#`; too long a line is unreadable whatever it says
unfoldable pub order_in : List ℕ → Order
order_in line =
    cond (ltb 65535 (length line)) unreadable
    (cond (ltb 0 (length (head_word line)))
    (cond (eqb (get_or line 0 0) 35) silent (by_word calls (head_word line) (tail_words line)))
    silent)
