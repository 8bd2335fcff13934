-- What lines of the call language ask, by computation. Assumes nothing.
use mathlib.Core.Path.{◌≡◌, refl}
use mathlib.Core.List.{List, [], ◌∷◌, map}
use Prim.Native.Nat.{ℕ}
use Rattle.text.specs.Places.{leading, head_word, tail_words, same_list}
use Rattle.text.specs.Numbers.{num_from, all_hex, hex_bytes}
use Rattle.script.specs.Order.{Order, silent, unreadable, ask_open_table, ask_gate, ask_entry, ask_limits, ask_sweep, ask_append, ask_store, ask_hint, ask_build, ask_late, ask_distance, ask_equations}
use Rattle.script.specs.Reading.{number, number_or_zero, limit, is_pairs, hex, kind, no_more, by_word, order_in}

-- lines, and what each asks
abbrev examples : List (List ℕ × Order)
examples =
    -- open 534802010147540200014f5002 table 00000001 1 1 1
    (111 ∷ 112 ∷ 101 ∷ 110 ∷ 32 ∷ 53 ∷ 51 ∷ 52 ∷ 56 ∷ 48 ∷ 50 ∷ 48 ∷ 49 ∷ 48 ∷ 49 ∷ 52 ∷ 55 ∷ 53 ∷ 52 ∷ 48 ∷ 50 ∷ 48 ∷ 48 ∷ 48 ∷ 49 ∷ 52 ∷ 102 ∷ 53 ∷ 48 ∷ 48 ∷ 50 ∷ 32 ∷ 116 ∷ 97 ∷ 98 ∷ 108 ∷ 101 ∷ 32 ∷ 48 ∷ 48 ∷ 48 ∷ 48 ∷ 48 ∷ 48 ∷ 48 ∷ 49 ∷ 32 ∷ 49 ∷ 32 ∷ 49 ∷ 32 ∷ 49 ∷ [], ask_open_table (83 ∷ 72 ∷ 2 ∷ 1 ∷ 1 ∷ 71 ∷ 84 ∷ 2 ∷ 0 ∷ 1 ∷ 79 ∷ 80 ∷ 2 ∷ []) (0 ∷ 0 ∷ 0 ∷ 1 ∷ []) 1 1 1) ∷
    --   gate  0 3 0 007
    (32 ∷ 32 ∷ 103 ∷ 97 ∷ 116 ∷ 101 ∷ 32 ∷ 32 ∷ 48 ∷ 32 ∷ 51 ∷ 32 ∷ 48 ∷ 32 ∷ 48 ∷ 48 ∷ 55 ∷ 32 ∷ [], ask_gate 0 3 0 7) ∷
    -- gate 0 3 0
    (103 ∷ 97 ∷ 116 ∷ 101 ∷ 32 ∷ 48 ∷ 32 ∷ 51 ∷ 32 ∷ 48 ∷ [], unreadable) ∷
    -- report 1
    (114 ∷ 101 ∷ 112 ∷ 111 ∷ 114 ∷ 116 ∷ 32 ∷ 49 ∷ [], unreadable) ∷
    -- Report
    (82 ∷ 101 ∷ 112 ∷ 111 ∷ 114 ∷ 116 ∷ [], unreadable) ∷
    -- entry 3 9
    (101 ∷ 110 ∷ 116 ∷ 114 ∷ 121 ∷ 32 ∷ 51 ∷ 32 ∷ 57 ∷ [], ask_entry 3 9 0) ∷
    -- entry 3 9, and two spaces
    (101 ∷ 110 ∷ 116 ∷ 114 ∷ 121 ∷ 32 ∷ 51 ∷ 32 ∷ 57 ∷ 32 ∷ 32 ∷ [], ask_entry 3 9 0) ∷
    -- entry 3 9 1
    (101 ∷ 110 ∷ 116 ∷ 114 ∷ 121 ∷ 32 ∷ 51 ∷ 32 ∷ 57 ∷ 32 ∷ 49 ∷ [], ask_entry 3 9 1) ∷
    -- entry 3 9 x
    (101 ∷ 110 ∷ 116 ∷ 114 ∷ 121 ∷ 32 ∷ 51 ∷ 32 ∷ 57 ∷ 32 ∷ 120 ∷ [], unreadable) ∷
    -- entry 3 9 1 0
    (101 ∷ 110 ∷ 116 ∷ 114 ∷ 121 ∷ 32 ∷ 51 ∷ 32 ∷ 57 ∷ 32 ∷ 49 ∷ 32 ∷ 48 ∷ [], unreadable) ∷
    -- entry 3
    (101 ∷ 110 ∷ 116 ∷ 114 ∷ 121 ∷ 32 ∷ 51 ∷ [], unreadable) ∷
    -- limits 255 0 1
    (108 ∷ 105 ∷ 109 ∷ 105 ∷ 116 ∷ 115 ∷ 32 ∷ 50 ∷ 53 ∷ 53 ∷ 32 ∷ 48 ∷ 32 ∷ 49 ∷ [], ask_limits 255 0 1) ∷
    -- limits 256 0 1
    (108 ∷ 105 ∷ 109 ∷ 105 ∷ 116 ∷ 115 ∷ 32 ∷ 50 ∷ 53 ∷ 54 ∷ 32 ∷ 48 ∷ 32 ∷ 49 ∷ [], unreadable) ∷
    -- sweep
    (115 ∷ 119 ∷ 101 ∷ 101 ∷ 112 ∷ [], ask_sweep) ∷
    -- sweep 1
    (115 ∷ 119 ∷ 101 ∷ 101 ∷ 112 ∷ 32 ∷ 49 ∷ [], unreadable) ∷
    -- append 6 300 0
    (97 ∷ 112 ∷ 112 ∷ 101 ∷ 110 ∷ 100 ∷ 32 ∷ 54 ∷ 32 ∷ 51 ∷ 48 ∷ 48 ∷ 32 ∷ 48 ∷ [], ask_append 6 300 0) ∷
    -- append 6 300
    (97 ∷ 112 ∷ 112 ∷ 101 ∷ 110 ∷ 100 ∷ 32 ∷ 54 ∷ 32 ∷ 51 ∷ 48 ∷ 48 ∷ [], unreadable) ∷
    -- store 18446744073709551615
    (115 ∷ 116 ∷ 111 ∷ 114 ∷ 101 ∷ 32 ∷ 49 ∷ 56 ∷ 52 ∷ 52 ∷ 54 ∷ 55 ∷ 52 ∷ 52 ∷ 48 ∷ 55 ∷ 51 ∷ 55 ∷ 48 ∷ 57 ∷ 53 ∷ 53 ∷ 49 ∷ 54 ∷ 49 ∷ 53 ∷ [], ask_store 18446744073709551615) ∷
    -- store 18446744073709551616
    (115 ∷ 116 ∷ 111 ∷ 114 ∷ 101 ∷ 32 ∷ 49 ∷ 56 ∷ 52 ∷ 52 ∷ 54 ∷ 55 ∷ 52 ∷ 52 ∷ 48 ∷ 55 ∷ 51 ∷ 55 ∷ 48 ∷ 57 ∷ 53 ∷ 53 ∷ 49 ∷ 54 ∷ 49 ∷ 54 ∷ [], unreadable) ∷
    -- hint 7 4
    (104 ∷ 105 ∷ 110 ∷ 116 ∷ 32 ∷ 55 ∷ 32 ∷ 52 ∷ [], ask_hint 7 4) ∷
    -- hint 7
    (104 ∷ 105 ∷ 110 ∷ 116 ∷ 32 ∷ 55 ∷ [], unreadable) ∷
    -- build 3 03aAFf 2 64
    (98 ∷ 117 ∷ 105 ∷ 108 ∷ 100 ∷ 32 ∷ 51 ∷ 32 ∷ 48 ∷ 51 ∷ 97 ∷ 65 ∷ 70 ∷ 102 ∷ 32 ∷ 50 ∷ 32 ∷ 54 ∷ 52 ∷ [], ask_build 3 (3 ∷ 170 ∷ 255 ∷ []) 2 64) ∷
    -- build 3 030 2 64
    (98 ∷ 117 ∷ 105 ∷ 108 ∷ 100 ∷ 32 ∷ 51 ∷ 32 ∷ 48 ∷ 51 ∷ 48 ∷ 32 ∷ 50 ∷ 32 ∷ 54 ∷ 52 ∷ [], unreadable) ∷
    -- late 2 0003 03 04 64
    (108 ∷ 97 ∷ 116 ∷ 101 ∷ 32 ∷ 50 ∷ 32 ∷ 48 ∷ 48 ∷ 48 ∷ 51 ∷ 32 ∷ 48 ∷ 51 ∷ 32 ∷ 48 ∷ 52 ∷ 32 ∷ 54 ∷ 52 ∷ [], ask_late 2 (0 ∷ 3 ∷ []) (3 ∷ []) (4 ∷ []) 64) ∷
    -- late 2 0003 03 64
    (108 ∷ 97 ∷ 116 ∷ 101 ∷ 32 ∷ 50 ∷ 32 ∷ 48 ∷ 48 ∷ 48 ∷ 51 ∷ 32 ∷ 48 ∷ 51 ∷ 32 ∷ 54 ∷ 52 ∷ [], unreadable) ∷
    -- distance 4 01 - 15 3
    (100 ∷ 105 ∷ 115 ∷ 116 ∷ 97 ∷ 110 ∷ 99 ∷ 101 ∷ 32 ∷ 52 ∷ 32 ∷ 48 ∷ 49 ∷ 32 ∷ 45 ∷ 32 ∷ 49 ∷ 53 ∷ 32 ∷ 51 ∷ [], ask_distance 4 (1 ∷ []) [] 15 3) ∷
    -- equations 79303d7830 100
    (101 ∷ 113 ∷ 117 ∷ 97 ∷ 116 ∷ 105 ∷ 111 ∷ 110 ∷ 115 ∷ 32 ∷ 55 ∷ 57 ∷ 51 ∷ 48 ∷ 51 ∷ 100 ∷ 55 ∷ 56 ∷ 51 ∷ 48 ∷ 32 ∷ 49 ∷ 48 ∷ 48 ∷ [], ask_equations (121 ∷ 48 ∷ 61 ∷ 120 ∷ 48 ∷ []) 100) ∷
    -- equations - 0
    (101 ∷ 113 ∷ 117 ∷ 97 ∷ 116 ∷ 105 ∷ 111 ∷ 110 ∷ 115 ∷ 32 ∷ 45 ∷ 32 ∷ 48 ∷ [], ask_equations [] 0) ∷
    -- equations 79303d7830
    (101 ∷ 113 ∷ 117 ∷ 97 ∷ 116 ∷ 105 ∷ 111 ∷ 110 ∷ 115 ∷ 32 ∷ 55 ∷ 57 ∷ 51 ∷ 48 ∷ 51 ∷ 100 ∷ 55 ∷ 56 ∷ 51 ∷ 48 ∷ [], unreadable) ∷
    -- # gate 0 3 0 1
    (35 ∷ 32 ∷ 103 ∷ 97 ∷ 116 ∷ 101 ∷ 32 ∷ 48 ∷ 32 ∷ 51 ∷ 32 ∷ 48 ∷ 32 ∷ 49 ∷ [], silent) ∷
    -- two spaces
    (32 ∷ 32 ∷ [], silent) ∷
    -- nothing
    ([], silent) ∷
    []

pub examples_right : map (λ (row : List ℕ × Order). order_in row.0) examples ≡ map (λ (row : List ℕ × Order). row.1) examples
unfolding leading head_word tail_words same_list num_from all_hex hex_bytes number number_or_zero limit is_pairs hex kind no_more by_word order_in
examples_right = refl
