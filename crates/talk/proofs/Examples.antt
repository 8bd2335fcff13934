-- The example of the call language, line by line: what is read, and what is written. Assumes nothing.
use mathlib.Core.Path.{◌≡◌, refl}
use mathlib.Core.List.{List, [], ◌∷◌}
use Prim.Native.Nat.{ℕ}
use Rattle.circuit.specs.Gate.{count_of, tally_of}
use Rattle.circuit.specs.Lines.{reads, unread, lines, upto}
use Rattle.circuit.specs.Rules.{shaped, operands_fit, gate_answer, out_answer, all_of}
use Rattle.stored.specs.Stored.{records, listing_in, gate_bytes, out_bytes}
use Rattle.stored.specs.Reading.{gate_record, out_record, answers, body_answer, reading_answer}
use Rattle.targets.specs.Target.{entry_fits, target_fits, brought_fits}
use Rattle.bench.specs.State.{Present, nothing, least, verdict_of, report_of}
use Rattle.bench.specs.Calls.{open_answer, gate_edit_answer, entry_edit_answer, places_from, size_of, store_answer}
use Rattle.text.specs.Places.{leading, head_word, tail_words, same_list}
use Rattle.text.specs.Numbers.{num_from, all_hex, hex_bytes, hex_text, dec_text, numbers_text}
use Rattle.listing.specs.Printed.{line_name, gate_line, output_line, lines_to, counts_text}
use Rattle.script.specs.Reading.{number, number_or_zero, limit, is_pairs, hex, kind, no_more, by_word, order_in}
use Rattle.talk.specs.Texts.{report_text, listed_text, hex_line, values_text, group_text}
use Rattle.talk.specs.Talk.{present_after_line, text_of, written}

-- the lines, and what they are answered
abbrev pub asked : List (List ℕ)
asked =
    (111 ∷ 112 ∷ 101 ∷ 110 ∷ 32 ∷ 53 ∷ 51 ∷ 52 ∷ 56 ∷ 48 ∷ 50 ∷ 48 ∷ 49 ∷ 48 ∷ 49 ∷ 52 ∷ 55 ∷ 53 ∷ 52 ∷ 48 ∷ 50 ∷ 48 ∷ 48 ∷ 48 ∷ 49 ∷ 52 ∷ 102 ∷ 53 ∷ 48
    ∷ 48 ∷ 50 ∷ 32 ∷ 116 ∷ 97 ∷ 98 ∷ 108 ∷ 101 ∷ 32 ∷ 48 ∷ 48 ∷ 48 ∷ 48 ∷ 48 ∷ 48 ∷ 48 ∷ 49 ∷ 32 ∷ 49 ∷ 32 ∷ 49 ∷ 32 ∷ 49 ∷ [])
    ∷ (114 ∷ 101 ∷ 112 ∷ 111 ∷ 114 ∷ 116 ∷ [])
    ∷ (103 ∷ 97 ∷ 116 ∷ 101 ∷ 32 ∷ 48 ∷ 32 ∷ 51 ∷ 32 ∷ 48 ∷ 32 ∷ 49 ∷ [])
    ∷ (114 ∷ 101 ∷ 112 ∷ 111 ∷ 114 ∷ 116 ∷ [])
    ∷ (101 ∷ 110 ∷ 116 ∷ 114 ∷ 121 ∷ 32 ∷ 48 ∷ 32 ∷ 49 ∷ [])
    ∷ (114 ∷ 101 ∷ 112 ∷ 111 ∷ 114 ∷ 116 ∷ [])
    ∷ (103 ∷ 97 ∷ 116 ∷ 101 ∷ 32 ∷ 55 ∷ 32 ∷ 51 ∷ 32 ∷ 48 ∷ 32 ∷ 49 ∷ []) ∷ []

abbrev pub answered : List ℕ
answered =
    111 ∷ 112 ∷ 101 ∷ 110 ∷ 101 ∷ 100 ∷ 10 ∷ 114 ∷ 101 ∷ 112 ∷ 111 ∷ 114 ∷ 116 ∷ 32 ∷ 103 ∷ 97 ∷ 116 ∷ 101 ∷ 115 ∷ 32 ∷ 49 ∷ 32 ∷ 120 ∷ 111 ∷ 114 ∷ 32
    ∷ 48 ∷ 32 ∷ 110 ∷ 111 ∷ 110 ∷ 108 ∷ 105 ∷ 110 ∷ 101 ∷ 97 ∷ 114 ∷ 32 ∷ 49 ∷ 32 ∷ 110 ∷ 111 ∷ 116 ∷ 32 ∷ 48 ∷ 32 ∷ 100 ∷ 101 ∷ 112 ∷ 116 ∷ 104 ∷ 32 ∷ 49
    ∷ 32 ∷ 97 ∷ 110 ∷ 100 ∷ 100 ∷ 101 ∷ 112 ∷ 116 ∷ 104 ∷ 32 ∷ 49 ∷ 32 ∷ 112 ∷ 97 ∷ 115 ∷ 115 ∷ 10 ∷ 114 ∷ 101 ∷ 119 ∷ 111 ∷ 114 ∷ 107 ∷ 101 ∷ 100 ∷ 32
    ∷ 49 ∷ 32 ∷ 50 ∷ 10 ∷ 114 ∷ 101 ∷ 112 ∷ 111 ∷ 114 ∷ 116 ∷ 32 ∷ 103 ∷ 97 ∷ 116 ∷ 101 ∷ 115 ∷ 32 ∷ 49 ∷ 32 ∷ 120 ∷ 111 ∷ 114 ∷ 32 ∷ 48 ∷ 32 ∷ 110 ∷ 111
    ∷ 110 ∷ 108 ∷ 105 ∷ 110 ∷ 101 ∷ 97 ∷ 114 ∷ 32 ∷ 49 ∷ 32 ∷ 110 ∷ 111 ∷ 116 ∷ 32 ∷ 48 ∷ 32 ∷ 100 ∷ 101 ∷ 112 ∷ 116 ∷ 104 ∷ 32 ∷ 49 ∷ 32 ∷ 97 ∷ 110 ∷ 100
    ∷ 100 ∷ 101 ∷ 112 ∷ 116 ∷ 104 ∷ 32 ∷ 49 ∷ 32 ∷ 119 ∷ 114 ∷ 111 ∷ 110 ∷ 103 ∷ 32 ∷ 48 ∷ 32 ∷ 48 ∷ 10 ∷ 114 ∷ 101 ∷ 119 ∷ 111 ∷ 114 ∷ 107 ∷ 101 ∷ 100
    ∷ 32 ∷ 48 ∷ 10 ∷ 114 ∷ 101 ∷ 112 ∷ 111 ∷ 114 ∷ 116 ∷ 32 ∷ 103 ∷ 97 ∷ 116 ∷ 101 ∷ 115 ∷ 32 ∷ 49 ∷ 32 ∷ 120 ∷ 111 ∷ 114 ∷ 32 ∷ 48 ∷ 32 ∷ 110 ∷ 111 ∷ 110
    ∷ 108 ∷ 105 ∷ 110 ∷ 101 ∷ 97 ∷ 114 ∷ 32 ∷ 49 ∷ 32 ∷ 110 ∷ 111 ∷ 116 ∷ 32 ∷ 48 ∷ 32 ∷ 100 ∷ 101 ∷ 112 ∷ 116 ∷ 104 ∷ 32 ∷ 49 ∷ 32 ∷ 97 ∷ 110 ∷ 100 ∷ 100
    ∷ 101 ∷ 112 ∷ 116 ∷ 104 ∷ 32 ∷ 49 ∷ 32 ∷ 119 ∷ 114 ∷ 111 ∷ 110 ∷ 103 ∷ 32 ∷ 49 ∷ 32 ∷ 48 ∷ 10 ∷ 114 ∷ 101 ∷ 102 ∷ 117 ∷ 115 ∷ 101 ∷ 100 ∷ 32 ∷ 49 ∷ 50
    ∷ 10 ∷ []

pub example : written nothing asked ≡ answered
unfolding leading head_word tail_words same_list num_from all_hex hex_bytes dec_text numbers_text number number_or_zero limit is_pairs hex kind no_more by_word order_in count_of tally_of reads unread lines upto records listing_in shaped operands_fit gate_answer out_answer gate_record out_record answers body_answer reading_answer entry_fits all_of target_fits brought_fits least verdict_of report_of open_answer gate_edit_answer entry_edit_answer places_from size_of report_text listed_text
example = refl

-- the circuit of that example on the screen, what is held for it, and its stored bytes
abbrev pub opened : Present
opened = present_after_line nothing (order_in (111 ∷ 112 ∷ 101 ∷ 110 ∷ 32 ∷ 53 ∷ 51 ∷ 52 ∷ 56 ∷ 48 ∷ 50 ∷ 48 ∷ 49 ∷ 48 ∷ 49 ∷ 52 ∷ 55 ∷ 53 ∷ 52 ∷ 48 ∷ 51 ∷ 48 ∷ 48 ∷ 48 ∷ 49 ∷ 52 ∷ 102 ∷ 53 ∷ 48
    ∷ 48 ∷ 50 ∷ 32 ∷ 116 ∷ 97 ∷ 98 ∷ 108 ∷ 101 ∷ 32 ∷ 48 ∷ 48 ∷ 48 ∷ 48 ∷ 48 ∷ 48 ∷ 48 ∷ 49 ∷ 32 ∷ 49 ∷ 32 ∷ 49 ∷ 32 ∷ 49 ∷ []))

pub is_shown : text_of opened (order_in (115 ∷ 104 ∷ 111 ∷ 119 ∷ []))
    ≡ 105 ∷ 110 ∷ 112 ∷ 117 ∷ 116 ∷ 115 ∷ 32 ∷ 50 ∷ 32 ∷ 111 ∷ 117 ∷ 116 ∷ 112 ∷ 117 ∷ 116 ∷ 115 ∷ 32 ∷ 49 ∷ 32 ∷ 103 ∷ 97 ∷ 116 ∷ 101 ∷ 115 ∷ 32 ∷ 49 ∷ 32
    ∷ 100 ∷ 101 ∷ 112 ∷ 116 ∷ 104 ∷ 32 ∷ 49 ∷ 32 ∷ 97 ∷ 110 ∷ 100 ∷ 100 ∷ 101 ∷ 112 ∷ 116 ∷ 104 ∷ 32 ∷ 49 ∷ 10 ∷ 116 ∷ 48 ∷ 32 ∷ 61 ∷ 32 ∷ 126 ∷ 40 ∷ 120
    ∷ 48 ∷ 32 ∷ 38 ∷ 32 ∷ 120 ∷ 49 ∷ 41 ∷ 10 ∷ 121 ∷ 48 ∷ 32 ∷ 61 ∷ 32 ∷ 116 ∷ 48 ∷ 10 ∷ 119 ∷ 114 ∷ 111 ∷ 110 ∷ 103 ∷ 32 ∷ 48 ∷ 32 ∷ 48 ∷ 10 ∷ []
unfolding leading head_word tail_words same_list num_from all_hex hex_bytes dec_text numbers_text number number_or_zero limit is_pairs hex kind no_more by_word order_in count_of tally_of reads unread lines upto records listing_in shaped operands_fit gate_answer out_answer gate_record out_record answers body_answer reading_answer entry_fits all_of target_fits brought_fits least verdict_of report_of open_answer gate_edit_answer entry_edit_answer places_from size_of report_text listed_text hex_text gate_bytes out_bytes store_answer line_name gate_line output_line lines_to counts_text hex_line values_text group_text
is_shown = refl

pub is_held : text_of opened (order_in (104 ∷ 101 ∷ 108 ∷ 100 ∷ []))
    ≡ 104 ∷ 101 ∷ 108 ∷ 100 ∷ 32 ∷ 51 ∷ 32 ∷ 48 ∷ 58 ∷ 48 ∷ 58 ∷ 48 ∷ 58 ∷ 48 ∷ 97 ∷ 32 ∷ 49 ∷ 58 ∷ 48 ∷ 58 ∷ 48 ∷ 58 ∷ 48 ∷ 99 ∷ 32 ∷ 50 ∷ 58 ∷ 49 ∷ 58
    ∷ 49 ∷ 58 ∷ 48 ∷ 55 ∷ 10 ∷ []
unfolding leading head_word tail_words same_list num_from all_hex hex_bytes dec_text numbers_text number number_or_zero limit is_pairs hex kind no_more by_word order_in count_of tally_of reads unread lines upto records listing_in shaped operands_fit gate_answer out_answer gate_record out_record answers body_answer reading_answer entry_fits all_of target_fits brought_fits least verdict_of report_of open_answer gate_edit_answer entry_edit_answer places_from size_of report_text listed_text hex_text gate_bytes out_bytes store_answer line_name gate_line output_line lines_to counts_text hex_line values_text group_text
is_held = refl

pub is_stored : text_of opened (order_in (115 ∷ 116 ∷ 111 ∷ 114 ∷ 101 ∷ 32 ∷ 49 ∷ 51 ∷ []))
    ≡ 115 ∷ 116 ∷ 111 ∷ 114 ∷ 101 ∷ 100 ∷ 32 ∷ 49 ∷ 51 ∷ 32 ∷ 53 ∷ 51 ∷ 52 ∷ 56 ∷ 48 ∷ 50 ∷ 48 ∷ 49 ∷ 48 ∷ 49 ∷ 52 ∷ 55 ∷ 53 ∷ 52 ∷ 48 ∷ 51 ∷ 48 ∷ 48 ∷ 48
    ∷ 49 ∷ 52 ∷ 102 ∷ 53 ∷ 48 ∷ 48 ∷ 50 ∷ 10 ∷ []
unfolding leading head_word tail_words same_list num_from all_hex hex_bytes dec_text numbers_text number number_or_zero limit is_pairs hex kind no_more by_word order_in count_of tally_of reads unread lines upto records listing_in shaped operands_fit gate_answer out_answer gate_record out_record answers body_answer reading_answer entry_fits all_of target_fits brought_fits least verdict_of report_of open_answer gate_edit_answer entry_edit_answer places_from size_of report_text listed_text hex_text gate_bytes out_bytes store_answer line_name gate_line output_line lines_to counts_text hex_line values_text group_text
is_stored = refl
