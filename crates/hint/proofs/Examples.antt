-- Hints worked out by the definitions. Assumes nothing.
use mathlib.Core.Path.{◌≡◌, refl}
use mathlib.Core.List.{List, [], ◌∷◌}
use Rattle.circuit.specs.Lines.{Gate, gate, listing, lines, reads, upto}
use Rattle.circuit.specs.Rows.{sum_of}
use Rattle.distance.specs.Query.{look_at, answer_of, lines_of}
use Rattle.bench.specs.Calls.{places_from}
use Rattle.std.specs.Prelude.{Some, None, Ok}
use Rattle.hint.specs.Hint.{shallow, hinted, hint_for}

-- x0 ^ x1 on line 3, and from there fifteen gates in a chain, each with x0: line 18 is 16 deep
chain : List Gate
chain =
    gate 0 0 1 ∷ gate 0 3 0 ∷ gate 0 4 0 ∷ gate 0 5 0 ∷ gate 0 6 0 ∷ gate 0 7 0 ∷ gate 0 8 0 ∷ gate 0 9 0 ∷ gate 0 10 0
    ∷ gate 0 11 0 ∷ gate 0 12 0 ∷ gate 0 13 0 ∷ gate 0 14 0 ∷ gate 0 15 0 ∷ gate 0 16 0 ∷ gate 0 17 0 ∷ gate 0 0 2 ∷ []

-- line 19 is x0 ^ x2, so that row is there already, on the line with that number: line 18 is passed over, and not counted out
there_already : hint_for (listing 3 chain (19 ∷ [])) 5 4 ≡ hinted (Ok (Some 0)) (19 ∷ [])
unfolding hint_for answer_of lines_of look_at shallow places_from sum_of lines reads upto chain
there_already = refl

-- x0 ^ x1 ^ x2 takes one gate more, from x1 and line 19 before any other two
one_more : hint_for (listing 3 chain (19 ∷ [])) 7 4 ≡ hinted (Ok (Some 1)) (1 ∷ 19 ∷ [])
unfolding hint_for answer_of lines_of look_at shallow places_from sum_of lines reads upto chain
one_more = refl

-- three inputs do not sum within depth 1
too_flat : hint_for (listing 3 [] (0 ∷ [])) 7 1 ≡ hinted (Ok None) []
unfolding hint_for answer_of lines_of look_at shallow places_from sum_of lines reads upto
too_flat = refl

-- x0 ^ x1 is there on the line of XNOR, but for a constant
there_turned : hint_for (listing 2 (gate 1 0 1 ∷ []) (2 ∷ [])) 3 4 ≡ hinted (Ok (Some 0)) (2 ∷ [])
unfolding hint_for answer_of lines_of look_at shallow places_from sum_of lines reads upto
there_turned = refl
