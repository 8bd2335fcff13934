-- The definitions on the definition's own examples, by computation: what the build program prints for K1, and a gate of each kind. Assumes nothing.
use mathlib.Core.Path.{◌≡◌, refl}
use mathlib.Core.List.{[], ◌∷◌, ◌++◌}
use Rattle.circuit.specs.Lines.{Listing, gate, listing, reads, lines}
use Rattle.text.specs.Numbers.{dec_text}
use Rattle.listing.specs.Printed.{line_name, gate_line, output_line, lines_to, counts_text, lines_text, listing_text}

-- K1
abbrev k1 : Listing
k1 = listing 3 (gate 0 0 1 ∷ gate 0 2 3 ∷ gate 0 1 2 ∷ []) (3 ∷ 4 ∷ 5 ∷ [])

pub k1_printed : listing_text k1 ≡
    -- inputs 3 outputs 3 gates 3 depth 2
    (105 ∷ 110 ∷ 112 ∷ 117 ∷ 116 ∷ 115 ∷ 32 ∷ 51 ∷ 32 ∷ 111 ∷ 117 ∷ 116 ∷ 112 ∷ 117 ∷ 116 ∷ 115 ∷ 32 ∷ 51 ∷ 32 ∷ 103 ∷ 97 ∷ 116 ∷ 101 ∷ 115 ∷ 32 ∷ 51 ∷ 32 ∷ 100 ∷ 101 ∷ 112 ∷ 116 ∷ 104 ∷ 32 ∷ 50 ∷ 10 ∷ [])
    -- t0 = x0 ^ x1
    ++ (116 ∷ 48 ∷ 32 ∷ 61 ∷ 32 ∷ 120 ∷ 48 ∷ 32 ∷ 94 ∷ 32 ∷ 120 ∷ 49 ∷ 10 ∷ [])
    -- t1 = x2 ^ t0
    ++ (116 ∷ 49 ∷ 32 ∷ 61 ∷ 32 ∷ 120 ∷ 50 ∷ 32 ∷ 94 ∷ 32 ∷ 116 ∷ 48 ∷ 10 ∷ [])
    -- t2 = x1 ^ x2
    ++ (116 ∷ 50 ∷ 32 ∷ 61 ∷ 32 ∷ 120 ∷ 49 ∷ 32 ∷ 94 ∷ 32 ∷ 120 ∷ 50 ∷ 10 ∷ [])
    -- y0 = t0
    ++ (121 ∷ 48 ∷ 32 ∷ 61 ∷ 32 ∷ 116 ∷ 48 ∷ 10 ∷ [])
    -- y1 = t1
    ++ (121 ∷ 49 ∷ 32 ∷ 61 ∷ 32 ∷ 116 ∷ 49 ∷ 10 ∷ [])
    -- y2 = t2
    ++ (121 ∷ 50 ∷ 32 ∷ 61 ∷ 32 ∷ 116 ∷ 50 ∷ 10 ∷ [])
unfolding lines reads dec_text line_name gate_line output_line lines_to counts_text
k1_printed = refl

-- a gate of each kind over two inputs
abbrev pub seven : Listing
seven =
    listing 2 (gate 0 0 1 ∷ gate 1 0 2 ∷ gate 2 1 3 ∷ gate 3 4 1 ∷ gate 4 4 5 ∷ gate 5 5 6 ∷ gate 6 7 0 ∷ []) (8 ∷ 1 ∷ [])

pub seven_printed : lines_text seven ≡
    -- t0 = x0 ^ x1
    (116 ∷ 48 ∷ 32 ∷ 61 ∷ 32 ∷ 120 ∷ 48 ∷ 32 ∷ 94 ∷ 32 ∷ 120 ∷ 49 ∷ 10 ∷ [])
    -- t1 = ~(x0 ^ t0)
    ++ (116 ∷ 49 ∷ 32 ∷ 61 ∷ 32 ∷ 126 ∷ 40 ∷ 120 ∷ 48 ∷ 32 ∷ 94 ∷ 32 ∷ 116 ∷ 48 ∷ 41 ∷ 10 ∷ [])
    -- t2 = x1 & t1
    ++ (116 ∷ 50 ∷ 32 ∷ 61 ∷ 32 ∷ 120 ∷ 49 ∷ 32 ∷ 38 ∷ 32 ∷ 116 ∷ 49 ∷ 10 ∷ [])
    -- t3 = ~(t2 & x1)
    ++ (116 ∷ 51 ∷ 32 ∷ 61 ∷ 32 ∷ 126 ∷ 40 ∷ 116 ∷ 50 ∷ 32 ∷ 38 ∷ 32 ∷ 120 ∷ 49 ∷ 41 ∷ 10 ∷ [])
    -- t4 = t2 | t3
    ++ (116 ∷ 52 ∷ 32 ∷ 61 ∷ 32 ∷ 116 ∷ 50 ∷ 32 ∷ 124 ∷ 32 ∷ 116 ∷ 51 ∷ 10 ∷ [])
    -- t5 = ~(t3 | t4)
    ++ (116 ∷ 53 ∷ 32 ∷ 61 ∷ 32 ∷ 126 ∷ 40 ∷ 116 ∷ 51 ∷ 32 ∷ 124 ∷ 32 ∷ 116 ∷ 52 ∷ 41 ∷ 10 ∷ [])
    -- t6 = ~t5
    ++ (116 ∷ 54 ∷ 32 ∷ 61 ∷ 32 ∷ 126 ∷ 116 ∷ 53 ∷ 10 ∷ [])
    -- y0 = t6
    ++ (121 ∷ 48 ∷ 32 ∷ 61 ∷ 32 ∷ 116 ∷ 54 ∷ 10 ∷ [])
    -- y1 = x1
    ++ (121 ∷ 49 ∷ 32 ∷ 61 ∷ 32 ∷ 120 ∷ 49 ∷ 10 ∷ [])
unfolding dec_text line_name gate_line output_line lines_to
seven_printed = refl
