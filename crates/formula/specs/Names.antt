-- Names: x0 to x7, and the table of the names that were set, each by its key and its line.
use Rattle.std.specs.Prelude.{◌≡◌, Bool, true, false, cond, ◌&&◌, List, ℕ, zero, suc, ◌+◌, ◌-◌, ◌*◌, ◌%◌, ◌≤◌, ◌<◌, leb, ltb, eqb, get_or, replicate, Option, Some, None}
use Rattle.formula.specs.Sizes.{most_names, longest}
use Rattle.formula.specs.Text.{seen, skip_of, word_end}
use Rattle.formula.specs.Tree.{leaf, Res, got, bad, unk}
use Rattle.formula.specs.declared.Names.{Names}

-- a number with one byte more at its end, in 64 bits
unfoldable pub appended : ℕ → ℕ → ℕ
appended v b = v % 72057594037927936 * 256 + b

-- f bytes from i on after the number v, as one number
unfoldable pub part_of : List ℕ → ℕ → ℕ → ℕ → ℕ
part_of s zero i v = v
part_of s (suc f) i v = part_of s f (i + 1) (appended v (get_or s i 0))

-- where the second half of the name from p to e begins: after eight bytes, or at its end
unfoldable pub middle : ℕ → ℕ → ℕ
middle p e = cond (ltb 8 (e - p)) (p + 8) e

-- the key of the name from p to e: its first eight bytes as a number,
unfoldable pub low_key : List ℕ → ℕ → ℕ → ℕ
low_key s p e = part_of s (middle p e - p) p 0

-- and the rest of them
unfoldable pub high_key : List ℕ → ℕ → ℕ → ℕ
high_key s p e = part_of s (e - middle p e) (middle p e) 0

-- a table with no names
unfoldable pub no_names : Names
no_names = record { low = replicate most_names 0; high = replicate most_names 0; lines = replicate most_names 0; n = 0 }

-- a table has so many names, of n that are said to be there
unfoldable pub few_names : ℕ → ℕ
few_names n = cond (ltb n most_names) n most_names

-- the line of the name with the key a, b among f names of the table from i on
unfoldable pub find_from : List ℕ → List ℕ → List ℕ → ℕ → ℕ → ℕ → ℕ → Option ℕ
find_from low high lines a b zero i = None
find_from low high lines a b (suc f) i =
    let r = find_from low high lines a b f (i + 1) in
    cond (eqb (get_or low i 0) a && eqb (get_or high i 0) b) (Some (get_or lines i 0)) r

-- how many places of the table a search looks at together
abbrev pub block : ℕ
block = 8

-- so many of f places are in the first block of them
unfoldable pub in_block : ℕ → ℕ
in_block f = cond (ltb f block) f block

-- none of the places from i to j has the half a
abbrev pub Passed : List ℕ → ℕ → ℕ → ℕ → Type 0
Passed halves a i j = (k : ℕ) → i ≤ k → k < j → get_or halves k 0 ≡ a → ⊥

-- none of the f places from i on, and no fewer of them, has the key a, b
abbrev pub NoKey : List ℕ → List ℕ → ℕ → ℕ → ℕ → ℕ → Type 0
NoKey low high a b f i = (lines : List ℕ) (g : ℕ) → g ≤ f → find_from low high lines a b g i ≡ None

-- x0 to x7
unfoldable pub input_of : List ℕ → ℕ → ℕ → Option ℕ
input_of s p e =
    cond (eqb (e - p) 2)
    (cond (seen s p 120) (cond (leb 48 (get_or s (p + 1) 0)) (cond (leb (get_or s (p + 1) 0) 55) (Some (get_or s (p + 1) 0 - 48)) None) None) None)
    None

-- the first of two that is something
abbrev pub or_else : Option ℕ → Option ℕ → Option ℕ
or_else (Some v) f = Some v
or_else None f = f

-- something is known of a name
abbrev pub is_line : Option ℕ → Bool
is_line (Some v) = true
is_line None = false

-- what is known of the name from p to e: an input's line, or that of a name of the table
unfoldable pub look_up : List ℕ → List ℕ → List ℕ → List ℕ → ℕ → ℕ → ℕ → Option ℕ
look_up s low high lines n p e = let r = find_from low high lines (low_key s p e) (high_key s p e) (few_names n) 0 in or_else (input_of s p e) r

-- a name that ends at e, where this is known of it: the text goes on past the spaces after it
abbrev pub named : List ℕ → ℕ → Option ℕ → Res
named s e (Some v) = got (skip_of s e) (leaf v)
named s e None = unk (e - 1)

-- the name at p, of 1 to 16 letters and digits, where `known p e` is what is known of the name from p to e
unfoldable pub name_by : List ℕ → (ℕ → ℕ → Option ℕ) → ℕ → Res
name_by s known p =
    let e = word_end s p in
    cond (leb e p) (bad p) (cond (ltb longest (e - p)) (bad (p + longest)) (named s e (known p e)))

-- the name at p over the columns of a table
abbrev pub name_of : List ℕ → List ℕ → List ℕ → List ℕ → ℕ → ℕ → Res
name_of s low high lines n = name_by s (look_up s low high lines n)

-- the same over a table
abbrev pub name_in : List ℕ → Names → ℕ → Res
name_in s t = name_of s t.low t.high t.lines t.n
