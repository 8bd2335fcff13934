-- The answer to an input as text: the circuit that is built, or the number of the refusal.
use Rattle.std.specs.Prelude.{◌≡◌, Result, Ok, Err, Bool, true, cond, ◌&&◌, List, ℕ, ◌+◌, leb, eqb, length, get_or, drop}
use Rattle.circuit.specs.declared.Circuit.{Circuit}
use Rattle.circuit.specs.declared.Refusal.{Refusal}
use Rattle.circuit.specs.declared.Refusal.TheVariants.{Length}
use Rattle.circuit.specs.Lines.{Listing}
use Rattle.circuit.specs.Rules.{Answer, shaped}
use Rattle.circuit.specs.Structs.{listed}
use Rattle.builder.specs.Call.{built, refusal}
use Rattle.listing.specs.Printed.{listing_text, refused_text}

-- n, m and D are there, and m row bytes after them
abbrev pub whole : List ℕ → Bool
whole s = leb 3 (length s) && eqb (length s) (3 + get_or s 1 0)

-- the circuit beside an acceptance, or the refusal
abbrev pub plan_text : Answer → Listing → List ℕ
plan_text (Ok _) c = listing_text c
plan_text (Err w) c = refused_text w

-- what is written for n, m, D and the rows; an input that is not whole is refused before everything
unfoldable pub answer_text : List ℕ → List ℕ
answer_text s =
    let n = get_or s 0 0 in
    let D = get_or s 2 0 in
    let rows = drop 3 s in
    cond (whole s) (plan_text (refusal n rows D) (built n rows D)) (refused_text Length)

-- the same for a plan
abbrev pub planned_text : Result Circuit Refusal → List ℕ
planned_text (Ok c) = listing_text (listed c)
planned_text (Err w) = refused_text w

-- a plan that is accepted has a circuit in range
abbrev pub Fits : Result Circuit Refusal → Type 0
Fits p = (c : Circuit) → p ≡ Ok c → shaped c.n c.m c.g ≡ true
