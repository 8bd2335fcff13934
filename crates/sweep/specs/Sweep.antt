-- The sweep: what outputs reach, which gates are the same, and the circuit that is left when the others are dropped and merged.
use Rattle.std.specs.Prelude.{Bool, true, false, cond, ◌&&◌, ◌||◌, List, [], ◌∷◌, ◌++◌, map, ℕ, zero, suc, ◌+◌, eqb, length, get_or}
use Rattle.circuit.specs.declared.Circuit.{Circuit}
use Rattle.circuit.specs.Lines.{Gate, Listing, gate, gate_at, with_gates, with_outs, reads, upto}
use Rattle.circuit.specs.Rules.{shaped}
use Rattle.circuit.specs.Structs.{held, listed}

-- ---- what outputs reach

-- a number is among some
unfoldable pub has : List ℕ → ℕ → Bool
has [] i = false
has (x ∷ xs) i = eqb x i || has xs i

-- the lines that outputs reach, going back over some gates, the first of them on line `line`: those that the outputs name,
-- and those that a gate reads whose own line is reached
unfoldable pub back : ℕ → List Gate → List ℕ → List ℕ
back line [] outs = outs
back line (q ∷ qs) outs = let r = back (suc line) qs outs in cond (has r line) (reads q ++ r) r

-- an output reaches line i
abbrev pub used : Listing → ℕ → Bool
used c i = has (back c.inputs c.gates c.outs) i

-- ---- gates that are the same

-- two operands in the other order; one operand, or three, as they are
unfoldable pub other_way : {A : Type 0} → List A → List A
other_way [] = []
other_way (a ∷ []) = a ∷ []
other_way (a ∷ b ∷ []) = b ∷ a ∷ []
other_way (a ∷ b ∷ c ∷ xs) = a ∷ b ∷ c ∷ xs

-- the same numbers in the same order
unfoldable pub are_same_lines : List ℕ → List ℕ → Bool
are_same_lines [] [] = true
are_same_lines [] (y ∷ ys) = false
are_same_lines (x ∷ xs) [] = false
are_same_lines (x ∷ xs) (y ∷ ys) = eqb x y && are_same_lines xs ys

-- two gates are of one kind and read the same lines, two of them in either order
unfoldable pub same_gate : Gate → Gate → Bool
same_gate p q = eqb p.kind q.kind && (are_same_lines (reads p) (reads q) || are_same_lines (other_way (reads p)) (reads q))

-- the first of some gates that is the same as p, or how many there are
unfoldable pub place : Gate → List Gate → ℕ
place p [] = 0
place p (q ∷ qs) = cond (same_gate p q) 0 (suc (place p qs))

-- the gates, with p at the end unless one of them is the same
unfoldable pub joined : Gate → List Gate → List Gate
joined p [] = p ∷ []
joined p (q ∷ qs) = cond (same_gate p q) (q ∷ qs) (q ∷ joined p qs)

-- ---- the sweep

-- a gate with other numbers for the lines that it reads; what it does not read is 0
unfoldable pub renamed : (ℕ → ℕ) → Gate → Gate
renamed f q = let rs = map f (reads q) in gate q.kind (get_or rs 0 0) (get_or rs 1 0)

-- the gates kept so far, renumbered, and the new line of each line so far
pub record Sweep : Type 0 where
  pub kept : List Gate
  pub new : List ℕ

-- the new line of line i: that of the line that it is merged into
abbrev pub to : Sweep → ℕ → ℕ
to s i = get_or s.new i 0

-- one gate more: dropped where no output reaches it (its new line is then 0, and nothing reads it); merged into the first
-- kept gate that is the same once its operands have their new lines; or kept
unfoldable pub turned : ℕ → Bool → Gate → Sweep → Sweep
turned n false q s = record { kept = s.kept; new = s.new ++ (0 ∷ []) }
turned n true q s = let p = renamed (to s) q in record { kept = joined p s.kept; new = s.new ++ ((n + place p s.kept) ∷ []) }

-- n inputs and the first j gates, where `live` says which lines are reached
module _ (n : ℕ) (live : ℕ → Bool) (gates : ℕ → Gate) where
  unfoldable pub sweep_to : ℕ → Sweep
  sweep_to zero = record { kept = []; new = upto (λ (i : ℕ). i) n }
  sweep_to (suc j) = let s = sweep_to j in turned n (live (n + j)) (gates j) s

-- all gates of a circuit
abbrev pub sweep_of : Listing → Sweep
sweep_of c = sweep_to c.inputs (used c) (gate_at c) (length c.gates)

-- the circuit that is left
unfoldable pub swept : Listing → Listing
swept c = let s = sweep_of c in with_outs (with_gates c s.kept) (map (to s) c.outs)

-- the same of a struct; one that is out of range holds no circuit and stays as it is
unfoldable pub swept_in : Circuit → Circuit
swept_in c = cond (shaped c.n c.m c.g) (held (swept (listed c))) c
