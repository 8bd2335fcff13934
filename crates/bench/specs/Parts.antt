-- What the functions inside the bench promise to one another.
use Rattle.std.specs.Prelude.{◌≡◌, Result, Ok, Err, Bool, true, cond, ◌&&◌, List, ◌++◌, ℕ, ◌+◌, ◌-◌, ◌^◌, ◌<◌, ltb, take, set, replicate}
use Rattle.circuit.specs.declared.Refusal.{Refusal}
use Rattle.circuit.specs.declared.Refusal.TheVariants.{NotThere, NothingOpen, Full, Target as BadTarget}
use Rattle.circuit.specs.declared.Circuit.{Circuit}
use Rattle.circuit.specs.declared.Words.{Words}
use Rattle.circuit.specs.Gate.{no_words}
use Rattle.circuit.specs.Lines.{Gate, gate, lines, depth_step, and_depth_step, words_step, input_words, reached, padded}
use Rattle.circuit.specs.Structs.{gate_of, put_gate, held}
use Rattle.circuit.specs.Rules.{Answer, done, and_then, unless, shaped, gate_answer, out_answer}
use Rattle.circuit.specs.Sizes.{most_gates, most_lines, most_values}
use Rattle.stored.specs.Stored.{listing_in}
use Rattle.targets.specs.Target.{value_fits, Brought}
use Rattle.targets.specs.Wanted.{wanted_in}
use Rattle.bench.specs.declared.Bench.{Bench}
use Rattle.bench.specs.declared.Edited.{Edited}
use Rattle.bench.specs.Held.{circuit_of, recircuited, holding, unexamined}
use Rattle.bench.specs.Calls.{Edit, reworking, open_answer}
use Rattle.bench.specs.State.{Limits}

-- ---- lines

-- gate k of what stands on a bench
abbrev pub gate_on : Bench → ℕ → Gate
gate_on b = gate_of (circuit_of b)

-- what is held for n inputs and g gates, an entry a line and d past the last
abbrev pub entries : {A : Type 0} → (ℕ → Gate → List A → A) → A → List A → (ℕ → Gate) → ℕ → ℕ → List A
entries step d ins gates n g = lines step d ins gates g ++ replicate (most_lines - (n + g)) d

-- the bench with every line examined, where its gates are these
unfoldable pub examined_as : Bench → (ℕ → Gate) → Bench
examined_as b gates =
    holding b (entries depth_step 0 (replicate b.n 0) gates b.n b.g) (entries and_depth_step 0 (replicate b.n 0) gates b.n b.g)
    (entries words_step no_words (take b.n input_words) gates b.n b.g)

-- the bench with every line examined afresh
abbrev pub examined : Bench → Bench
examined b = examined_as b (gate_on b)

-- each gate reads lines with numbers below its own
abbrev pub AllBelow : ℕ → ℕ → (ℕ → Gate) → Type 0
AllBelow n g gates = (j : ℕ) → j < g → ((gates j).left < n + j) × ((gates j).right < n + j)

-- two lists of gates agree but at gate k
abbrev pub Agree : ℕ → (ℕ → Gate) → (ℕ → Gate) → Type 0
Agree k old new = (j : ℕ) → (j ≡ k → ⊥) → new j ≡ old j

-- the bench with gate k set, one that it has or the next, and its lines not yet examined
abbrev pub regated : Bench → ℕ → ℕ → ℕ → ℕ → Bench
regated z k kind a b = recircuited z (put_gate (circuit_of z) k kind a b)

-- the bench with one line stored: its depth, AND depth and values
abbrev pub put : Bench → ℕ → ℕ → ℕ → Words → Bench
put c at d a w = holding c (set c.depths at d) (set c.and_depths at a) (set c.values at w)

-- a bench holds what examining these gates gives, whatever it holds for the line of gate k
pub record HeldBut (b : Bench) (k : ℕ) (gates : ℕ → Gate) : Type 0 where
  pub depth : ℕ
  pub and_depth : ℕ
  pub value : Words
  pub is : put b (b.n + k) depth and_depth value ≡ examined_as b gates

-- after gate k was set: where the other lines were those of the gates before it, all are those of the present gates;
-- and the lines reached from gate k are listed, and no others
pub record Reexamined (b : Bench) (k : ℕ) (r : Bench) (e : Edit) : Type 0 where
  pub fresh : AllBelow b.n b.g (gate_on b) → (old : ℕ → Gate) → Agree k old (gate_on b) → HeldBut b k old → r ≡ examined b
  pub listed : e ≡ Ok (reworking (reached k b.n (gate_on b) b.g))

-- ---- what a call looks at before it changes anything: 13, 12, and then the edit's own

-- something is open: it says so, and its numbers are those of a circuit
abbrev pub standing : Bool → ℕ → ℕ → ℕ → Bool
standing opened n m g = opened && shaped n m g

-- something is open on a bench
abbrev pub open_on : Bench → Bool
open_on b = standing b.is_open b.n b.m b.g

-- what replacing a gate is refused for, from the numbers on the bench
unfoldable pub gate_look : Bench → ℕ → ℕ → ℕ → ℕ → Answer
gate_look z k kind a b = unless (open_on z) NothingOpen (unless (ltb k z.g) NotThere (gate_answer z.is_matrix (z.n + k) (gate kind a b)))

-- what appending a gate is refused for
unfoldable pub append_look : Bench → ℕ → ℕ → ℕ → Answer
append_look z kind a b = unless (open_on z) NothingOpen (unless (ltb z.g most_gates) Full (gate_answer z.is_matrix (z.n + z.g) (gate kind a b)))

-- what pointing an output is refused for
unfoldable pub output_look : Bench → ℕ → ℕ → Answer
output_look z j line = unless (open_on z) NothingOpen (unless (ltb j z.m) NotThere (out_answer (z.n + z.g) line))

-- what changing an entry is refused for
unfoldable pub entry_look : Bench → ℕ → ℕ → ℕ → Answer
entry_look z i value constant =
    unless (open_on z) NothingOpen
    (unless (ltb i (cond z.is_matrix z.m (2 ^ z.n))) NotThere (unless (value_fits z.is_matrix z.n z.m value constant) BadTarget done))

-- the target's bytes with entry i changed: a row's constant stands m bytes behind its mask
unfoldable pub entered : Bool → ℕ → List ℕ → ℕ → ℕ → ℕ → List ℕ
entered only m bytes i value constant = let l = set bytes i value in cond only (set l (m + i) constant) l

-- what setting gate k gives, by what was looked at first: a refusal leaves the bench
abbrev pub GateSet : Answer → Bench → ℕ → ℕ → ℕ → ℕ → Edited → Type 0
GateSet (Ok _) b k kind x y r = Reexamined (regated b k kind x y) k r.bench r.edit
GateSet (Err w) b k kind x y r = r ≡ record { bench = b; edit = Err w }

-- ---- opening

-- the circuit that an open brings, as the struct that holds it, or why the open is refused
unfoldable pub accepted_of : List ℕ → Brought → Result Circuit Refusal
accepted_of bytes t = and_then (open_answer bytes t) (Ok (held (listing_in bytes)))

-- the bench with this circuit, target and limits, every line examined
unfoldable pub placed_of : Circuit → Bool → List ℕ → Limits → Bench
placed_of c only bytes l =
    let target = padded most_values 0 bytes in
    examined (unexamined true c only target (wanted_in only target c.m) l)
