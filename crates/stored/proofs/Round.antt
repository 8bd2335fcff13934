-- Reading what is stored gives the circuit back, and bytes that read as a circuit are its stored form. Assumes nothing.
use Rattle.std.specs.Prelude.{Ok, Err}
use Rattle.circuit.specs.Rules.{Answer, done}
use mathlib.Core.Path.{◌≡◌, refl, ap, ap₂, ◌∙◌, sym}
use mathlib.Core.Bool.{Bool, true, cond, ◌&&◌}
use mathlib.Core.List.{List, [], ◌∷◌, ◌++◌}
use Prim.Native.Nat.{ℕ, zero, suc, ◌≤◌, ◌+◌, ◌*◌}
use native.Mathlib.Nat.{mul-suc, mod-eq_of_lt}
use native.Mathlib.Omega.{arith}
use borrow.Author.Tests.{eqb-true, eq-eqb, le-leb}
use lib.Dec.{eqb}
use lib.ListN.{length, get_or, drop, length-append, length-drop}
use lib.Seq.{drop-drop, drop_at}
use Rattle.circuit.specs.declared.Refusal.TheVariants.{Shape, Length, Mark}
use Rattle.circuit.specs.Lines.{Gate, Listing, gate, listing}
use Rattle.circuit.specs.Rules.{unless, shaped, out_answer, and_then, gate_answer, gates_answer, outs_answer, listing_answer}
use Rattle.circuit.proofs.Shapes.{past, both, then_done, shape_is, shape_true}
use Rattle.circuit.proofs.RuleLaws.{gate_fits, out_below}
use Rattle.stored.specs.Stored.{in_byte, records, gate_in, out_in, gate_bytes, out_bytes, stored, listing_in}
use Rattle.stored.specs.Reading.{answers, gate_record, out_record, gate_here, out_here, body_answer, reading_answer, read_stored}
use Rattle.stored.proofs.Records.{records_length}
use Rattle.stored.proofs.Accept.{accepted}

pub gate_bytes-length : (qs : List Gate) → length (gate_bytes qs) ≡ 5 * length qs
unfolding gate_bytes
gate_bytes-length [] = refl
gate_bytes-length (q ∷ qs) = omega (arith, gate_bytes-length qs, mul-suc 5 (length qs))

pub out_bytes-length : (os : List ℕ) → length (out_bytes os) ≡ 3 * length os
unfolding out_bytes
out_bytes-length [] = refl
out_bytes-length (o ∷ os) = omega (arith, out_bytes-length os, mul-suc 3 (length os))

-- past the gates
past_gates : (c : Listing) → drop (5 + 5 * length c.gates) (stored c) ≡ out_bytes c.outs
past_gates c =
    sym (drop-drop (5 * length c.gates) 5 (stored c))
    ∙ drop_at (gate_bytes c.gates) (out_bytes c.outs) (5 * length c.gates) (gate_bytes-length c.gates)

-- ---- every line number of an accepted circuit fits a byte

-- an accepted gate's operands, on a line that a byte can name
operands-in_byte : (only : Bool) (line : ℕ) (q : Gate) → gate_answer only line q ≡ done → line ≤ 256 → (in_byte q.left ≡ q.left) × (in_byte q.right ≡ q.right)
operands-in_byte only line q h l =
    let f = gate_fits only line q h in
    (mod-eq_of_lt (omega (arith, f.first)), mod-eq_of_lt (omega (arith, f.second)))

-- an accepted output's line
line-in_byte : (lines line : ℕ) → out_answer lines line ≡ done → lines ≤ 256 → in_byte line ≡ line
line-in_byte lines line h l = mod-eq_of_lt (omega (arith, out_below lines line h))

-- ---- gates and outputs come back from their records, each answered as it was

module _ (only : Bool) where
  gates_read : (line : ℕ) (qs : List Gate) (rest : List ℕ) → gates_answer only line qs ≡ done → line + length qs ≤ 256
      → (records gate_in 5 (length qs) (gate_bytes qs ++ rest) ≡ qs) × (answers (gate_here only) 5 line (length qs) (gate_bytes qs ++ rest) ≡ done)
  unfolding records answers gate_bytes gates_answer gate_record
  gates_read line [] rest h l = (refl, refl)
  gates_read line (q ∷ qs) rest h l =
      let t = then_done (gate_answer only line q) (gates_answer only (suc line) qs) h in
      let k = operands-in_byte only line q t.0 (omega arith) in
      let r = gates_read (suc line) qs rest t.1 (omega arith) in (
        λ i. gate q.kind (k.0 i) (k.1 i) ∷ r.0 i,
        (λ i. and_then (gate_answer only line (gate q.kind (k.0 i) (k.1 i))) (r.1 i)) ∙ ap (λ (a : Answer). and_then a done) t.0,
      )

outs_read : (lines k : ℕ) (os : List ℕ) → outs_answer lines os ≡ done → lines ≤ 256
    → (records out_in 3 (length os) (out_bytes os) ≡ os) × (answers (out_here lines) 3 k (length os) (out_bytes os) ≡ done)
unfolding records answers out_bytes outs_answer out_record
outs_read lines k [] h l = (refl, refl)
outs_read lines k (o ∷ os) h l =
    let t = then_done (out_answer lines o) (outs_answer lines os) h in
    let e = line-in_byte lines o t.0 l in
    let r = outs_read lines (suc k) os t.1 l in (
      λ i. e i ∷ r.0 i,
      (λ i. and_then (out_answer lines (e i)) (r.1 i)) ∙ ap (λ (a : Answer). and_then a done) t.0,
    )

-- ---- a circuit that is accepted comes back from its stored form, which is accepted

module _ (only : Bool) (c : Listing) (h : listing_answer only c ≡ done) where
  abbrev N : ℕ
  N = c.inputs

  abbrev G : ℕ
  G = length c.gates

  abbrev M : ℕ
  M = length c.outs

  -- what the acceptance shows
  record Parts : Type 0 where
    shape : shaped N M G ≡ true
    gates : gates_answer only N c.gates ≡ done
    outs : outs_answer (N + G) c.outs ≡ done
    few : N + G ≤ 256

  parts : Parts
  unfolding listing_answer
  parts =
      let p = past (shaped N M G) Shape h in
      let q = then_done (gates_answer only N c.gates) (outs_answer (N + G) c.outs) p.1 in
      let s = shape_is N M G p.0 in
      record { shape = p.0; gates = q.0; outs = q.1; few = omega (arith, s.n_most, s.g_most) }

  gates_here : (records gate_in 5 G (gate_bytes c.gates ++ out_bytes c.outs) ≡ c.gates)
      × (answers (gate_here only) 5 N G (gate_bytes c.gates ++ out_bytes c.outs) ≡ done)
  gates_here = gates_read only N c.gates (out_bytes c.outs) parts.gates parts.few

  outs_here : (records out_in 3 M (out_bytes c.outs) ≡ c.outs) × (answers (out_here (N + G)) 3 0 M (out_bytes c.outs) ≡ done)
  outs_here = outs_read (N + G) 0 c.outs parts.outs parts.few

  -- the circuit comes back
  pub listing-stored : listing_in (stored c) ≡ c
  unfolding listing_in
  listing-stored =
      let o = ap (records out_in 3 M) (past_gates c) ∙ outs_here.0 in
      λ i. listing N (gates_here.0 i) (o i)

  -- and nothing is refused
  pub answer_stored : reading_answer only (stored c) ≡ done
  unfolding reading_answer body_answer
  answer_stored =
      let l : length (stored c) ≡ 5 + 5 * G + 3 * M =
      omega (arith, length-append (gate_bytes c.gates) (out_bytes c.outs), gate_bytes-length c.gates, out_bytes-length c.outs) in
      let b = ap (answers (out_here (N + G)) 3 0 M) (past_gates c) ∙ outs_here.1 in
      let e = eq-eqb (length (stored c)) (5 + 5 * G + 3 * M) l in
      let f = le-leb 5 (length (stored c)) (omega arith) in
      λ i. cond (f i) (cond (parts.shape i) (cond (e i) (and_then (gates_here.1 i) (b i)) (Err Length)) (Err Shape)) (Err Length)

  -- reading what is stored
  pub read-stored : read_stored only (stored c) ≡ Ok c
  read-stored = λ i. and_then (answer_stored i) (Ok (listing-stored i))

-- the other way
five : (s : List ℕ) → 5 ≤ length s → get_or s 0 0 ∷ get_or s 1 0 ∷ get_or s 2 0 ∷ get_or s 3 0 ∷ get_or s 4 0 ∷ drop 5 s ≡ s
five (a ∷ b ∷ c ∷ d ∷ e ∷ r) h = refl
five (a ∷ b ∷ c ∷ d ∷ []) h = absurd (omega arith)
five (a ∷ b ∷ c ∷ []) h = absurd (omega arith)
five (a ∷ b ∷ []) h = absurd (omega arith)
five (a ∷ []) h = absurd (omega arith)
five [] h = absurd (omega arith)

three : (s : List ℕ) → 3 ≤ length s → get_or s 0 0 ∷ get_or s 1 0 ∷ get_or s 2 0 ∷ drop 3 s ≡ s
three (a ∷ b ∷ c ∷ r) h = refl
three (a ∷ b ∷ []) h = absurd (omega arith)
three (a ∷ []) h = absurd (omega arith)
three [] h = absurd (omega arith)

-- an accepted record has its mark, and what it holds is accepted
gate_mark : (only : Bool) (line : ℕ) (s : List ℕ) → gate_here only line s ≡ done
    → ((get_or s 0 0 ≡ 71) × (get_or s 1 0 ≡ 84)) × (gate_answer only line (gate_in s) ≡ done)
unfolding gate_record
gate_mark only line s h =
    let p = past (eqb (get_or s 0 0) 71 && eqb (get_or s 1 0) 84) Mark h in
    let k = both (eqb (get_or s 0 0) 71) p.0 in
    ((eqb-true _ _ k.0, eqb-true _ _ k.1), p.1)

out_mark : (lines k : ℕ) (s : List ℕ) → out_here lines k s ≡ done → ((get_or s 0 0 ≡ 79) × (get_or s 1 0 ≡ 80)) × (out_answer lines (get_or s 2 0) ≡ done)
unfolding out_record
out_mark lines k s h =
    let p = past (eqb (get_or s 0 0) 79 && eqb (get_or s 1 0) 80) Mark h in
    let k = both (eqb (get_or s 0 0) 79) p.0 in
    ((eqb-true _ _ k.0, eqb-true _ _ k.1), p.1)

gates_back : (only : Bool) (line c : ℕ) (s : List ℕ) → answers (gate_here only) 5 line c s ≡ done → 5 * c ≤ length s → line + c ≤ 256
    → (gate_bytes (records gate_in 5 c s) ++ drop (5 * c) s ≡ s) × (gates_answer only line (records gate_in 5 c s) ≡ done)
unfolding answers records gate_bytes gates_answer
gates_back only line zero s h l w = (refl, refl)
gates_back only line (suc c) s h l w =
    let t = then_done (gate_here only line s) (answers (gate_here only) 5 (suc line) c (drop 5 s)) h in
    let k = gate_mark only line s t.0 in
    let a = k.1 in
    let o = operands-in_byte only line (gate_in s) a (omega arith) in
    let e : 5 * suc c ≡ 5 + 5 * c = omega (arith, mul-suc 5 c) in
    let b = gates_back only (suc line) c (drop 5 s) t.1 (omega (arith, length-drop 5 s)) (omega arith) in
    let r : gate_bytes (records gate_in 5 c (drop 5 s)) ++ drop (5 * suc c) s ≡ drop 5 s =
    ap (λ (x : List ℕ). gate_bytes (records gate_in 5 c (drop 5 s)) ++ x) (ap (λ (x : ℕ). drop x s) e ∙ sym (drop-drop (5 * c) 5 s)) ∙ b.0 in (
      (λ i. sym k.0.0 i ∷ sym k.0.1 i ∷ get_or s 2 0 ∷ o.0 i ∷ o.1 i ∷ r i) ∙ five s (omega arith),
      ap₂ and_then a b.1,
    )

outs_back : (lines k c : ℕ) (s : List ℕ) → answers (out_here lines) 3 k c s ≡ done → length s ≡ 3 * c → lines ≤ 256
    → (out_bytes (records out_in 3 c s) ≡ s) × (outs_answer lines (records out_in 3 c s) ≡ done)
unfolding answers records out_bytes outs_answer
outs_back lines k zero [] h l w = (refl, refl)
outs_back lines k zero (a ∷ s) h l w = absurd (omega arith)
outs_back lines k (suc c) s h l w =
    let t = then_done (out_here lines k s) (answers (out_here lines) 3 (suc k) c (drop 3 s)) h in
    let q = out_mark lines k s t.0 in
    let r = outs_back lines (suc k) c (drop 3 s) t.1 (omega (arith, length-drop 3 s, mul-suc 3 c)) w in
    let e = line-in_byte lines (get_or s 2 0) q.1 w in (
      (λ i. sym q.0.0 i ∷ sym q.0.1 i ∷ e i ∷ r.0 i) ∙ three s (omega (arith, mul-suc 3 c)),
      ap₂ and_then q.1 r.1,
    )

-- bytes that are accepted
module _ (only : Bool) (s : List ℕ) (h : reading_answer only s ≡ done) where
  abbrev n : ℕ
  n = get_or s 2 0

  abbrev m : ℕ
  m = get_or s 3 0

  abbrev g : ℕ
  g = get_or s 4 0

  few : n + g ≤ 256
  few = let a = (accepted only s h).shape in omega (arith, a.n_most, a.g_most)

  gates_there : (gate_bytes (records gate_in 5 g (drop 5 s)) ++ drop (5 * g) (drop 5 s) ≡ drop 5 s) × (gates_answer only n (records gate_in 5 g (drop 5 s)) ≡ done)
  gates_there = let a = accepted only s h in gates_back only n g (drop 5 s) a.gates (omega (arith, length-drop 5 s, a.long)) few

  outs_there : let t = drop (5 + 5 * g) s in (out_bytes (records out_in 3 m t) ≡ t) × (outs_answer (n + g) (records out_in 3 m t) ≡ done)
  outs_there = let a = accepted only s h in outs_back (n + g) 0 m (drop (5 + 5 * g) s) a.outs (omega (arith, length-drop (5 + 5 * g) s, a.long)) few

  -- are the stored form of the circuit that they hold
  pub stored-listing : stored (listing_in s) ≡ s
  unfolding listing_in
  stored-listing =
      let a = accepted only s h in
      let b : drop (5 * g) (drop 5 s) ≡ drop (5 + 5 * g) s = drop-drop (5 * g) 5 s in
      let r : gate_bytes (records gate_in 5 g (drop 5 s)) ++ out_bytes (records out_in 3 m (drop (5 + 5 * g) s)) ≡ drop 5 s =
      ap (λ (x : List ℕ). gate_bytes (records gate_in 5 g (drop 5 s)) ++ x) (outs_there.0 ∙ sym b) ∙ gates_there.0 in
      let lm = records_length out_in 3 m (drop (5 + 5 * g) s) in
      let lg = records_length gate_in 5 g (drop 5 s) in
      (λ i. sym a.first i ∷ sym a.second i ∷ n ∷ lm i ∷ lg i ∷ r i) ∙ five s (omega (arith, a.long))

  -- and that circuit is accepted
  pub listing_accepted : listing_answer only (listing_in s) ≡ done
  unfolding listing_in listing_answer
  listing_accepted =
      let a = accepted only s h in
      let lm = records_length out_in 3 m (drop (5 + 5 * g) s) in
      let lg = records_length gate_in 5 g (drop 5 s) in
      let y = ap₂ (shaped n) lm lg ∙ shape_true n m g a.shape in
      let o = ap (λ (x : ℕ). outs_answer (n + x) (records out_in 3 m (drop (5 + 5 * g) s))) lg ∙ outs_there.1 in
      λ i. unless (y i) Shape (and_then (gates_there.1 i) (o i))

-- bytes that read as a circuit are its stored form
pub stored_read : (only : Bool) (s : List ℕ) (c : Listing) → read_stored only s ≡ Ok c → s ≡ stored c
stored_read only s c h = by (reading_answer only s) refl h where
  by : (a : Answer) → reading_answer only s ≡ a → and_then a (Ok (listing_in s)) ≡ Ok c → s ≡ stored c
  by (Ok _) e h = let z : listing_in s ≡ c = cc in sym (stored-listing only s e) ∙ ap stored z
  by (Err w) e h = let z : ◌≡◌ {A = ℕ} 0 1 = cc in absurd (omega arith)
