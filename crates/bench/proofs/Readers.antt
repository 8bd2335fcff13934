-- The lines that an edit of gate k reworks, said without the examination: that gate's line, and every line whose gate reads one of them. Assumes nothing.
use Rattle.circuit.specs.Rules.{Answer, done}
use mathlib.Core.Path.{◌≡◌, refl, ap, ◌∙◌, sym, subst}
use mathlib.Core.Bool.{Bool, true, false, true≢false, ◌||◌}
use mathlib.Core.Logic.{◌⊎◌, inl, inr, ⊎_elim}
use mathlib.Core.List.Memᴰ
use mathlib.Core.List.{List, [], ◌∷◌, map, Memᴰ}
use Prim.Native.Nat.{ℕ, zero, suc, ◌≤◌, ◌<◌, ◌-◌, ◌+◌}
use native.Mathlib.Omega.{arith}
use borrow.Author.Tests.{eqb-true, eq-eqb}
use lib.Dec.{eqb}
use lib.ListN.{length, get_or, replicate, length-replicate, get_or-eq_default}
use Rattle.circuit.specs.Lines.{Listing, gate_at, reads, lines, any_of, reach_step, reached, padded}
use Rattle.circuit.specs.Sizes.{most_lines}
use Rattle.circuit.proofs.Keep.{Below}
use Rattle.circuit.proofs.LineLaws.{made, lines_length, lines_one, lines_more, lines_at, place}
use Rattle.circuit.proofs.Operands.{reads_below}
use Rattle.circuit.proofs.Padding.{pad_read}
use Rattle.circuit.proofs.RuleLaws.{circuit_fits}
use Rattle.targets.specs.Target.{is_matrix}
use Rattle.bench.specs.State.{State, Sound, present}
use Rattle.bench.specs.Parts.{AllBelow}
use Rattle.bench.specs.Calls.{places_from, readers_of, reworking, edit_by, listed_in, gate_edit, gate_edit_answer}
use Rattle.bench.proofs.Standing.{all_below}
use Rattle.bench.proofs.Places.{listed-marked, marked-listed, size_places, places_ascend}
use Rattle.bench.proofs.Replacing.{edit_fits}

-- line i is gate k's, or its gate reads a line that is affected
pub data Affected (c : Listing) (k : ℕ) : ℕ → Type 0 where
  own : {i : ℕ} → i ≡ c.inputs + k → Affected c k i
  through : {i : ℕ} (j r : ℕ) → i ≡ c.inputs + j → j < length c.gates → Memᴰ r (reads (gate_at c j)) → Affected c k r → Affected c k i

-- ---- one of some lines

pub any-of : (f : ℕ → Bool) (r : ℕ) (rs : List ℕ) → Memᴰ r rs → f r ≡ true → any_of (map f rs) ≡ true
any-of f r [] m h = absurd (Memᴰ.not-nil m)
any-of f r (x ∷ rs) m h =
    go (f x) refl (Memᴰ.cases_cons m) (any-of f r rs) where
      go : (t : Bool) → f x ≡ t → (r ≡ x) ⊎ Memᴰ r rs → (Memᴰ r rs → f r ≡ true → any_of (map f rs) ≡ true) → (f x || any_of (map f rs)) ≡ true
      go true e m rest = ap (λ (t : Bool). t || any_of (map f rs)) e
      go false e m rest =
          ap (λ (t : Bool). t || any_of (map f rs)) e
          ∙ ⊎_elim (λ q. absurd (true≢false (sym h ∙ ap f q ∙ e))) (λ m. rest m h) m

pub some_of : (f : ℕ → Bool) (rs : List ℕ) → any_of (map f rs) ≡ true → (r : ℕ) × (Memᴰ r rs × (f r ≡ true))
some_of f [] h = absurd (true≢false (sym h))
some_of f (x ∷ rs) h = go (f x) refl (some_of f rs) where
  go : (t : Bool) → f x ≡ t → (any_of (map f rs) ≡ true → (r : ℕ) × (Memᴰ r rs × (f r ≡ true))) → (r : ℕ) × (Memᴰ r (x ∷ rs) × (f r ≡ true))
  go true e rest = (x, (Memᴰ.head refl, e))
  go false e rest =
      let s = rest (sym (ap (λ (t : Bool). t || any_of (map f rs)) e) ∙ h) in
      (s.0, (Memᴰ.tail s.1.0, s.1.1))

below_at : (m r : ℕ) (rs : List ℕ) → Below m rs → Memᴰ r rs → r < m
below_at m r [] b e = absurd (Memᴰ.not-nil e)
below_at m r (x ∷ rs) b e = go (Memᴰ.cases_cons e) (below_at m r rs b.1) where
  go : (r ≡ x) ⊎ Memᴰ r rs → (Memᴰ r rs → r < m) → r < m
  go (inl q) rest = omega (arith, b.0)
  go (inr e) rest = rest e

-- ---- marked is affected

module _ (c : Listing) (k : ℕ) where
  abbrev N : ℕ
  N = c.inputs

  abbrev R : ℕ → List Bool
  R = reached k N (gate_at c)

  abbrev hits : ℕ → Bool
  hits = made (reach_step k) false (replicate N false) (gate_at c)

  -- a line of the first j gates that is marked
  marked-to : (j : ℕ) → j ≤ length c.gates → (i : ℕ) → get_or (R j) i false ≡ true → Affected c k i
  unfolding lines
  marked-to zero h i e = absurd (true≢false (sym e ∙ pad_read [] N i false))
  marked-to (suc j) h i e =
      let z = length-replicate N false in
      ⊎_elim
      (λ p. marked-to j (omega arith) i (sym (lines_one (reach_step k) false (replicate N false) (gate_at c) j i (omega arith)) ∙ e))
      (⊎_elim
      (λ q. by (eqb j k) refl q (sym (lines_at (reach_step k) false (replicate N false) (gate_at c) j i (omega arith)) ∙ e) (marked-to j (omega arith)))
      (λ p. absurd (true≢false (sym e ∙ get_or-eq_default (R (suc j)) false (omega (arith, lines_length (reach_step k) false (replicate N false) (gate_at c) (suc j)))))))
      (place i (N + j)) where
        by : (t : Bool) → eqb j k ≡ t → i ≡ N + j → hits j ≡ true → ((i : ℕ) → get_or (R j) i false ≡ true → Affected c k i) → Affected c k i
        by true t q e rest = Affected.own (q ∙ ap (λ (x : ℕ). N + x) (eqb-true j k t))
        by false t q e rest =
            let s = some_of (λ (i : ℕ). get_or (R j) i false) (reads (gate_at c j))
            (sym (ap (λ (t : Bool). t || any_of (map (λ (i : ℕ). get_or (R j) i false) (reads (gate_at c j)))) t) ∙ e) in
            Affected.through j s.0 q h s.1.0 (rest s.0 s.1.1)

  pub marked_affected : (i : ℕ) → get_or (readers_of c k) i false ≡ true → Affected c k i
  marked_affected i e = marked-to (length c.gates) (omega arith) i e

  -- ---- affected is marked, where gates read lines below their own

  module _ (below : AllBelow c.inputs (length c.gates) (gate_at c)) (there : k < length c.gates) where
    line_is : (j i : ℕ) → j < length c.gates → i ≡ N + j → get_or (readers_of c k) i false ≡ hits j
    line_is j i h q =
        let z = length-replicate N false in
        lines_more (reach_step k) false (replicate N false) (gate_at c) (suc j) i (omega arith) (length c.gates) (omega arith)
        ∙ lines_at (reach_step k) false (replicate N false) (gate_at c) j i (omega arith)

    pub affected_marked : (i : ℕ) → Affected c k i → get_or (readers_of c k) i false ≡ true
    affected_marked i (Affected.own q) =
        line_is k i there q ∙ ap (λ (t : Bool). t || any_of (map (λ (i : ℕ). get_or (R k) i false) (reads (gate_at c k)))) (eq-eqb k k refl)
    affected_marked i (Affected.through j r q h m a) =
        let o = below j h in
        let l = below_at (N + j) r (reads (gate_at c j)) (reads_below (N + j) (gate_at c j) o.0 o.1).0 m in
        let z = length-replicate N false in
        let e : get_or (R j) r false ≡ true =
        sym (lines_more (reach_step k) false (replicate N false) (gate_at c) j r (omega arith) (length c.gates) (omega arith)) ∙ affected_marked r a in
        line_is j i h q ∙ ap (λ (t : Bool). eqb j k || t) (any-of (λ (i : ℕ). get_or (R j) i false) r (reads (gate_at c j)) m e) ∙ or-true (eqb j k) where
          or-true : (t : Bool) → (t || true) ≡ true
          or-true true = refl
          or-true false = refl

    -- ---- the list of lines that an edit answers: each affected line, and no other

    pub affected_listed : (i : ℕ) → Affected c k i → Memᴰ i (places_from 0 (readers_of c k))
    affected_listed i a = marked-listed (readers_of c k) i (affected_marked i a)

  pub listed_affected : (i : ℕ) → Memᴰ i (places_from 0 (readers_of c k)) → Affected c k i
  listed_affected i m = marked_affected i (listed-marked (readers_of c k) i m)

-- ---- the same of the array and the count that an edit answers

-- what stands at a place of a list is a member
mem_at : (l : List ℕ) (j : ℕ) → j < length l → Memᴰ (get_or l j 0) l
mem_at [] j h = absurd (omega arith)
mem_at (x ∷ l) zero h = Memᴰ.head refl
mem_at (x ∷ l) (suc j) h = Memᴰ.tail (mem_at l j (omega arith))

-- a member stands at a place
at_mem : (x : ℕ) (l : List ℕ) → Memᴰ x l → (j : ℕ) × ((j < length l) × (get_or l j 0 ≡ x))
at_mem x [] m = absurd (Memᴰ.not-nil m)
at_mem x (y ∷ l) m = go (Memᴰ.cases_cons m) (at_mem x l) where
  go : (x ≡ y) ⊎ Memᴰ x l → (Memᴰ x l → (j : ℕ) × ((j < length l) × (get_or l j 0 ≡ x))) → (j : ℕ) × ((j < length (y ∷ l)) × (get_or (y ∷ l) j 0 ≡ x))
  go (inl e) rest = (0, (omega arith, sym e))
  go (inr m) rest = let r = rest m in (suc r.0, (omega (arith, r.1.0), r.1.1))

-- the first `count` of an edit's lines are the affected ones: each once, in ascending order, no other, and zeros past the last
pub record Lists (c : Listing) (k : ℕ) (lines : List ℕ) (count : ℕ) : Type 0 where
  pub each : (j : ℕ) → j < count → Affected c k (get_or lines j 0)
  pub every : (i : ℕ) → Affected c k i → (j : ℕ) × ((j < count) × (get_or lines j 0 ≡ i))
  pub ascends : (a b : ℕ) → a < b → b < count → get_or lines a 0 < get_or lines b 0
  pub rest : (j : ℕ) → count ≤ j → get_or lines j 0 ≡ 0

pub reworking_lists : (c : Listing) (k : ℕ) → AllBelow c.inputs (length c.gates) (gate_at c) → k < length c.gates
    → let e = reworking (readers_of c k) in Lists c k e.lines e.count
reworking_lists c k below there =
    let marks = readers_of c k in
    let l = places_from 0 marks in
    let n = size_places 0 marks in
    let at : (j : ℕ) → get_or (padded most_lines 0 l) j 0 ≡ get_or l j 0 = λ j. pad_read l (most_lines - length l) j 0 in
    record {
      each = λ j h. listed_affected c k _ (Memᴰ.cast (at j) (mem_at l j (omega arith)));
      every = λ i a. let r = at_mem i l (affected_listed c k below there i a) in (r.0, (omega (arith, r.1.0), at r.0 ∙ r.1.1));
      ascends = λ a b h m. omega (arith, at a, at b, places_ascend 0 marks a b h (omega arith));
      rest = λ j h. at j ∙ get_or-eq_default l 0 (omega arith);
    }

-- an accepted replacement of gate k answers that gate's line and every line that reads it, directly or through others, and no more
pub gate_edit_lists : (s : State) (k kind a b : ℕ) → Sound s → gate_edit_answer (present s) k kind a b ≡ done
    → let e = listed_in (gate_edit (present s) k kind a b) in Lists s.circuit k e.lines e.count
gate_edit_lists s k kind a b ok h =
    let c = s.circuit in
    let only = is_matrix s.target in
    subst (λ (x : Answer). let e = listed_in (edit_by x (readers_of c k)) in Lists c k e.lines e.count) (sym h)
    (reworking_lists c k (all_below only c (circuit_fits only c ok.circuit)) (edit_fits s k kind a b h).there)
