-- Laws of the sweep as it goes over the gates one by one, whichever lines are reached. Assumes nothing.
use mathlib.Core.Path.{◌≡◌, refl, ap, ◌∙◌, sym, subst}
use mathlib.Core.Bool.{Bool, true, false}
use mathlib.Core.Logic.{⊎_elim}
use mathlib.Core.List.{List, [], ◌∷◌, ◌++◌, map}
use Prim.Native.Nat.{ℕ, zero, suc, ◌+◌, ◌≤◌, ◌<◌}
use native.Mathlib.Omega.{arith}
use native.Mathlib.Decide.{le_ind}
use lib.ListN.{length, get_or, length-append, get_or-append, get_or-eq_default}
use lib.Seq.{get_or_at}
use Rattle.circuit.specs.Lines.{Gate, no_gate, reads, upto}
use Rattle.circuit.proofs.Keep.{Below}
use Rattle.circuit.proofs.LineLaws.{snoc_all}
use Rattle.circuit.proofs.Upto.{upto-length, upto_at}
use Rattle.sweep.specs.Sweep.{same_gate, place, joined, renamed, Sweep, to, turned, sweep_to}
use Rattle.sweep.proofs.SameLaws.{lt-or-le, has_below, map-has, joined_cases, joined_is, Firsts, joined_firsts, reads-renamed}

-- maps that agree below m agree on lines below m
pub map_below : {A : Type 0} (f h : ℕ → A) (m : ℕ) → ((i : ℕ) → i < m → f i ≡ h i) → (rs : List ℕ) → Below m rs → map f rs ≡ map h rs
map_below f h m e rs b = map-has f h rs (λ r l. e r (has_below m rs r b l))

module _ (n : ℕ) (live : ℕ → Bool) (gates : ℕ → Gate) where
  -- the sweep after j gates, and gate j as it is then sought among those kept
  abbrev pub At : ℕ → Sweep
  At j = sweep_to n live gates j

  abbrev pub put : ℕ → Gate
  put j = renamed (to (At j)) (gates j)

  abbrev pub placed : ℕ → ℕ
  placed j = place (put j) (At j).kept

  -- one gate more, kept or merged, or dropped
  pub turn_kept : (j : ℕ) → live (n + j) ≡ true → At (suc j) ≡ record { kept = joined (put j) (At j).kept; new = (At j).new ++ ((n + placed j) ∷ []) }
  unfolding sweep_to turned
  turn_kept j e = ap (λ (t : Bool). turned n t (gates j) (At j)) e

  pub turn_dropped : (j : ℕ) → live (n + j) ≡ false → At (suc j) ≡ record { kept = (At j).kept; new = (At j).new ++ (0 ∷ []) }
  unfolding sweep_to turned
  turn_dropped j e = ap (λ (t : Bool). turned n t (gates j) (At j)) e

  -- what is so of the kept gates, and of the new lines, whichever it was
  pub by_turn : (P : Sweep → Type 0) (j : ℕ)
      → (live (n + j) ≡ true → P (record { kept = joined (put j) (At j).kept; new = (At j).new ++ ((n + placed j) ∷ []) }))
      → (live (n + j) ≡ false → P (record { kept = (At j).kept; new = (At j).new ++ (0 ∷ []) })) → P (At (suc j))
  by_turn P j k d = go (live (n + j)) refl where
    go : (t : Bool) → live (n + j) ≡ t → P (At (suc j))
    go true e = subst P (sym (turn_kept j e)) (k e)
    go false e = subst P (sym (turn_dropped j e)) (d e)

  pub new_length : (j : ℕ) → length (At j).new ≡ n + j
  unfolding sweep_to
  new_length zero = omega (arith, upto-length (λ (i : ℕ). i) n)
  new_length (suc j) =
      let r = new_length j in
      by_turn (λ s. length s.new ≡ n + suc j) j (λ e. omega (arith, length-append (At j).new ((n + placed j) ∷ [])))
      (λ e. omega (arith, length-append (At j).new (0 ∷ [])))

  -- new lines stay as they are
  new_one : (j i : ℕ) → i < n + j → to (At (suc j)) i ≡ to (At j) i
  new_one j i h =
      let l = new_length j in
      by_turn (λ s. to s i ≡ to (At j) i) j (λ e. get_or-append (At j).new ((n + placed j) ∷ []) 0 i (omega arith))
      (λ e. get_or-append (At j).new (0 ∷ []) 0 i (omega arith))

  pub new_more : (j i : ℕ) → i < n + j → (g : ℕ) → j ≤ g → to (At g) i ≡ to (At j) i
  new_more j i h g = le_ind (λ (m : ℕ). to (At m) i ≡ to (At j) i) refl (λ m k e. new_one m i (omega arith) ∙ e) g

  -- inputs keep theirs
  pub new_input : (j i : ℕ) → i < n → to (At j) i ≡ i
  unfolding sweep_to
  new_input j i h = new_more 0 i (omega arith) j (omega arith) ∙ upto_at (λ (i : ℕ). i) 0 n i h

  -- kept gates stay as they are, and at most one comes
  pub record Grown (s t : Sweep) : Type 0 where
    pub grows : length s.kept ≤ length t.kept
    pub one : length t.kept ≤ suc (length s.kept)
    pub stays : (i : ℕ) → i < length s.kept → get_or t.kept i no_gate ≡ get_or s.kept i no_gate

  pub grown : (j : ℕ) → Grown (At j) (At (suc j))
  grown j =
      by_turn (Grown (At j)) j (λ e. let w = joined_is (put j) (At j).kept in record { grows = w.grows; one = w.one; stays = w.stays })
      (λ e. record { grows = omega arith; one = omega arith; stays = λ i h. refl })

  pub kept_more : (j i : ℕ) → i < length (At j).kept → (g : ℕ) → j ≤ g
      → (i < length (At g).kept) × (get_or (At g).kept i no_gate ≡ get_or (At j).kept i no_gate)
  kept_more j i h g =
      le_ind (λ (m : ℕ). (i < length (At m).kept) × (get_or (At m).kept i no_gate ≡ get_or (At j).kept i no_gate)) (h, refl)
      (λ m k e. let w = grown m in (omega (arith, e.0, w.grows), w.stays i e.0 ∙ e.1)) g

  -- at most as many as there were
  pub kept_few : (j : ℕ) → length (At j).kept ≤ j
  unfolding sweep_to
  kept_few zero = omega arith
  kept_few (suc j) = omega (arith, kept_few j, (grown j).one)

  -- no two are the same
  pub kept_firsts : (j : ℕ) → Firsts (At j).kept
  unfolding sweep_to
  kept_firsts zero = λ k h. absurd (omega arith)
  kept_firsts (suc j) = let r = kept_firsts j in by_turn (λ s. Firsts s.kept) j (λ e. joined_firsts (put j) (At j).kept r) (λ e. r)

  -- what is so of each gate as it is kept is so of each kept gate at its place
  pub kept_all : (P : ℕ → Gate → Type 0) (j : ℕ) → ((i : ℕ) → i < j → live (n + i) ≡ true → placed i ≡ length (At i).kept → P (length (At i).kept) (put i))
      → (k : ℕ) → k < length (At j).kept → P k (get_or (At j).kept k no_gate)
  unfolding sweep_to
  kept_all P zero p = λ k h. absurd (omega arith)
  kept_all P (suc j) p =
      let r = kept_all P j (λ i h. p i (omega arith)) in
      by_turn (λ s. (k : ℕ) → k < length s.kept → P k (get_or s.kept k no_gate)) j
      (λ e. ⊎_elim (λ w. subst (λ (l : List Gate). (k : ℕ) → k < length l → P k (get_or l k no_gate)) (sym w.1) r)
      (λ w. subst (λ (l : List Gate). (k : ℕ) → k < length l → P k (get_or l k no_gate)) (sym w.1) (last r (p j (omega arith) e w.0)))
      (joined_cases (put j) (At j).kept))
      (λ e. r) where
        last : ((k : ℕ) → k < length (At j).kept → P k (get_or (At j).kept k no_gate)) → P (length (At j).kept) (put j)
            → (k : ℕ) → k < length ((At j).kept ++ (put j ∷ [])) → P k (get_or ((At j).kept ++ (put j ∷ [])) k no_gate)
        last r q k h =
            let l = length-append (At j).kept (put j ∷ []) in
            ⊎_elim (λ b. subst (P k) (sym (get_or-append (At j).kept (put j ∷ []) no_gate k b)) (r k b))
            (λ b. let z : k ≡ length (At j).kept = omega arith in
            subst (P k) (sym (get_or_at (At j).kept (put j) [] no_gate k (sym z))) (subst (λ (x : ℕ). P x (put j)) (sym z) q))
            (lt-or-le k (length (At j).kept))

  -- where a gate that is reached went
  pub record Merged (j g : ℕ) : Type 0 where
    pub line : to (At g) (n + j) ≡ n + placed j
    pub there : placed j < length (At g).kept
    pub same : same_gate (put j) (get_or (At g).kept (placed j) no_gate) ≡ true

  pub merged : (j g : ℕ) → j < g → live (n + j) ≡ true → Merged j g
  merged j g h e =
      let w = joined_is (put j) (At j).kept in
      let t = turn_kept j e in
      let k = ap (λ (s : Sweep). s.kept) t in
      let m = kept_more (suc j) (placed j) (subst (λ (l : List Gate). placed j < length l) (sym k) w.there) g (omega arith) in
      record {
        line = new_more (suc j) (n + j) (omega arith) g (omega arith) ∙ ap (λ (s : Sweep). to s (n + j)) t ∙ get_or_at (At j).new (n + placed j) [] 0 (n + j) (new_length j);
        there = m.0;
        same = ap (same_gate (put j)) (m.1 ∙ ap (λ (l : List Gate). get_or l (placed j) no_gate) k) ∙ w.same;
      }

  -- its operands are the new lines of what it reads
  pub put_reads : (j g : ℕ) → j ≤ g → Below (n + j) (reads (gates j)) → reads (put j) ≡ map (to (At g)) (reads (gates j))
  put_reads j g h b = reads-renamed (to (At j)) (gates j) ∙ map_below (to (At j)) (to (At g)) (n + j) (λ i l. sym (new_more j i l g h)) (reads (gates j)) b

  -- each kept gate comes from one that is reached: k gates were kept before it
  pub record From (k : ℕ) (q : Gate) (j : ℕ) : Type 0 where
    pub gate_no : ℕ
    pub before : gate_no < j
    pub lives : live (n + gate_no) ≡ true
    pub line : to (At j) (n + gate_no) ≡ n + k
    pub fresh : length (At gate_no).kept ≡ k
    pub is : q ≡ put gate_no

  pub kept_from : (j k : ℕ) → k < length (At j).kept → From k (get_or (At j).kept k no_gate) j
  kept_from j =
      kept_all (λ (k : ℕ) (q : Gate). From k q j) j
      (λ i l e z. record { gate_no = i; before = l; lives = e; line = (merged i j l e).line ∙ ap (λ (x : ℕ). n + x) z; fresh = refl; is = refl })

  -- it is the first of those that are merged: any before it goes to a lower line
  pub kept_first : {k j : ℕ} {q : Gate} (w : From k q j) (i : ℕ) → i < w.gate_no → live (n + i) ≡ true → to (At j) (n + i) < n + k
  kept_first {k} {j} w i h e =
      omega (arith, (merged i w.gate_no h e).there, w.fresh, (merged i j (lower i w.gate_no j h w.before) e).line) where
        lower : (a b c : ℕ) → a < b → b < c → a < c
        lower a b c p q = omega arith

  -- every new line is there
  pub lands : 1 ≤ n → (j i : ℕ) → to (At j) i < n + length (At j).kept
  unfolding sweep_to
  lands n1 zero = λ i.
      ⊎_elim (λ h. omega (arith, upto_at (λ (i : ℕ). i) 0 n i h))
      (λ h. omega (arith, get_or-eq_default (upto (λ (i : ℕ). i) n) 0 {n = i} (omega (arith, upto-length (λ (i : ℕ). i) n)))) (lt-or-le i n)
  lands n1 (suc j) =
      let r = lands n1 j in
      by_turn (λ s. (i : ℕ) → to s i < n + length s.kept) j
      (λ e. let w = joined_is (put j) (At j).kept in
      snoc_all (λ (x : ℕ). x < n + length (joined (put j) (At j).kept)) (At j).new (n + placed j) 0 (omega arith) (λ i. omega (arith, r i, w.grows)) (omega (arith, w.there)))
      (λ e. snoc_all (λ (x : ℕ). x < n + length (At j).kept) (At j).new 0 0 (omega arith) r (omega arith))
