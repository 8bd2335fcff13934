-- Laws of the lines that outputs reach, of gates that are the same, and of one gate more. Assumes nothing.
use mathlib.Core.Path.{◌≡◌, refl, ap, ap₂, ◌∙◌, sym, subst}
use mathlib.Core.Bool.{Bool, true, false, cond, ◌&&◌, ◌||◌, true≢false}
use mathlib.Core.Logic.{◌⊎◌, inl, inr, ⊎_elim}
use mathlib.Core.List.{List, [], ◌∷◌, ◌++◌, map}
use Prim.Native.Nat.{ℕ, zero, suc, ◌+◌, ◌≤◌, ◌<◌}
use native.Mathlib.Omega.{arith}
use lib.Dec.{eqb}
use lib.ListN.{length, get_or, take, drop, length-append, take-append-drop, get_or-append}
use lib.Seq.{get_or_at, length-take-le}
use borrow.Author.Tests.{eqb-true, eq-eqb}
use Rattle.circuit.specs.Lines.{Gate, gate, no_gate, reads}
use Rattle.circuit.proofs.Shapes.{both}
use Rattle.circuit.proofs.Keep.{Below}
use Rattle.circuit.proofs.LineLaws.{place as place_of}
use Rattle.circuit.proofs.Operands.{reads_two, reads_one, by_operands}
use Rattle.sweep.specs.Sweep.{has, back, other_way, are_same_lines, same_gate, place, joined, renamed}

pub lt-or-le : (a b : ℕ) → (a < b) ⊎ (b ≤ a)
lt-or-le a b = ⊎_elim (λ h. inl h) (λ k. inr (⊎_elim (λ e. omega arith) (λ h. omega arith) k)) (place_of a b)

-- ---- numbers among some

pub either : (a b : Bool) → (a || b) ≡ true → (a ≡ true) ⊎ (b ≡ true)
either true b h = inl refl
either false b h = inr h

pub or_right : (a b : Bool) → b ≡ true → (a || b) ≡ true
or_right true b h = refl
or_right false b h = h

pub has_left : (xs ys : List ℕ) (i : ℕ) → has xs i ≡ true → has (xs ++ ys) i ≡ true
unfolding has
has_left [] ys i h = absurd (true≢false (sym h))
has_left (x ∷ xs) ys i h =
    ⊎_elim (λ e. ap (λ (t : Bool). t || has (xs ++ ys) i) e) (λ e. or_right (eqb x i) _ (has_left xs ys i e)) (either (eqb x i) (has xs i) h)

pub has_right : (xs ys : List ℕ) (i : ℕ) → has ys i ≡ true → has (xs ++ ys) i ≡ true
unfolding has
has_right [] ys i h = h
has_right (x ∷ xs) ys i h = or_right (eqb x i) _ (has_right xs ys i h)

pub has_cases : (xs ys : List ℕ) (i : ℕ) → has (xs ++ ys) i ≡ true → (has xs i ≡ true) ⊎ (has ys i ≡ true)
unfolding has
has_cases [] ys i h = inr h
has_cases (x ∷ xs) ys i h =
    ⊎_elim (λ e. inl (ap (λ (t : Bool). t || has xs i) e))
    (λ e. ⊎_elim (λ w. inl (or_right (eqb x i) _ w)) (λ w. inr w) (has_cases xs ys i e)) (either (eqb x i) (has (xs ++ ys) i) h)

pub has_below : (m : ℕ) (xs : List ℕ) (i : ℕ) → Below m xs → has xs i ≡ true → i < m
unfolding has
has_below m [] i b h = absurd (true≢false (sym h))
has_below m (x ∷ xs) i b h =
    ⊎_elim (λ e. subst (λ (y : ℕ). y < m) (eqb-true x i e) b.0) (λ e. has_below m xs i b.1 e) (either (eqb x i) (has xs i) h)

pub has-map : (f : ℕ → ℕ) (xs : List ℕ) (i : ℕ) → has xs i ≡ true → has (map f xs) (f i) ≡ true
unfolding has
has-map f [] i h = absurd (true≢false (sym h))
has-map f (x ∷ xs) i h =
    ⊎_elim (λ e. ap (λ (t : Bool). t || has (map f xs) (f i)) (eq-eqb (f x) (f i) (ap f (eqb-true x i e))))
    (λ e. or_right (eqb (f x) (f i)) _ (has-map f xs i e)) (either (eqb x i) (has xs i) h)

pub has_at : (xs : List ℕ) (k : ℕ) → k < length xs → has xs (get_or xs k 0) ≡ true
unfolding has
has_at [] k h = absurd (omega arith)
has_at (x ∷ xs) zero h = ap (λ (t : Bool). t || has xs x) (eq-eqb x x refl)
has_at (x ∷ xs) (suc k) h = or_right (eqb x (get_or xs k 0)) _ (has_at xs k (omega arith))

-- what holds of each holds of one that is among them
pub has_all : (P : ℕ → Type 0) (xs : List ℕ) → ((j : ℕ) → j < length xs → P (get_or xs j 0)) → (x : ℕ) → has xs x ≡ true → P x
unfolding has
has_all P [] h x m = absurd (true≢false (sym m))
has_all P (y ∷ xs) h x m =
    ⊎_elim (λ e. subst P (eqb-true y x e) (h 0 (omega arith))) (λ e. has_all P xs (λ j l. h (suc j) (omega arith)) x e) (either (eqb y x) (has xs x) m)

-- maps that agree on what is among some
pub map-has : {A : Type 0} (f h : ℕ → A) (rs : List ℕ) → ((r : ℕ) → has rs r ≡ true → f r ≡ h r) → map f rs ≡ map h rs
unfolding has
map-has f h [] e = refl
map-has {A} f h (r ∷ rs) e =
    ap₂ (λ (x : A) (l : List A). x ∷ l) (e r (ap (λ (t : Bool). t || has rs r) (eq-eqb r r refl))) (map-has f h rs (λ x m. e x (or_right (eqb r x) _ m)))

-- ---- what outputs reach

-- one gate: what is reached past it, and what it reads where its own line is
back_one : (q : Gate) (r : List ℕ) (line i : ℕ) → has r i ≡ true → has (cond (has r line) (reads q ++ r) r) i ≡ true
back_one q r line i h = go (has r line) where
  go : (t : Bool) → has (cond t (reads q ++ r) r) i ≡ true
  go true = has_right (reads q) r i h
  go false = h

-- the outputs' own lines are reached
pub back_outs : (line : ℕ) (qs : List Gate) (outs : List ℕ) (i : ℕ) → has outs i ≡ true → has (back line qs outs) i ≡ true
unfolding back
back_outs line [] outs i h = h
back_outs line (q ∷ qs) outs i h = back_one q (back (suc line) qs outs) line i (back_outs (suc line) qs outs i h)

-- each gate reads lines below its own
abbrev pub AllBelow : ℕ → List Gate → Type 0
AllBelow line qs = (j : ℕ) → j < length qs → Below (line + j) (reads (get_or qs j no_gate))

tail_below : (line : ℕ) (q : Gate) (qs : List Gate) → AllBelow line (q ∷ qs) → AllBelow (suc line) qs
tail_below line q qs b j h =
    let e : line + suc j ≡ suc line + j = omega arith in subst (λ (x : ℕ). Below x (reads (get_or qs j no_gate))) e (b (suc j) (omega arith))

-- what a gate reads is reached where its line is
pub back-reads : (line : ℕ) (qs : List Gate) (outs : List ℕ) → AllBelow line qs → (j : ℕ) → j < length qs → has (back line qs outs) (line + j) ≡ true
    → (r : ℕ) → has (reads (get_or qs j no_gate)) r ≡ true → has (back line qs outs) r ≡ true
unfolding back
back-reads line [] outs b j l h r m = absurd (omega arith)
back-reads line (q ∷ qs) outs b zero l h r m =
    let e : line + 0 ≡ line = omega arith in go (has rest line) refl (subst (λ (x : ℕ). has (cond (has rest line) (reads q ++ rest) rest) x ≡ true) e h) where
      rest : List ℕ
      rest = back (suc line) qs outs

      go : (t : Bool) → has rest line ≡ t → has (cond t (reads q ++ rest) rest) line ≡ true → has (cond t (reads q ++ rest) rest) r ≡ true
      go true e k = has_left (reads q) rest r m
      go false e k = absurd (true≢false (sym k ∙ e))
back-reads line (q ∷ qs) outs b (suc j) l h r m =
    let e : line + suc j ≡ suc line + j = omega arith in
    let k : has rest (line + suc j) ≡ true = go (has rest line) h in
    back_one q rest line r (back-reads (suc line) qs outs (tail_below line q qs b) j (omega arith) (subst (λ (x : ℕ). has rest x ≡ true) e k) r m) where
      rest : List ℕ
      rest = back (suc line) qs outs

      go : (t : Bool) → has (cond t (reads q ++ rest) rest) (line + suc j) ≡ true → has rest (line + suc j) ≡ true
      go true k =
          ⊎_elim
          (λ w. let z : Below line (reads q) = let e : line + 0 ≡ line = omega arith in subst (λ (x : ℕ). Below x (reads q)) e (b 0 (omega arith)) in
          absurd (omega (arith, has_below line (reads q) (line + suc j) z w)))
          (λ w. w) (has_cases (reads q) rest (line + suc j) k)
      go false k = k

-- what holds of each output's line, and of what a gate reads where it holds of its line, holds of each line that is reached
pub back-all : (P : ℕ → Type 0) (line : ℕ) (qs : List Gate) (outs : List ℕ) → ((o : ℕ) → has outs o ≡ true → P o)
    → ((j : ℕ) → j < length qs → P (line + j) → (r : ℕ) → has (reads (get_or qs j no_gate)) r ≡ true → P r)
    → (i : ℕ) → has (back line qs outs) i ≡ true → P i
unfolding back
back-all P line [] outs o s i h = o i h
back-all P line (q ∷ qs) outs o s i h =
    go (back-all P (suc line) qs outs o (λ j l p. s (suc j) (omega arith) (let e : suc line + j ≡ line + suc j = omega arith in subst P e p)))
    (has rest line) refl h where
      rest : List ℕ
      rest = back (suc line) qs outs

      go : ((i : ℕ) → has rest i ≡ true → P i) → (t : Bool) → has rest line ≡ t → has (cond t (reads q ++ rest) rest) i ≡ true → P i
      go later true e k =
          ⊎_elim (λ w. s 0 (omega arith) (let z : line ≡ line + 0 = omega arith in subst P z (later line e)) i w) (λ w. later i w)
          (has_cases (reads q) rest i k)
      go later false e k = later i k

-- ---- gates that are the same

other_map : {A B : Type 0} (f : A → B) (xs : List A) → map f (other_way xs) ≡ other_way (map f xs)
unfolding other_way
other_map f [] = refl
other_map f (a ∷ []) = refl
other_map f (a ∷ b ∷ []) = refl
other_map f (a ∷ b ∷ c ∷ xs) = refl

pub has_other : (xs : List ℕ) (i : ℕ) → has xs i ≡ true → has (other_way xs) i ≡ true
unfolding has other_way
has_other [] i h = h
has_other (a ∷ []) i h = h
has_other (a ∷ b ∷ []) i h = swap (eqb a i) (eqb b i) h where
  swap : (s t : Bool) → (s || (t || false)) ≡ true → (t || (s || false)) ≡ true
  swap true true h = refl
  swap true false h = refl
  swap false true h = refl
  swap false false h = h
has_other (a ∷ b ∷ c ∷ xs) i h = h

pub lines_same : (xs ys : List ℕ) → are_same_lines xs ys ≡ true → xs ≡ ys
unfolding are_same_lines
lines_same [] [] h = refl
lines_same [] (y ∷ ys) h = absurd (true≢false (sym h))
lines_same (x ∷ xs) [] h = absurd (true≢false (sym h))
lines_same (x ∷ xs) (y ∷ ys) h =
    let k = both (eqb x y) h in ap₂ (λ (a : ℕ) (l : List ℕ). a ∷ l) (eqb-true x y k.0) (lines_same xs ys k.1)

lines_self : (xs : List ℕ) → are_same_lines xs xs ≡ true
unfolding are_same_lines
lines_self [] = refl
lines_self (x ∷ xs) = ap₂ ◌&&◌ (eq-eqb x x refl) (lines_self xs)

-- what it is to be the same
pub record Alike (p q : Gate) : Type 0 where
  pub kinds : p.kind ≡ q.kind
  pub operands : (reads q ≡ reads p) ⊎ (reads q ≡ other_way (reads p))

pub alike : (p q : Gate) → same_gate p q ≡ true → Alike p q
unfolding same_gate
alike p q h =
    let k = both (eqb p.kind q.kind) h in
    record {
      kinds = eqb-true _ _ k.0;
      operands =
          ⊎_elim (λ e. inl (sym (lines_same (reads p) (reads q) e))) (λ e. inr (sym (lines_same (other_way (reads p)) (reads q) e)))
          (either (are_same_lines (reads p) (reads q)) _ k.1);
    }

pub same_alike : (p q : Gate) → Alike p q → same_gate p q ≡ true
unfolding same_gate
same_alike p q a =
    ap₂ ◌&&◌ (eq-eqb p.kind q.kind a.kinds)
    (⊎_elim (λ e. ap (λ (t : Bool). t || are_same_lines (other_way (reads p)) (reads q)) (ap (are_same_lines (reads p)) e ∙ lines_self (reads p)))
    (λ e. or_right (are_same_lines (reads p) (reads q)) _ (ap (are_same_lines (other_way (reads p))) e ∙ lines_self (other_way (reads p)))) a.operands)

pub same_self : (p : Gate) → same_gate p p ≡ true
same_self p = same_alike p p (record { kinds = refl; operands = inl refl })

-- ---- one gate more

module _ (p : Gate) where
  pub place-le : (qs : List Gate) → place p qs ≤ length qs
  unfolding place
  place-le [] = omega arith
  place-le (q ∷ qs) = go (same_gate p q) (place-le qs) where
    go : (t : Bool) → place p qs ≤ length qs → cond t 0 (suc (place p qs)) ≤ suc (length qs)
    go true r = omega arith
    go false r = omega arith

  -- the gate at the place is the same, and none before it is
  pub place_found : (qs : List Gate) → place p qs < length qs → same_gate p (get_or qs (place p qs) no_gate) ≡ true
  unfolding place
  place_found [] h = absurd (omega arith)
  place_found (q ∷ qs) h = go (same_gate p q) refl (place_found qs) h where
    go : (t : Bool) → same_gate p q ≡ t → (place p qs < length qs → same_gate p (get_or qs (place p qs) no_gate) ≡ true)
        → cond t 0 (suc (place p qs)) < suc (length qs) → same_gate p (get_or (q ∷ qs) (cond t 0 (suc (place p qs))) no_gate) ≡ true
    go true e r h = e
    go false e r h = r (omega arith)

  pub place_before : (qs : List Gate) (i : ℕ) → i < place p qs → same_gate p (get_or qs i no_gate) ≡ false
  unfolding place
  place_before [] i h = absurd (omega arith)
  place_before (q ∷ qs) i h = go (same_gate p q) refl (place_before qs) i h where
    go : (t : Bool) → same_gate p q ≡ t → ((i : ℕ) → i < place p qs → same_gate p (get_or qs i no_gate) ≡ false)
        → (i : ℕ) → i < cond t 0 (suc (place p qs)) → same_gate p (get_or (q ∷ qs) i no_gate) ≡ false
    go true e r i h = absurd (omega arith)
    go false e r zero h = e
    go false e r (suc i) h = r i (omega arith)

  -- among more gates: where it was found it is found, and where not it is sought past them
  pub place_more : (qs rs : List Gate) → place p qs < length qs → place p (qs ++ rs) ≡ place p qs
  unfolding place
  place_more [] rs h = absurd (omega arith)
  place_more (q ∷ qs) rs h = go (same_gate p q) (place_more qs rs) h where
    go : (t : Bool) → (place p qs < length qs → place p (qs ++ rs) ≡ place p qs)
        → cond t 0 (suc (place p qs)) < suc (length qs) → cond t 0 (suc (place p (qs ++ rs))) ≡ cond t 0 (suc (place p qs))
    go true r h = refl
    go false r h = ap suc (r (omega arith))

  pub place-past : (qs rs : List Gate) → place p qs ≡ length qs → place p (qs ++ rs) ≡ length qs + place p rs
  unfolding place
  place-past [] rs h = omega arith
  place-past (q ∷ qs) rs h = go (same_gate p q) (place-past qs rs) h where
    go : (t : Bool) → (place p qs ≡ length qs → place p (qs ++ rs) ≡ length qs + place p rs)
        → cond t 0 (suc (place p qs)) ≡ suc (length qs) → cond t 0 (suc (place p (qs ++ rs))) ≡ suc (length qs) + place p rs
    go true r h = absurd (omega arith)
    go false r h = omega (arith, r (omega arith))

  -- where one is the same nothing changes, and where none is it comes last
  pub joined_cases : (qs : List Gate) → ((place p qs < length qs) × (joined p qs ≡ qs)) ⊎ ((place p qs ≡ length qs) × (joined p qs ≡ qs ++ (p ∷ [])))
  unfolding place joined
  joined_cases [] = inr (refl, refl)
  joined_cases (q ∷ qs) = go (same_gate p q) (joined_cases qs) where
    go : (t : Bool) → ((place p qs < length qs) × (joined p qs ≡ qs)) ⊎ ((place p qs ≡ length qs) × (joined p qs ≡ qs ++ (p ∷ [])))
        → ((cond t 0 (suc (place p qs)) < suc (length qs)) × (cond t (q ∷ qs) (q ∷ joined p qs) ≡ q ∷ qs))
        ⊎ ((cond t 0 (suc (place p qs)) ≡ suc (length qs)) × (cond t (q ∷ qs) (q ∷ joined p qs) ≡ q ∷ (qs ++ (p ∷ []))))
    go true r = inl (omega arith, refl)
    go false r =
        ⊎_elim (λ w. inl (omega (arith, w.0), ap (λ (l : List Gate). q ∷ l) w.1)) (λ w. inr (ap suc w.0, ap (λ (l : List Gate). q ∷ l) w.1)) r

  -- what follows from the two cases: the gates stay, at most one comes, and at the place stands one that is the same
  pub record Joined (qs rs : List Gate) : Type 0 where
    pub grows : length qs ≤ length rs
    pub one : length rs ≤ suc (length qs)
    pub stays : (i : ℕ) → i < length qs → get_or rs i no_gate ≡ get_or qs i no_gate
    pub there : place p qs < length rs
    pub same : same_gate p (get_or rs (place p qs) no_gate) ≡ true

  pub joined_is : (qs : List Gate) → Joined qs (joined p qs)
  joined_is qs =
      ⊎_elim
      (λ w. subst (Joined qs) (sym w.1) (record { grows = omega arith; one = omega arith; stays = λ i h. refl; there = w.0; same = place_found qs w.0 }))
      (λ w. let l = length-append qs (p ∷ []) in
      subst (Joined qs) (sym w.1)
      (record {
        grows = omega arith;
        one = omega arith;
        stays = λ i h. get_or-append qs (p ∷ []) no_gate i h;
        there = omega (arith, w.0);
        same = ap (same_gate p) (get_or_at qs p [] no_gate (place p qs) (sym w.0)) ∙ same_self p;
      }))
      (joined_cases qs)

-- each gate is the first of those that are the same
abbrev pub Firsts : List Gate → Type 0
Firsts qs = (k : ℕ) → k < length qs → place (get_or qs k no_gate) qs ≡ k

place_one : (p : Gate) → place p (p ∷ []) ≡ 0
unfolding place
place_one p = ap (λ (t : Bool). cond t 0 1) (same_self p)

pub joined_firsts : (p : Gate) (qs : List Gate) → Firsts qs → Firsts (joined p qs)
joined_firsts p qs f = ⊎_elim (λ w. subst Firsts (sym w.1) f) (λ w. subst Firsts (sym w.1) (last w.0)) (joined_cases p qs) where
  last : place p qs ≡ length qs → Firsts (qs ++ (p ∷ []))
  last e k h =
      let l = length-append qs (p ∷ []) in
      ⊎_elim
      (λ b. let g = get_or-append qs (p ∷ []) no_gate k b in
      ap (λ (x : Gate). place x (qs ++ (p ∷ []))) g ∙ place_more (get_or qs k no_gate) qs (p ∷ []) (omega (arith, f k b)) ∙ f k b)
      (λ b. let z : k ≡ length qs = omega arith in
      ap (λ (x : Gate). place x (qs ++ (p ∷ []))) (get_or_at qs p [] no_gate k (sym z)) ∙ place-past p qs (p ∷ []) e ∙ (omega (arith, place_one p)))
      (lt-or-le k (length qs))

-- so no two are the same
pub firsts_differ : (qs : List Gate) → Firsts qs → (i k : ℕ) → i < k → k < length qs → same_gate (get_or qs k no_gate) (get_or qs i no_gate) ≡ false
firsts_differ qs f i k h l = place_before (get_or qs k no_gate) qs i (omega (arith, f k l))

-- a gate of such a list is not among those before it
pub firsts_before : (qs : List Gate) → Firsts qs → (k : ℕ) → k < length qs → place (get_or qs k no_gate) (take k qs) ≡ k
firsts_before qs f k h =
    let p = get_or qs k no_gate in
    let l = length-take-le k qs (omega arith) in
    ⊎_elim
    (λ b. let z : place p qs ≡ place p (take k qs) = ap (place p) (sym (take-append-drop k qs)) ∙ place_more p (take k qs) (drop k qs) b in
    absurd (omega (arith, f k h)))
    (λ b. omega (arith, place-le p (take k qs))) (lt-or-le (place p (take k qs)) (length (take k qs)))

-- ---- other numbers for the lines

pub renamed_two : (f : ℕ → ℕ) (q : Gate) → q.kind ≤ 5 → renamed f q ≡ gate q.kind (f q.left) (f q.right)
unfolding renamed
renamed_two f q h = ap (λ (rs : List ℕ). gate q.kind (get_or (map f rs) 0 0) (get_or (map f rs) 1 0)) (reads_two q h)

pub renamed_one : (f : ℕ → ℕ) (q : Gate) → 6 ≤ q.kind → renamed f q ≡ gate q.kind (f q.left) 0
unfolding renamed
renamed_one f q h = ap (λ (rs : List ℕ). gate q.kind (get_or (map f rs) 0 0) (get_or (map f rs) 1 0)) (reads_one q h)

pub reads-renamed : (f : ℕ → ℕ) (q : Gate) → reads (renamed f q) ≡ map f (reads q)
reads-renamed f q =
    by_operands (λ (q : Gate). reads (renamed f q) ≡ map f (reads q)) q
    (λ h. ap reads (renamed_two f q h) ∙ reads_two (gate q.kind (f q.left) (f q.right)) h ∙ sym (ap (map f) (reads_two q h)))
    (λ h. ap reads (renamed_one f q h) ∙ reads_one (gate q.kind (f q.left) 0) h ∙ sym (ap (map f) (reads_one q h)))
