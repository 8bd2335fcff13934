-- Laws of the keys of gates, and of the search for one among some. Assumes nothing.
use mathlib.Core.Path.{◌≡◌, refl, ap, ap₂, ◌∙◌, sym}
use mathlib.Core.Bool.{Bool, true, false, cond, ◌||◌}
use mathlib.Core.Logic.{◌⊎◌, inl, inr, ⊎_elim}
use mathlib.Core.List.{List, [], ◌∷◌, map}
use Prim.Native.Nat.{ℕ, zero, suc, ◌+◌, ◌*◌, ◌≤◌, ◌<◌, min, max}
use native.Mathlib.Omega.{arith}
use lib.Dec.{eqb}
use lib.ListN.{length, get_or, drop, drop_of_length-le}
use borrow.Author.Tests.{eqb-true, eqb-false, eq-eqb, ne_eqb}
use Rattle.circuit.specs.Lines.{Gate, no_gate, second_read, upto}
use Rattle.circuit.specs.Sizes.{held16}
use Rattle.circuit.proofs.LineLaws.{or-false}
use Rattle.circuit.proofs.Lists.{drop_at_next}
use Rattle.circuit.proofs.Operands.{reads_two, reads_one, by_operands, reads_below}
use Rattle.circuit.proofs.Upto.{upto-length, upto_at}
use Rattle.sweep.specs.Sweep.{other_way, same_gate, place}
use Rattle.sweep.specs.Parts.{keyed, key_of, first_at, Misses}
use Rattle.sweep.proofs.SameLaws.{lt-or-le, Alike, alike, same_alike}

-- ---- keys

-- numbers that keys have digits enough for
pub record Small (q : Gate) : Type 0 where
  pub left : q.left < held16
  pub right : q.right < held16

-- two lines are the same two, in either order
abbrev SameTwo : ℕ → ℕ → ℕ → ℕ → Type 0
SameTwo a b x y = ((x ≡ a) × (y ≡ b)) ⊎ ((x ≡ b) × (y ≡ a))

-- what two gates of one kind read, by the first and the second line of each
second_two : (q : Gate) → q.kind ≤ 5 → second_read q ≡ q.right
second_two q h = ap (λ (rs : List ℕ). get_or rs 1 q.left) (reads_two q h)

second_one : (q : Gate) → 6 ≤ q.kind → second_read q ≡ q.left
second_one q h = ap (λ (rs : List ℕ). get_or rs 1 q.left) (reads_one q h)

alike_two : (p q : Gate) → Alike p q → SameTwo p.left (second_read p) q.left (second_read q)
unfolding other_way
alike_two p q a =
    by_operands (λ (p : Gate). Alike p q → SameTwo p.left (second_read p) q.left (second_read q)) p
    (λ h a. let k : q.kind ≤ 5 = omega (arith, a.kinds) in
    let l = reads_two p h in
    let r = reads_two q k in
    let at : ℕ → List ℕ → ℕ = λ i rs. get_or rs i 0 in
    ⊎_elim
    (λ e. let z = sym r ∙ e ∙ l in inl (ap (at 0) z, second_two q k ∙ ap (at 1) z ∙ sym (second_two p h)))
    (λ e. let z = sym r ∙ e ∙ ap other_way l in inr (ap (at 0) z ∙ sym (second_two p h), second_two q k ∙ ap (at 1) z)) a.operands)
    (λ h a. let k : 6 ≤ q.kind = omega (arith, a.kinds) in
    let l = reads_one p h in
    let at : List ℕ → ℕ = λ rs. get_or rs 0 0 in
    let z : q.left ≡ p.left = ap at (sym (reads_one q k) ∙ ⊎_elim (λ e. e ∙ l) (λ e. e ∙ ap other_way l) a.operands) in
    inl (z, second_one q k ∙ z ∙ sym (second_one p h))) a

two_alike : (p q : Gate) → p.kind ≡ q.kind → SameTwo p.left (second_read p) q.left (second_read q) → Alike p q
unfolding other_way
two_alike p q e s =
    by_operands (λ (p : Gate). p.kind ≡ q.kind → SameTwo p.left (second_read p) q.left (second_read q) → Alike p q) p
    (λ h e s. let k : q.kind ≤ 5 = omega (arith, e) in
    let l = reads_two p h in
    let r = reads_two q k in
    record {
      kinds = e;
      operands =
          ⊎_elim
          (λ w. inl (r ∙ ap₂ (λ (x y : ℕ). x ∷ y ∷ []) w.0 (sym (second_two q k) ∙ w.1 ∙ second_two p h) ∙ sym l))
          (λ w. inr (r ∙ ap₂ (λ (x y : ℕ). x ∷ y ∷ []) (w.0 ∙ second_two p h) (sym (second_two q k) ∙ w.1) ∙ sym (ap other_way l))) s;
    })
    (λ h e s. let k : 6 ≤ q.kind = omega (arith, e) in
    let z : q.left ≡ p.left = ⊎_elim (λ w. w.0) (λ w. w.0 ∙ second_one p h) s in
    record { kinds = e; operands = inl (reads_one q k ∙ ap (λ (x : ℕ). x ∷ []) z ∙ sym (reads_one p h)) }) e s

-- a number has one last digit, and one number before it
before_digit : (k l a x : ℕ) → a < held16 → x < held16 → k * held16 + a ≡ l * held16 + x → k ≡ l
before_digit k l a x h j e =
    ⊎_elim (λ m. absurd (omega arith)) (λ m. ⊎_elim (λ w. absurd (omega arith)) (λ w. omega arith) (lt-or-le l k)) (lt-or-le k l)

-- so a key has one kind, and one pair of lines
key_digits : (k a b l x y : ℕ) → a < held16 → b < held16 → x < held16 → y < held16 → keyed k (min a b) (max a b) ≡ keyed l (min x y) (max x y)
    → (k ≡ l) × SameTwo a b x y
key_digits k a b l x y ha hb hx hy e =
    let f = before_digit (k * held16 + min a b) (l * held16 + min x y) (max a b) (max x y) (omega arith) (omega arith) e in
    let kind = before_digit k l (min a b) (min x y) (omega arith) (omega arith) f in
    let low : min a b ≡ min x y = omega arith in
    let high : max a b ≡ max x y = omega arith in (
      kind,
      ⊎_elim (λ h. ⊎_elim (λ m. inl (omega arith, omega arith)) (λ m. inr (omega arith, omega arith)) (lt-or-le x y))
          (λ h. ⊎_elim (λ m. inr (omega arith, omega arith)) (λ m. inl (omega arith, omega arith)) (lt-or-le x y)) (lt-or-le a b),
    )

-- gates that are the same have one key,
pub same_key : (p q : Gate) → same_gate p q ≡ true → key_of p ≡ key_of q
unfolding key_of
same_key p q t =
    let a = alike p q t in ⊎_elim (λ w. omega (arith, a.kinds, w)) (λ w. omega (arith, a.kinds, w)) (alike_two p q a)

-- and no others have
key_same : (p q : Gate) → Small p → Small q → key_of p ≡ key_of q → same_gate p q ≡ true
unfolding key_of
key_same p q sp sq e =
    let b = key_digits p.kind p.left (second_read p) q.kind q.left (second_read q) sp.left (reads_below held16 p sp.left sp.right).1
    sq.left (reads_below held16 q sq.left sq.right).1 e in
    same_alike p q (two_alike p q b.0 b.1)

key_test : (p q : Gate) → Small p → Small q → eqb (key_of p) (key_of q) ≡ same_gate p q
key_test p q sp sq = go (eqb (key_of p) (key_of q)) refl (same_gate p q) refl where
  go : (s : Bool) → eqb (key_of p) (key_of q) ≡ s → (t : Bool) → same_gate p q ≡ t → s ≡ t
  go true e t f = sym (key_same p q sp sq (eqb-true _ _ e)) ∙ f
  go false e true f = sym e ∙ eq-eqb _ _ (same_key p q f)
  go false e false f = refl

-- so a gate is found by its key
pub key_place : (p : Gate) (qs : List Gate) → Small p → ((k : ℕ) → k < length qs → Small (get_or qs k no_gate)) → first_at (key_of p) (map key_of qs) ≡ place p qs
unfolding first_at place
key_place p [] sp sq = refl
key_place p (q ∷ qs) sp sq =
    ap₂ (λ (t : Bool) (x : ℕ). cond t 0 (suc x)) (key_test p q sp (sq 0 (omega arith))) (key_place p qs sp (λ k h. sq (suc k) (omega arith)))

-- ---- the search for x among f 0, f 1, .., `count` of them
module _ (x : ℕ) (f : ℕ → ℕ) (count : ℕ) where
  -- the place from number i on
  abbrev pub first_from : ℕ → ℕ
  first_from i = first_at x (drop i (upto f count))

  -- it is number i, or one past it
  first_here : (i : ℕ) → i < count → first_from i ≡ cond (eqb x (f i)) 0 (suc (first_from (i + 1)))
  unfolding first_at
  first_here i h =
      ap (first_at x) (drop_at_next (upto f count) i 0 (omega (arith, upto-length f count)))
      ∙ ap (λ (y : ℕ). cond (eqb x y) 0 (suc (first_from (i + 1)))) (upto_at f 0 count i h)

  pub find_hit : (i : ℕ) → i < count → x ≡ f i → first_from i ≡ 0
  find_hit i h e = first_here i h ∙ ap (λ (s : Bool). cond s 0 (suc (first_from (i + 1)))) (eq-eqb x (f i) e)

  pub find_miss : (i : ℕ) → i < count → (x ≡ f i → ⊥) → first_from i ≡ suc (first_from (i + 1))
  find_miss i h e = first_here i h ∙ ap (λ (s : Bool). cond s 0 (suc (first_from (i + 1)))) (ne_eqb x (f i) e)

  pub find_end : (i : ℕ) → count ≤ i → first_from i ≡ 0
  unfolding first_at
  find_end i h = let l : length (upto f count) ≤ i = omega (arith, upto-length f count) in ap (first_at x) (drop_of_length-le (upto f count) l)

  -- numbers that are not x are passed over
  pub find_past : (i : ℕ) → i ≤ count → Misses x f 0 i → i + first_from i ≡ first_from 0
  find_past zero h e = omega arith
  find_past (suc i) h e =
      let z : i + 1 ≡ suc i = omega arith in
      let miss = find_miss i (omega arith) (e i (omega arith) (omega arith)) in
      omega (arith, find_past i (omega arith) (λ k a b. e k a (omega arith)), miss, ap first_from z)

-- ---- some numbers of which none is x
module _ (x : ℕ) (f : ℕ → ℕ) where
  -- one after the other
  pub misses_on : (i a b : ℕ) → Misses x f i a → Misses x f (i + a) b → Misses x f i (a + b)
  misses_on i a b p q k h l = ⊎_elim (λ m. p k h m) (λ m. q k m (omega arith)) (lt-or-le k (i + a))

  -- one number
  misses_one : (i : ℕ) → eqb (f i) x ≡ false → Misses x f i 1
  misses_one i e k h l z = let s : k ≡ i = omega arith in eqb-false (f i) x e (sym (z ∙ ap f s))

  -- four that are looked at together
  pub misses_four : (i : ℕ) → (((eqb (f i) x || eqb (f (i + 1)) x) || eqb (f (i + 2)) x) || eqb (f (i + 3)) x) ≡ false → Misses x f i 4
  misses_four i e =
      let d = or-false _ _ e in
      let c = or-false _ _ d.0 in
      let b = or-false _ _ c.0 in
      misses_on i 3 1 (misses_on i 2 1 (misses_on i 1 1 (misses_one i b.0) (misses_one (i + 1) b.1)) (misses_one (i + 2) c.1)) (misses_one (i + 3) d.1)
