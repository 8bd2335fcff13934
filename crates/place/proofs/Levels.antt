-- The reader of a formula and the automaton agree, level by level.
use Rattle.std.specs.Prelude.{Option, Some, None}
use mathlib.Core.Path.{◌≡◌, refl, ap, ◌∙◌}
use mathlib.Core.Bool.{Bool, true, false, cond}
use mathlib.Core.List.{List}
use Prim.Native.Nat.{ℕ, zero, suc, ◌+◌, ◌-◌, ◌≤◌, ◌<◌}
use native.Mathlib.Omega.{arith}
use borrow.Author.Tests.{ltb-true, ltb-false, leb-true, leb-false}
use lib.Dec.{leb, ltb, eqb}
use lib.ListN.{length, get_or}
use Rattle.formula.specs.Sizes.{longest}
use Rattle.formula.specs.Text.{seen, in_class, skip_of, tildes_of, word_end, wrap_with}
use Rattle.formula.specs.Tree.{Op, And, Xor, Or, sign_of, Tree, Res, got, bad, unk, join_tree, not_tree}
use Rattle.formula.specs.Names.{named, name_by}
use Rattle.formula.specs.Levels.{close_tree, chain, level, bracket, paren_of, not_of, and_of, xor_of, or_of}
use Rattle.formula.specs.declared.Class.TheVariants.{Blank, Tilde, Letter}
use Rattle.formula.proofs.Laws.{past_miss, past_end, seen_in}
use Rattle.formula.proofs.Reading.{Past, bracket_is, not-past, and-past, xor-past}
use Rattle.grammar.proofs.Bytes.{seen_out, seen_byte, seen_is, past_stops, past-none, letter_not, letter_no_tilde, no_tilde}
use Rattle.place.proofs.Automaton.{End, sign, after, want, word, then, dead, opened, closed, ended, step, live, trace}
use Rattle.place.proofs.Walk.{As, Stuck, stuck, moved, walk, name_as, name_long}

pub cond_same : {A : Type 0} (t : Bool) (x : A) → cond t x x ≡ x
cond_same true x = refl
cond_same false x = refl

-- bytes left after what was found
abbrev left_of : List ℕ → Res → ℕ
left_of s (got p t) = length s - p
left_of s (bad p) = 0
left_of s (unk p) = 0

-- ---- steps

want_stays : (c d o b : ℕ) → in_class Tilde b ≡ true → step (want c d o) b ≡ want c d o
unfolding step
want_stays c d o b e = rw e

pub then_stays : (k : End) (b : ℕ) → in_class Blank b ≡ true → step (then k) b ≡ then k
unfolding step in_class
then_stays (sign c) b e = rw e
then_stays (after c d o) b e = rw e

opens : (c d o : ℕ) → step (want c d o) 40 ≡ opened c d o
unfolding step in_class
opens c d o = refl

shuts : (c d o : ℕ) → step (then (after c d o)) 41 ≡ closed c d o
unfolding step
shuts c d o = refl

joins : (op : Op) (c d o : ℕ) → step (then (after c d o)) (sign_of op) ≡ want c d o
unfolding step
joins And c d o = refl
joins Xor c d o = refl
joins Or c d o = refl

-- a space does not stand at q
abbrev pub NoSpace : List ℕ → ℕ → Type 0
NoSpace s q = q < length s → in_class Blank (get_or s q 0) ≡ false

-- nor an operator
abbrev pub NoOp : List ℕ → ℕ → Type 0
NoOp s q = ((NoSpace s q × (seen s q (sign_of And) ≡ false)) × (seen s q (sign_of Xor) ≡ false)) × (seen s q (sign_of Or) ≡ false)

pub no_more : (s : List ℕ) (c d o q : ℕ) → NoOp s q → q < length s
    → cond (eqb (get_or s q 0) 41) (closed c d o) (cond (eqb (get_or s q 0) 10) (ended c o) dead) ≡ dead → step (then (after c d o)) (get_or s q 0) ≡ dead
unfolding step in_class
no_more s c d o q w h e =
    rw (w.0.0.0 h, seen_byte s q 38 false h w.0.0.1, seen_byte s q 94 false h w.0.1, seen_byte s q 124 false h w.1) e

pub skipped : (s : List ℕ) (k : End) (p : ℕ) → As s p (then k) → As s (skip_of s p) (then k) × NoSpace s (skip_of s p)
skipped s k p a = (walk s (in_class Blank) (then k) (then_stays k) refl p a, past_stops (in_class Blank) s p)

-- ---- a name where an operand may begin

-- neither a space nor ~ nor an open bracket
abbrev pub Plain : List ℕ → ℕ → Type 0
Plain s q = q < length s → (in_class Tilde (get_or s q 0) ≡ false) × (eqb (get_or s q 0) 40 ≡ false)

module _ (s : List ℕ) (c : ℕ) (U : ℕ → Type 0) where
  -- an answer from a place before an operand: where it is read, an operand stands before q
  abbrev pub Fits : (ℕ → Type 0) → ℕ → ℕ → Res → Type 0
  Fits free d o (got q t) = As s q (then (after c d o)) × free q
  Fits free d o (bad q) = Stuck s q
  Fits free d o (unk q) = U q

  pub name_fits : (known : ℕ → ℕ → Option ℕ) (d o p : ℕ)
      → (known p (word_end s p) ≡ None → p < word_end s p → live (trace s (word_end s p)) ≡ true → U (word_end s p - 1)) → As s p (want c d o) → Plain s p → Fits (NoSpace s) d o (name_by s known p)
  unfolding step name_by
  name_fits known d o p u a w = by (leb e p) refl (ltb longest (e - p)) refl (known p e) u
    where
      e : ℕ
      e = word_end s p

      none : e ≤ p → p < length s → step (want c d o) (get_or s p 0) ≡ dead
      none h k = rw ((w k).0, (w k).1, past-none (in_class Letter) s p h k)

      begins : (b : ℕ) → in_class Letter b ≡ true → step (want c d o) b ≡ word 1 (after c d o)
      begins b h = rw (letter_no_tilde b h, letter_not b 40 h (omega arith), h)

      passed : leb e p ≡ false → ltb longest (e - p) ≡ false → As s e (then (after c d o))
      passed et ev = name_as s (after c d o) (want c d o) begins p a (leb-false _ _ et) (ltb-false _ _ ev)

      by : (t : Bool) → leb e p ≡ t → (v : Bool) → ltb longest (e - p) ≡ v → (f : Option ℕ) → (f ≡ None → p < e → live (trace s e) ≡ true → U (e - 1))
          → Fits (NoSpace s) d o (cond t (bad p) (cond v (bad (p + longest)) (named s e f)))
      by true et v ev f u = stuck s p (want c d o) a (none (leb-true _ _ et)) (λ k. refl)
      by false et true ev f u = name_long s (after c d o) (want c d o) begins p a (ltb-true _ _ ev)
      by false et false ev (Some x) u = skipped s (after c d o) e (passed et ev)
      by false et false ev None u = u refl (leb-false _ _ et) (passed et ev).alive

  -- ---- an answer that keeps its place fits

  join_fits : (free : ℕ → Type 0) (d o : ℕ) (op : Op) (t : Tree) (r : Res) → Fits free d o r → Fits free d o (join_tree op t r)
  join_fits free d o op t (got q u) h = h
  join_fits free d o op t (bad q) h = h
  join_fits free d o op t (unk q) h = h

  neg_fits : (free : ℕ → Type 0) (d o : ℕ) (r : Res) → Fits free d o r → Fits free d o (not_tree r)
  neg_fits free d o (got q u) h = h
  neg_fits free d o (bad q) h = h
  neg_fits free d o (unk q) h = h

  wrap_fits : (free : ℕ → Type 0) (d o f i : ℕ) (r : Res) → Fits free d o r → Fits free d o (wrap_with not_tree s f i r)
  unfolding wrap_with
  wrap_fits free d o zero i r h = h
  wrap_fits free d o (suc f) i r h = wrap_fits free d o f (i + 1) (cond (seen s i 126) (not_tree r) r) (by (seen s i 126))
    where
      by : (b : Bool) → Fits free d o (cond b (not_tree r) r)
      by true = neg_fits free d o r h
      by false = h

  -- ---- a level

  fewer : (op : Op) (p : ℕ) (t : Tree) (x : Res) → p < length s → Past (p + 1) x → left_of s (join_tree op t x) < length s - p
  fewer op p t (got q u) h w = omega arith
  fewer op p t (bad q) h w = omega arith
  fewer op p t (unk q) h w = omega arith

  left_le : (x : Res) → left_of s x ≤ length s
  left_le (got q t) = omega arith
  left_le (bad q) = omega arith
  left_le (unk q) = omega arith

  module _ (op : Op) (g : ℕ → Res) (fwd : (p : ℕ) → Past p (g p)) (d o : ℕ) (free : ℕ → Type 0)
      (h : (p : ℕ) → As s p (want c d o) → Fits free d o (g p)) where
    abbrev Free : ℕ → Type 0
    Free q = free q × (seen s q (sign_of op) ≡ false)

    chain_fits : (f : ℕ) (r : Res) → left_of s r ≤ f → Fits free d o r → Fits Free d o (chain s op g f r)
    unfolding chain
    chain_fits zero (got p t) m a = (a.0, (a.1, seen_out s p (sign_of op) (omega arith)))
    chain_fits zero (bad p) m a = a
    chain_fits zero (unk p) m a = a
    chain_fits (suc f) (bad p) m a = a
    chain_fits (suc f) (unk p) m a = a
    chain_fits (suc f) (got p t) m a = by (seen s p (sign_of op)) refl (chain_fits f (join_tree op t (g (p + 1))))
      where
        by : (b : Bool) → seen s p (sign_of op) ≡ b → (left_of s (join_tree op t (g (p + 1))) ≤ f → Fits free d o (join_tree op t (g (p + 1))) → Fits Free d o (chain s op g f (join_tree op t (g (p + 1)))))
            → Fits Free d o (cond b (chain s op g f (join_tree op t (g (p + 1)))) (got p t))
        by false w ih = (a.0, (a.1, w))
        by true w ih =
            ih (omega (arith, fewer op p t (g (p + 1)) (seen_in s p (sign_of op) w) (fwd (p + 1))))
            (join_fits free d o op t (g (p + 1))
            (h (p + 1) (moved s p (then (after c d o)) (want c d o) a.0 (seen_in s p (sign_of op) w) (ap (step (then (after c d o))) (seen_is s p (sign_of op) w) ∙ joins op c d o) refl)))

    level_fits : (p : ℕ) → As s p (want c d o) → Fits Free d o (level s op g p)
    unfolding level
    level_fits p a = chain_fits (length s) (g p) (left_le (g p)) (h p a)

  -- ---- operands and brackets

  module _ (nm : ℕ → Res) (nmp : (p : ℕ) → Past p (nm p)) (names : (d o p : ℕ) → As s p (want c d o) → Plain s p → Fits (NoSpace s) d o (nm p)) where
    module _ (d : ℕ) (hb : (o p : ℕ) → As s p (want c d o) → seen s p 40 ≡ true → Fits (NoSpace s) d o (bracket s nm d p)) (o : ℕ) where
      paren_fits : (p : ℕ) → As s p (want c d o) → (p < length s → in_class Tilde (get_or s p 0) ≡ false) → Fits (NoSpace s) d o (paren_of s nm d p)
      unfolding paren_of
      paren_fits p a w = by (skip_of s p) (stays (ltb p (length s)) refl) (seen s p 40) refl
        where
          stays : (t : Bool) → ltb p (length s) ≡ t → skip_of s p ≡ p
          stays true e = past_miss (in_class Blank) s p (ltb-true _ _ e) (no_tilde _ (w (ltb-true _ _ e)))
          stays false e = past_end (in_class Blank) s p (ltb-false _ _ e)

          by : (q : ℕ) → q ≡ p → (b : Bool) → seen s p 40 ≡ b → Fits (NoSpace s) d o (cond (seen s q 40) (bracket s nm d q) (nm q))
          by q e true k = rw (e, k) (hb o p a k)
          by q e false k = rw (e, k) (names d o p a (λ h. (w h, seen_byte s p 40 false h k)))

      not_fits : (p : ℕ) → As s p (want c d o) → Fits (NoSpace s) d o (not_of s nm d p)
      unfolding not_of
      not_fits p a =
          let u = tildes_of s p in
          wrap_fits (NoSpace s) d o (u - p) p (paren_of s nm d u) (paren_fits u (walk s (in_class Tilde) (want c d o) (want_stays c d o) refl p a) (past_stops (in_class Tilde) s p))

      or_fits : (p : ℕ) → As s p (want c d o) → Fits (NoOp s) d o (or_of s nm d p)
      or_fits =
          level_fits Or (xor_of s nm d) (xor-past s nm nmp d) d o (λ q. (NoSpace s q × (seen s q (sign_of And) ≡ false)) × (seen s q (sign_of Xor) ≡ false))
          (level_fits Xor (and_of s nm d) (and-past s nm nmp d) d o (λ q. NoSpace s q × (seen s q (sign_of And) ≡ false))
          (level_fits And (not_of s nm d) (not-past s nm nmp d) d o (NoSpace s) not_fits))

    close_fits : (d o : ℕ) (r : Res) → Fits (NoOp s) d (suc o) r → Fits (NoSpace s) (suc d) o (close_tree s r)
    unfolding close_tree
    close_fits d o (bad q) a = a
    close_fits d o (unk q) a = a
    close_fits d o (got q t) a = by (seen s q 41) refl
      where
        by : (b : Bool) → seen s q 41 ≡ b → Fits (NoSpace s) (suc d) o (cond b (got (skip_of s (q + 1)) t) (bad q))
        by true w =
            skipped s (after c (suc d) o) (q + 1)
            (moved s q (then (after c d (suc o))) (then (after c (suc d) o)) a.0 (seen_in s q 41 w) (ap (step (then (after c d (suc o)))) (seen_is s q 41 w) ∙ shuts c d (suc o)) refl)
        by false w =
            stuck s q (then (after c d (suc o))) a.0 (λ h. no_more s c d (suc o) q a.1 h (rw (seen_byte s q 41 false h w) (cond_same (eqb (get_or s q 0) 10) dead))) (λ h. refl)

    bracket_fits : (d o p : ℕ) → As s p (want c d o) → seen s p 40 ≡ true → Fits (NoSpace s) d o (bracket s nm d p)
    unfolding bracket
    bracket_fits zero o p a w = stuck s p (want c 0 o) a (λ h. ap (step (want c 0 o)) (seen_is s p 40 w) ∙ opens c 0 o) (λ h. refl)
    bracket_fits (suc d) o p a w =
        rw (bracket_is s nm nmp d p)
        (close_fits d o (or_of s nm d (p + 1))
        (or_fits d (bracket_fits d) (suc o) (p + 1)
        (moved s p (want c (suc d) o) (want c d (suc o)) a (seen_in s p 40 w) (ap (step (want c (suc d) o)) (seen_is s p 40 w) ∙ opens c (suc d) o) refl)))

    pub formula_fits : (d o p : ℕ) → As s p (want c d o) → Fits (NoOp s) d o (or_of s nm d p)
    formula_fits d o p a = or_fits d (bracket_fits d) o p a
