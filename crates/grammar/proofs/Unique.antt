-- The reader finds each reading of a formula, so a text has one at most; and what it finds is a reading.
use mathlib.Core.Path.{◌≡◌, refl, sym, ap, subst, ◌∙◌}
use mathlib.Core.Bool.{Bool, true, false, cond}
use mathlib.Core.Logic.{inl, inr, ⊎_elim}
use mathlib.Core.List.{List}
use Prim.Native.Nat.{ℕ, zero, suc, ◌+◌, ◌-◌, ◌≤◌, ◌<◌}
use native.Mathlib.Omega.{arith}
use lib.ListN.{length}
use Rattle.formula.specs.Text.{seen, skip_of, tildes_of, wrap_with}
use Rattle.formula.specs.Tree.{Op, And, Xor, Or, sign_of, Tree, leaf, neg, bin, Res, got, bad, unk, join_tree, not_tree}
use Rattle.formula.specs.Levels.{close_tree, chain, level, bracket, paren_of, not_of, and_of, xor_of, or_of}
use Rattle.formula.proofs.Laws.{seen_in}
use Rattle.formula.proofs.Reading.{Past, bracket_is, not-past, and-past, xor-past}
use Rattle.grammar.specs.Grammar.{Chain, one, more, Atom, Inverted, Bracket, Formula, Ended}
use Rattle.grammar.proofs.Bytes.{seen_out, seen_one}

-- ---- answers

abbrev at_of : Res → ℕ
at_of (got q t) = q
at_of (bad q) = q
at_of (unk q) = q

abbrev tree_of : Res → Tree
tree_of (got q t) = t
tree_of (bad q) = leaf 0
tree_of (unk q) = leaf 0

-- nothing was read
abbrev Refused : Res → Type 0
Refused (got q t) = ⊥
Refused (bad q) = Unit {0}
Refused (unk q) = Unit {0}

refusal : (r : Res) → Refused r → (q : ℕ) (t : Tree) → r ≡ got q t → ⊥
refusal (got u v) w q t e = w
refusal (bad u) w q t e = let z : ◌≡◌ {A = ℕ} 0 1 = cc in omega arith
refusal (unk u) w q t e = let z : ◌≡◌ {A = ℕ} 0 1 = cc in omega arith

-- what holds of one answer holds of an equal one
pub got_is : (P : ℕ → Tree → Type 0) (m q : ℕ) (a t : Tree) → got m a ≡ got q t → P m a → P q t
got_is P m q a t e h = subst (λ (r : Res). P (at_of r) (tree_of r)) e h

-- an answer that is no refusal lies past p
pub past_got : (p q : ℕ) (t : Tree) (r : Res) → Past p r → r ≡ got q t → p < q
past_got p q t (got u v) h e = let k : u ≡ q = cc in omega arith
past_got p q t (bad u) h e = absurd (refusal (bad u) tt q t e)
past_got p q t (unk u) h e = absurd (refusal (unk u) tt q t e)

-- where another byte stands no operator does
pub ended_by : (s : List ℕ) (q b : ℕ) → seen s q b ≡ true → b < 94 → (b ≡ 38 → ⊥) → Ended s q
ended_by s q b w h n =
    record { no_and = seen_one s q b 38 w n; no_xor = seen_one s q b 94 w (λ e. absurd (omega arith)); no_or = seen_one s q b 124 w (λ e. absurd (omega arith)) }

-- ---- a level: o reads an operand, D is the relation of one, `free` what may stand after it

module _ (s : List ℕ) (op : Op) (o : ℕ → Res) (D : ℕ → ℕ → Tree → Type 0) (free : ℕ → Type 0) (fwd : (p : ℕ) → Past p (o p)) where
  stop : (f p : ℕ) (t : Tree) → seen s p (sign_of op) ≡ false → chain s op o f (got p t) ≡ got p t
  unfolding chain
  stop zero p t e = refl
  stop (suc f) p t e = rw e

  step : (f p : ℕ) (t : Tree) → seen s p (sign_of op) ≡ true → chain s op o (suc f) (got p t) ≡ chain s op o f (join_tree op t (o (p + 1)))
  unfolding chain
  step f p t e = rw e

  -- a refusal stays
  stays : (f : ℕ) (r : Res) → Refused r → chain s op o f r ≡ r
  unfolding chain
  stays zero r w = refl
  stays (suc f) (got q t) w = absurd w
  stays (suc f) (bad q) w = refl
  stays (suc f) (unk q) w = refl

  module _ (finds : (p q : ℕ) (t : Tree) → D p q t → free q → o p ≡ got q t) (op-free : (q : ℕ) → seen s q (sign_of op) ≡ true → free q) where
    -- n operators lead from p to m
    record Steps (p m : ℕ) (t : Tree) : Type 0 where
      n : ℕ
      few : n + p < m
      fits : n ≤ length s
      leads : (f : ℕ) → chain s op o (n + f) (o p) ≡ chain s op o f (got m t)

    steps : (p m : ℕ) (t : Tree) → Chain s op D p m t → free m → Steps p m t
    steps p m t (one d) fr =
        let e = finds p m t d fr in
        record { n = 0; few = omega (arith, past_got p m t (o p) (fwd p) e); fits = omega arith; leads = λ f. let z : 0 + f ≡ f = omega arith in rw (z, e) }
    steps p q t (more {m = m} {a = a} {b = b} c w d) fr =
        let i = steps p m a c (op-free m w) in
        let e = finds (m + 1) q b d fr in
        record {
          n = i.n + 1;
          few = omega (arith, i.few, past_got (m + 1) q b (o (m + 1)) (fwd (m + 1)) e);
          fits = omega (arith, i.few, seen_in s m (sign_of op) w);
          leads = λ f.
              let z : i.n + 1 + f ≡ i.n + suc f = omega arith in
              ap (λ (x : ℕ). chain s op o x (o p)) z ∙ i.leads (suc f) ∙ step f m a w ∙ ap (λ (r : Res). chain s op o f (join_tree op a r)) e;
        }

    level_finds : (p q : ℕ) (t : Tree) → Chain s op D p q t → free q → seen s q (sign_of op) ≡ false → level s op o p ≡ got q t
    unfolding level
    level_finds p q t c fr w =
        let i = steps p q t c fr in
        let z : length s ≡ i.n + (length s - i.n) = omega (arith, i.fits) in
        ap (λ (x : ℕ). chain s op o x (o p)) z ∙ i.leads (length s - i.n) ∙ stop (length s - i.n) q t w

  module _ (is : (p q : ℕ) (t : Tree) → o p ≡ got q t → D p q t × free q) where
    -- operands from p to q, after which neither an operator of this level nor one that binds tighter stands
    record Sound (p q : ℕ) (t : Tree) : Type 0 where
      der : Chain s op D p q t
      ok : free q
      over : seen s q (sign_of op) ≡ false

    done : (p m : ℕ) (a : Tree) → Chain s op D p m a → free m → seen s m (sign_of op) ≡ false → (q : ℕ) (t : Tree) → got m a ≡ got q t → Sound p q t
    done p m a c fr w q t e = got_is (Sound p) m q a t e (record { der = c; ok = fr; over = w })

    turn : (f p m : ℕ) (a : Tree) → Chain s op D p m a → free m → length s - m ≤ suc f → (q : ℕ) (t : Tree) → chain s op o (suc f) (got m a) ≡ got q t
        → ((n : ℕ) (b : Tree) → Chain s op D p n b → free n → length s - n ≤ f → chain s op o f (got n b) ≡ got q t → Sound p q t) → (b : Bool) → seen s m (sign_of op) ≡ b → Sound p q t
    turn f p m a c fr en q t e ih false w = done p m a c fr w q t (sym (stop (suc f) m a w) ∙ e)
    turn f p m a c fr en q t e ih true w = by (o (m + 1)) refl (sym (step f m a w) ∙ e)
      where
        by : (r : Res) → o (m + 1) ≡ r → chain s op o f (join_tree op a r) ≡ got q t → Sound p q t
        by (got u b) er h =
            let d = is (m + 1) u b er in
            ih u (bin op a b) (more c w d.0) d.1 (omega (arith, past_got (m + 1) u b (o (m + 1)) (fwd (m + 1)) er)) h
        by (bad u) er h = absurd (refusal (bad u) tt q t (sym (stays f (bad u) tt) ∙ h))
        by (unk u) er h = absurd (refusal (unk u) tt q t (sym (stays f (unk u) tt) ∙ h))

    chain_sound : (f p m : ℕ) (a : Tree) → Chain s op D p m a → free m → length s - m ≤ f → (q : ℕ) (t : Tree) → chain s op o f (got m a) ≡ got q t → Sound p q t
    unfolding chain
    chain_sound zero p m a c fr en q t e = done p m a c fr (seen_out s m (sign_of op) (omega arith)) q t e
    chain_sound (suc f) p m a c fr en q t e =
        turn f p m a c fr en q t e (λ n b c' fr' en' e'. chain_sound f p n b c' fr' en' q t e') (seen s m (sign_of op)) refl

    level_sound : (p q : ℕ) (t : Tree) → level s op o p ≡ got q t → Sound p q t
    unfolding level
    level_sound p q t e = by (o p) refl e
      where
        by : (r : Res) → o p ≡ r → chain s op o (length s) r ≡ got q t → Sound p q t
        by (got m a) er h = let d = is p m a er in chain_sound (length s) p m a (one d.0) d.1 (omega arith) q t h
        by (bad u) er h = absurd (refusal (bad u) tt q t (sym (stays (length s) (bad u) tt) ∙ h))
        by (unk u) er h = absurd (refusal (unk u) tt q t (sym (stays (length s) (unk u) tt) ∙ h))

-- ---- ~ and brackets

wrap_got : (s : List ℕ) (f i q : ℕ) (t : Tree) → wrap_with not_tree s f i (got q t) ≡ got q (wrap_with neg s f i t)
unfolding wrap_with
wrap_got s zero i q t = refl
wrap_got s (suc f) i q t = by (seen s i 126) (wrap_got s f (i + 1) q)
  where
    by : (b : Bool) → ((t : Tree) → wrap_with not_tree s f (i + 1) (got q t) ≡ got q (wrap_with neg s f (i + 1) t))
        → wrap_with not_tree s f (i + 1) (cond b (not_tree (got q t)) (got q t)) ≡ got q (wrap_with neg s f (i + 1) (cond b (neg t) t))
    by true h = h (neg t)
    by false h = h t

wrap_refused : (s : List ℕ) (f i : ℕ) (r : Res) → Refused r → wrap_with not_tree s f i r ≡ r
unfolding wrap_with
wrap_refused s zero i r w = refl
wrap_refused s (suc f) i r w = ap (wrap_with not_tree s f (i + 1)) (by (seen s i 126) r w) ∙ wrap_refused s f (i + 1) r w
  where
    by : (b : Bool) (r : Res) → Refused r → cond b (not_tree r) r ≡ r
    by true (got q t) w = absurd w
    by true (bad q) w = refl
    by true (unk q) w = refl
    by false r w = refl

module _ (s : List ℕ) (nm : ℕ → Res) (nmp : (p : ℕ) → Past p (nm p)) where
  -- an operand of &, of ^ and of |
  abbrev Nots : ℕ → ℕ → ℕ → Tree → Type 0
  Nots d = Inverted s (Atom s nm (Bracket s nm d))

  abbrev Ands : ℕ → ℕ → ℕ → Tree → Type 0
  Ands d = Chain s And (Nots d)

  abbrev Xors : ℕ → ℕ → ℕ → Tree → Type 0
  Xors d = Chain s Xor (Ands d)

  -- what may stand after an operand of &, ^ and |
  abbrev Any : ℕ → Type 0
  Any q = q ≡ q

  abbrev NoAnd : ℕ → Type 0
  NoAnd q = seen s q (sign_of And) ≡ false

  abbrev NoXor : ℕ → Type 0
  NoXor q = NoAnd q × (seen s q (sign_of Xor) ≡ false)

  -- ---- each reading is found

  module _ (d : ℕ) (hb : (p q : ℕ) (t : Tree) → Bracket s nm d p q t → bracket s nm d p ≡ got q t) where
    not_finds : (p q : ℕ) (t : Tree) → Nots d p q t → Any q → not_of s nm d p ≡ got q t
    unfolding not_of paren_of
    not_finds p q t i a =
        let u = tildes_of s p in
        let e : paren_of s nm d u ≡ got q i.inner = ⊎_elim (λ w. rw w.no_bracket w.name) (λ w. rw (opened d (skip_of s u) q i.inner w) (hb (skip_of s u) q i.inner w)) i.atom in
        ap (wrap_with not_tree s (u - p) p) e ∙ wrap_got s (u - p) p q i.inner ∙ ap (got q) (sym i.tree)
      where
        opened : (d p q : ℕ) (t : Tree) → Bracket s nm d p q t → seen s p 40 ≡ true
        opened zero p q t w = absurd w
        opened (suc d) p q t w = w.opens

    or_finds : (p q : ℕ) (t : Tree) → Formula s nm d p q t → Ended s q → or_of s nm d p ≡ got q t
    or_finds p q t c f =
        level_finds s Or (xor_of s nm d) (Xors d) NoXor (xor-past s nm nmp d)
        (λ p q t c f. level_finds s Xor (and_of s nm d) (Ands d) NoAnd (and-past s nm nmp d)
        (λ p q t c f. level_finds s And (not_of s nm d) (Nots d) Any (not-past s nm nmp d) not_finds (λ q w. refl) p q t c refl f)
        (λ q w. seen_one s q 94 38 w (λ e. absurd (omega arith))) p q t c f.0 f.1)
        (λ q w. (seen_one s q 124 38 w (λ e. absurd (omega arith)), seen_one s q 124 94 w (λ e. absurd (omega arith)))) p q t c (f.no_and, f.no_xor) f.no_or

  bracket_finds : (d p q : ℕ) (t : Tree) → Bracket s nm d p q t → bracket s nm d p ≡ got q t
  unfolding close_tree
  bracket_finds zero p q t w = absurd w
  bracket_finds (suc d) p q t w =
      bracket_is s nm nmp d p
      ∙ ap (close_tree s) (or_finds d (bracket_finds d) (p + 1) w.last t w.inside (ended_by s w.last 41 w.closes (omega arith) (λ e. absurd (omega arith))))
      ∙ rw (w.closes, w.end)

  -- a formula that no operator follows is what the reader finds
  pub formula-found : (d p q : ℕ) (t : Tree) → Formula s nm d p q t → Ended s q → or_of s nm d p ≡ got q t
  formula-found d = or_finds d (bracket_finds d)

  -- so a text has one reading at most
  pub reading_unique : (d p q u : ℕ) (t v : Tree) → Formula s nm d p q t → Ended s q → Formula s nm d p u v → Ended s u → ◌≡◌ {A = Res} (got q t) (got u v)
  reading_unique d p q u t v c e c' e' = sym (formula-found d p q t c e) ∙ formula-found d p u v c' e'

  -- ---- what the reader finds is a reading

  module _ (d : ℕ) (hb : (p q : ℕ) (t : Tree) → seen s p 40 ≡ true → bracket s nm d p ≡ got q t → Bracket s nm d p q t) where
    atom_is : (p q : ℕ) (t : Tree) → paren_of s nm d p ≡ got q t → Atom s nm (Bracket s nm d) p q t
    unfolding paren_of
    atom_is p q t e = by (seen s (skip_of s p) 40) refl e
      where
        by : (b : Bool) → seen s (skip_of s p) 40 ≡ b → cond b (bracket s nm d (skip_of s p)) (nm (skip_of s p)) ≡ got q t → Atom s nm (Bracket s nm d) p q t
        by true w h = inr (hb (skip_of s p) q t w h)
        by false w h = inl (record { no_bracket = w; name = h })

    not_is : (p q : ℕ) (t : Tree) → not_of s nm d p ≡ got q t → Nots d p q t × Any q
    unfolding not_of
    not_is p q t e = (by (paren_of s nm d (tildes_of s p)) refl e, refl)
      where
        by : (r : Res) → paren_of s nm d (tildes_of s p) ≡ r → wrap_with not_tree s (tildes_of s p - p) p r ≡ got q t → Nots d p q t
        by (got u v) er h =
            got_is (Nots d p) u q (wrap_with neg s (tildes_of s p - p) p v) t (sym (wrap_got s (tildes_of s p - p) p u v) ∙ h)
            (record { inner = v; atom = atom_is (tildes_of s p) u v er; tree = refl })
        by (bad u) er h = absurd (refusal (bad u) tt q t (sym (wrap_refused s (tildes_of s p - p) p (bad u) tt) ∙ h))
        by (unk u) er h = absurd (refusal (unk u) tt q t (sym (wrap_refused s (tildes_of s p - p) p (unk u) tt) ∙ h))

    and_is : (p q : ℕ) (t : Tree) → and_of s nm d p ≡ got q t → Ands d p q t × NoAnd q
    and_is p q t e = let r = level_sound s And (not_of s nm d) (Nots d) Any (not-past s nm nmp d) not_is p q t e in (r.der, r.over)

    xor_is : (p q : ℕ) (t : Tree) → xor_of s nm d p ≡ got q t → Xors d p q t × NoXor q
    xor_is p q t e = let r = level_sound s Xor (and_of s nm d) (Ands d) NoAnd (and-past s nm nmp d) and_is p q t e in (r.der, (r.ok, r.over))

    or_is : (p q : ℕ) (t : Tree) → or_of s nm d p ≡ got q t → Formula s nm d p q t × Ended s q
    or_is p q t e =
        let r = level_sound s Or (xor_of s nm d) (Xors d) NoXor (xor-past s nm nmp d) xor_is p q t e in
        (r.der, record { no_and = r.ok.0; no_xor = r.ok.1; no_or = r.over })

  bracket-made : (d p q : ℕ) (t : Tree) → seen s p 40 ≡ true → bracket s nm d p ≡ got q t → Bracket s nm d p q t
  unfolding bracket close_tree
  bracket-made zero p q t w e = absurd (refusal (bad p) tt q t e)
  bracket-made (suc d) p q t w e = closed d p w (bracket-made d) (or_of s nm d (p + 1)) refl q t (sym (bracket_is s nm nmp d p) ∙ e)
    where
      closed : (d p : ℕ) → seen s p 40 ≡ true → ((p q : ℕ) (t : Tree) → seen s p 40 ≡ true → bracket s nm d p ≡ got q t → Bracket s nm d p q t)
          → (r : Res) → or_of s nm d (p + 1) ≡ r → (q : ℕ) (t : Tree) → close_tree s r ≡ got q t → Bracket s nm (suc d) p q t
      closed d p w hb (bad u) er q t h = absurd (refusal (bad u) tt q t h)
      closed d p w hb (unk u) er q t h = absurd (refusal (unk u) tt q t h)
      closed d p w hb (got m a) er q t h = by (seen s m 41) refl h
        where
          by : (b : Bool) → seen s m 41 ≡ b → cond b (got (skip_of s (m + 1)) a) (bad m) ≡ got q t → Bracket s nm (suc d) p q t
          by true k h = got_is (Bracket s nm (suc d) p) (skip_of s (m + 1)) q a t h (record { last = m; opens = w; inside = (or_is d hb (p + 1) m a er).0; closes = k; end = refl })
          by false k h = absurd (refusal (bad m) tt q t h)

  -- what the reader finds is a formula that no operator follows
  pub found-formula : (d p q : ℕ) (t : Tree) → or_of s nm d p ≡ got q t → Formula s nm d p q t × Ended s q
  found-formula d = or_is d (bracket-made d)
