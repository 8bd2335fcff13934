-- The names that the reader of a formula passes are known, and the one that it misses is not.
use Rattle.std.specs.Prelude.{Option, Some, None}
use mathlib.Core.Path.{◌≡◌, refl, sym, ap, subst, ◌∙◌}
use mathlib.Core.Bool.{Bool, true, false, cond}
use mathlib.Core.List.{List}
use Prim.Native.Nat.{ℕ, zero, suc, ◌+◌, ◌-◌, ◌≤◌, ◌<◌}
use native.Mathlib.Omega.{arith}
use borrow.Author.Tests.{ltb-true, ltb-false, leb-false, eqb-true}
use lib.Dec.{leb, ltb, eqb}
use lib.ListN.{length, get_or}
use Rattle.formula.specs.Sizes.{longest}
use Rattle.formula.specs.Text.{seen, past, is_letter, in_class, skip_of, tildes_of, word_end, wrap_with}
use Rattle.formula.specs.Tree.{Op, And, Xor, Or, sign_of, Tree, Res, got, bad, unk, join_tree, not_tree}
use Rattle.formula.specs.Names.{is_line, named, name_by}
use Rattle.formula.specs.Levels.{close_tree, chain, level, bracket, paren_of, not_of, and_of, xor_of, or_of}
use Rattle.formula.specs.declared.Class.TheVariants.{Blank, Tilde, Letter}
use Rattle.formula.proofs.Laws.{past-ge}
use Rattle.formula.proofs.Reading.{name_past, bracket_is}
use Rattle.grammar.proofs.Bytes.{seen_is, past_hits, letter_not}
use Rattle.known.specs.Known.{Word}
use Rattle.known.proofs.Words.{clash, Fresh, fresh_next, fresh_past, word_is, no_word}

-- ---- bytes between names

-- a byte that is part of no name and ends no line
pub record Between (b : ℕ) : Type 0 where
  pub no_letter : in_class Letter b ≡ false
  pub no_line : eqb b 10 ≡ false

pub blank_between : (b : ℕ) → in_class Blank b ≡ true → Between b
unfolding in_class is_letter
blank_between b e = let k = eqb-true b 32 e in record { no_letter = rw k; no_line = rw k }

tilde_between : (b : ℕ) → in_class Tilde b ≡ true → Between b
unfolding in_class is_letter
tilde_between b e = by (eqb b 32) refl e
  where
    by : (t : Bool) → eqb b 32 ≡ t → cond t true (eqb b 126) ≡ true → Between b
    by true w e = let k = eqb-true b 32 w in record { no_letter = rw k; no_line = rw k }
    by false w e = let k = eqb-true b 126 e in record { no_letter = rw k; no_line = rw k }

op_between : (op : Op) → Between (sign_of op)
unfolding in_class is_letter
op_between And = record { no_letter = refl; no_line = refl }
op_between Xor = record { no_letter = refl; no_line = refl }
op_between Or = record { no_letter = refl; no_line = refl }

open_between : Between 40
unfolding in_class is_letter
open_between = record { no_letter = refl; no_line = refl }

close_between : Between 41
unfolding in_class is_letter
close_between = record { no_letter = refl; no_line = refl }

pub sign_between : Between 61
unfolding in_class is_letter
sign_between = record { no_letter = refl; no_line = refl }

-- ---- what was passed

-- from p to q no line ends, and K holds of each name
pub record Passed (s : List ℕ) (K : ℕ → Type 0) (p q : ℕ) : Type 0 where
  pub order : p ≤ q
  pub names : (a : ℕ) → Word s a → p ≤ a → a < q → K a
  pub line : (i : ℕ) → p ≤ i → i < q → seen s i 10 ≡ false

-- the first name from p on of which K does not hold ends with the byte at e, and N holds of it
pub record Missed (s : List ℕ) (K N : ℕ → Type 0) (p e : ℕ) : Type 0 where
  pub at : ℕ
  pub word : Word s at
  pub from : p ≤ at
  pub ends : word_end s at ≡ suc e
  pub none : N at
  pub before : Passed s K p at

module _ (s : List ℕ) where
  no_line : (i : ℕ) → eqb (get_or s i 0) 10 ≡ false → seen s i 10 ≡ false
  unfolding seen
  no_line i e = by (ltb i (length s))
    where
      by : (t : Bool) → cond t (eqb (get_or s i 0) 10) false ≡ false
      by true = e
      by false = refl

  -- after such a byte a name may begin
  pub seen_fresh : (p b : ℕ) → Between b → seen s p b ≡ true → Fresh s (p + 1)
  seen_fresh p b h e = fresh_next s p (ap (in_class Letter) (seen_is s p b e) ∙ h.no_letter)

  module _ (K : ℕ → Type 0) where
    pub passed_on : (p q r : ℕ) → Passed s K p q → Passed s K q r → Passed s K p r
    passed_on p q r x y =
        record {
          order = omega (arith, x.order, y.order);
          names = λ a w h k. names a w h k (ltb a q) refl;
          line = λ i h k. line i h k (ltb i q) refl;
        }
      where
        names : (a : ℕ) → Word s a → p ≤ a → a < r → (t : Bool) → ltb a q ≡ t → K a
        names a w h k true t = x.names a w h (ltb-true _ _ t)
        names a w h k false t = y.names a w (ltb-false _ _ t) k

        line : (i : ℕ) → p ≤ i → i < r → (t : Bool) → ltb i q ≡ t → seen s i 10 ≡ false
        line i h k true t = x.line i h (ltb-true _ _ t)
        line i h k false t = y.line i (ltb-false _ _ t) k

    -- what holds of the names that were passed
    pub passed_as : (L : ℕ → Type 0) (p q : ℕ) → Passed s K p q → ((a : ℕ) → Word s a → p ≤ a → a < q → K a → L a) → Passed s L p q
    passed_as L p q x f = record { order = x.order; names = λ a w h k. f a w h k (x.names a w h k); line = x.line }

    -- nothing was passed yet
    pub passed_none : (p : ℕ) → Passed s K p p
    passed_none p = record { order = omega arith; names = λ a w h k. absurd (omega arith); line = λ i h k. absurd (omega arith) }

    stretch : (p q : ℕ) → p ≤ q → ((i : ℕ) → p ≤ i → i < q → Between (get_or s i 0)) → Passed s K p q
    stretch p q m b =
        record {
          order = m;
          names = λ a w h k. absurd (clash (in_class Letter (get_or s a 0)) w.here (b a h k).no_letter);
          line = λ i h k. no_line i (b i h k).no_line;
        }

    -- one byte between names
    pub passed_byte : (p b : ℕ) → Between b → seen s p b ≡ true → Passed s K p (p + 1)
    passed_byte p b h e = stretch p (p + 1) (omega arith) (λ i l r. let z : i ≡ p = omega arith in subst Between (sym (seen_is s p b e) ∙ ap (λ (j : ℕ). get_or s j 0) (sym z)) h)

    -- a run of them
    pub passed_run : (f : ℕ → Bool) → ((b : ℕ) → f b ≡ true → Between b) → (p : ℕ) → Passed s K p (past f s p)
    passed_run f h p = stretch p (past f s p) (past-ge f s p) (λ i l r. h (get_or s i 0) (past_hits f s p i l r))

    -- letters
    letters_line : (p q : ℕ) → q ≤ word_end s p → (i : ℕ) → p ≤ i → i < q → seen s i 10 ≡ false
    letters_line p q m i h k = no_line i (letter_not (get_or s i 0) 10 (past_hits (in_class Letter) s p i h (omega arith)) (omega arith))

    -- a name
    pub passed_name : (p : ℕ) → K p → Passed s K p (word_end s p)
    passed_name p h =
        record {
          order = past-ge (in_class Letter) s p;
          names = λ a w l r. by a w l r (ltb p a) refl;
          line = letters_line p (word_end s p) (omega arith);
        }
      where
        by : (a : ℕ) → Word s a → p ≤ a → a < word_end s p → (t : Bool) → ltb p a ≡ t → K a
        by a w l r true t = absurd (no_word s p a (ltb-true p a t) r w)
        by a w l r false t = let z : p ≡ a = omega (arith, ltb-false p a t) in subst K z h

    -- and what is too long for one
    pub passed_long : (p : ℕ) → longest < word_end s p - p → Passed s K p (p + longest)
    passed_long p h =
        record {
          order = omega arith;
          names = λ a w l r. absurd (by a w l r (ltb p a) refl);
          line = letters_line p (p + longest) (omega arith);
        }
      where
        by : (a : ℕ) → Word s a → p ≤ a → a < p + longest → (t : Bool) → ltb p a ≡ t → ⊥
        by a w l r true t = no_word s p a (ltb-true p a t) (omega arith) w
        by a w l r false t = let z : a ≡ p = omega (arith, ltb-false p a t) in omega (arith, subst (λ (i : ℕ). word_end s i ≤ i + longest) z w.short)

-- ---- a formula whose names `look` knows

module _ (s : List ℕ) (look : ℕ → ℕ → Option ℕ) where
  -- the name at a is found, or not
  abbrev pub Is : ℕ → Type 0
  Is a = is_line (look a (word_end s a)) ≡ true

  abbrev pub IsNot : ℕ → Type 0
  IsNot a = is_line (look a (word_end s a)) ≡ false

  -- what an answer says of the names from p on
  abbrev pub Names : ℕ → Res → Type 0
  Names p (got q t) = Passed s Is p q
  Names p (bad q) = Passed s Is p q
  Names p (unk e) = Missed s Is IsNot p e

  names_from : (p q : ℕ) (r : Res) → Passed s Is p q → Names q r → Names p r
  names_from p q (got u t) x y = passed_on s Is p q u x y
  names_from p q (bad u) x y = passed_on s Is p q u x y
  names_from p q (unk u) x y =
      record { at = y.at; word = y.word; from = omega (arith, x.order, y.from); ends = y.ends; none = y.none; before = passed_on s Is p q y.at x y.before }

  name_names : (p : ℕ) → Fresh s p → Names p (name_by s look p)
  unfolding name_by
  name_names p fr = by (leb e p) refl (ltb longest (e - p)) refl (look p e) refl
    where
      e : ℕ
      e = word_end s p

      by : (t : Bool) → leb e p ≡ t → (u : Bool) → ltb longest (e - p) ≡ u → (f : Option ℕ) → look p e ≡ f → Names p (cond t (bad p) (cond u (bad (p + longest)) (named s e f)))
      by true et u eu f ef = passed_none s Is p
      by false et true eu f ef = passed_long s Is p (ltb-true _ _ eu)
      by false et false eu (Some v) ef = passed_on s Is p e (skip_of s e) (passed_name s Is p (ap is_line ef)) (passed_run s Is (in_class Blank) blank_between e)
      by false et false eu None ef =
          record {
            at = p;
            word = word_is s p fr (leb-false _ _ et) (omega (arith, ltb-false longest (e - p) eu));
            from = omega arith;
            ends = omega (arith, leb-false e p et);
            none = ap is_line ef;
            before = passed_none s Is p;
          }

  join_names : (p : ℕ) (op : Op) (t : Tree) (r : Res) → Names p r → Names p (join_tree op t r)
  join_names p op t (got q u) h = h
  join_names p op t (bad q) h = h
  join_names p op t (unk q) h = h

  neg_names : (p : ℕ) (r : Res) → Names p r → Names p (not_tree r)
  neg_names p (got q u) h = h
  neg_names p (bad q) h = h
  neg_names p (unk q) h = h

  wrap_names : (p f i : ℕ) (r : Res) → Names p r → Names p (wrap_with not_tree s f i r)
  unfolding wrap_with
  wrap_names p zero i r h = h
  wrap_names p (suc f) i r h = wrap_names p f (i + 1) (cond (seen s i 126) (not_tree r) r) (by (seen s i 126))
    where
      by : (b : Bool) → Names p (cond b (not_tree r) r)
      by true = neg_names p r h
      by false = h

  close_names : (p : ℕ) (r : Res) → Names p r → Names p (close_tree s r)
  unfolding close_tree
  close_names p (bad q) h = h
  close_names p (unk q) h = h
  close_names p (got q t) h = by (seen s q 41) refl
    where
      by : (b : Bool) → seen s q 41 ≡ b → Names p (cond b (got (skip_of s (q + 1)) t) (bad q))
      by true w = passed_on s Is p (q + 1) (skip_of s (q + 1)) (passed_on s Is p q (q + 1) h (passed_byte s Is q 41 close_between w)) (passed_run s Is (in_class Blank) blank_between (q + 1))
      by false w = h

  module _ (op : Op) (o : ℕ → Res) (h : (p : ℕ) → Fresh s p → Names p (o p)) where
    chain_names : (p f : ℕ) (r : Res) → Names p r → Names p (chain s op o f r)
    unfolding chain
    chain_names p zero r n = n
    chain_names p (suc f) (bad q) n = n
    chain_names p (suc f) (unk q) n = n
    chain_names p (suc f) (got q t) n = by (seen s q (sign_of op)) refl (chain_names p f (join_tree op t (o (q + 1))))
      where
        by : (b : Bool) → seen s q (sign_of op) ≡ b → (Names p (join_tree op t (o (q + 1))) → Names p (chain s op o f (join_tree op t (o (q + 1)))))
            → Names p (cond b (chain s op o f (join_tree op t (o (q + 1)))) (got q t))
        by false w ih = n
        by true w ih =
            ih (join_names p op t (o (q + 1))
            (names_from p (q + 1) (o (q + 1)) (passed_on s Is p q (q + 1) n (passed_byte s Is q (sign_of op) (op_between op) w)) (h (q + 1) (seen_fresh s q (sign_of op) (op_between op) w))))

    level_names : (p : ℕ) → Fresh s p → Names p (level s op o p)
    unfolding level
    level_names p f = chain_names p (length s) (o p) (h p f)

  abbrev nm : ℕ → Res
  nm = name_by s look

  module _ (d : ℕ) (hb : (p : ℕ) → seen s p 40 ≡ true → Names p (bracket s nm d p)) where
    paren_names : (p : ℕ) → Fresh s p → Names p (paren_of s nm d p)
    unfolding paren_of
    paren_names p f = by (seen s q 40) refl
      where
        q : ℕ
        q = skip_of s p

        skipped : Passed s Is p q
        skipped = passed_run s Is (in_class Blank) blank_between p

        by : (b : Bool) → seen s q 40 ≡ b → Names p (cond b (bracket s nm d q) (nm q))
        by true w = names_from p q (bracket s nm d q) skipped (hb q w)
        by false w = names_from p q (nm q) skipped (name_names q (fresh_past s (in_class Blank) (λ b e. (blank_between b e).no_letter) p f))

    not_names : (p : ℕ) → Fresh s p → Names p (not_of s nm d p)
    unfolding not_of
    not_names p f =
        let q = tildes_of s p in
        wrap_names p (q - p) p (paren_of s nm d q)
        (names_from p q (paren_of s nm d q) (passed_run s Is (in_class Tilde) tilde_between p) (paren_names q (fresh_past s (in_class Tilde) (λ b e. (tilde_between b e).no_letter) p f)))

    or_names : (p : ℕ) → Fresh s p → Names p (or_of s nm d p)
    or_names = level_names Or (xor_of s nm d) (level_names Xor (and_of s nm d) (level_names And (not_of s nm d) not_names))

  bracket_names : (d p : ℕ) → seen s p 40 ≡ true → Names p (bracket s nm d p)
  unfolding bracket
  bracket_names zero p w = passed_none s Is p
  bracket_names (suc d) p w =
      rw (bracket_is s nm (name_past s look) d p)
      (close_names p (or_of s nm d (p + 1))
      (names_from p (p + 1) (or_of s nm d (p + 1)) (passed_byte s Is p 40 open_between w) (or_names d (bracket_names d) (p + 1) (seen_fresh s p 40 open_between w))))

  -- from a place where a name may begin
  pub formula_names : (d p : ℕ) → Fresh s p → Names p (or_of s nm d p)
  formula_names d = or_names d (bracket_names d)
