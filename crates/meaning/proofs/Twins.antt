-- The reader over a table finds the formula of the grammar, with the line of each name in the name's place.
use Rattle.std.specs.Prelude.{Option, Some, None}
use mathlib.Core.Path.{◌≡◌, refl, sym, subst}
use mathlib.Core.Bool.{Bool, true, false, cond}
use mathlib.Core.Logic.{inl, inr}
use mathlib.Core.List.{List}
use Prim.Native.Nat.{ℕ, zero, suc, ◌+◌, ◌-◌, ◌≤◌}
use native.Mathlib.Omega.{arith}
use borrow.Author.Tests.{ltb-false}
use lib.Dec.{leb, ltb}
use Rattle.formula.specs.Sizes.{longest}
use Rattle.formula.specs.Text.{seen, skip_of, tildes_of, word_end, wrap_with}
use Rattle.formula.specs.Tree.{Op, And, Xor, Or, Tree, leaf, neg, bin, got, bad}
use Rattle.formula.specs.Names.{named, name_by}
use Rattle.formula.specs.Levels.{or_of}
use Rattle.formula.proofs.Reading.{name_past}
use Rattle.grammar.specs.Grammar.{Chain, one, more, Atom, Inverted, Whole, Bracket}
use Rattle.grammar.specs.File.{any_name}
use Rattle.grammar.proofs.Unique.{got_is, formula-found, found-formula}
use Rattle.grammar.proofs.Files.{any_past}

module _ (s : List ℕ) (look : ℕ → ℕ → Option ℕ) where
  -- the second formula is the first with the line of each name, which is short enough, in the name's place
  pub data Lined : Tree → Tree → Type 0 where
    name : {a v : ℕ} → word_end s a - a ≤ longest → look a (word_end s a) ≡ Some v → Lined (leaf a) (leaf v)
    not : {u t : Tree} → Lined u t → Lined (neg u) (neg t)
    both : {o : Op} {a b c d : Tree} → Lined a c → Lined b d → Lined (bin o a b) (bin o c d)

  -- a formula of W from p to q, whose lines are those of t
  pub record Twin (W : ℕ → ℕ → Tree → Type 0) (p q : ℕ) (t : Tree) : Type 0 where
    pub tree : Tree
    pub reads : W p q tree
    pub lined : Lined tree t

  -- each formula of D has a twin in E
  abbrev Twins : (ℕ → ℕ → Tree → Type 0) → (ℕ → ℕ → Tree → Type 0) → Type 0
  Twins D E = (p q : ℕ) (t : Tree) → D p q t → Twin E p q t

  chain_twins : (op : Op) (D E : ℕ → ℕ → Tree → Type 0) → Twins D E → Twins (Chain s op D) (Chain s op E)
  chain_twins op D E h p q t (one d) = let w = h p q t d in record { tree = w.tree; reads = one w.reads; lined = w.lined }
  chain_twins op D E h p q t (more {m = m} {a = a} {b = b} c w d) =
      let x = chain_twins op D E h p m a c in
      let y = h (m + 1) q b d in
      record { tree = bin op x.tree y.tree; reads = more x.reads w y.reads; lined = both x.lined y.lined }

  wrap_lined : (f i : ℕ) (u t : Tree) → Lined u t → Lined (wrap_with neg s f i u) (wrap_with neg s f i t)
  unfolding wrap_with
  wrap_lined zero i u t h = h
  wrap_lined (suc f) i u t h = by (seen s i 126) (wrap_lined f (i + 1))
    where
      by : (b : Bool) → ((u t : Tree) → Lined u t → Lined (wrap_with neg s f (i + 1) u) (wrap_with neg s f (i + 1) t))
          → Lined (wrap_with neg s f (i + 1) (cond b (neg u) u)) (wrap_with neg s f (i + 1) (cond b (neg t) t))
      by true ih = ih (neg u) (neg t) (not h)
      by false ih = ih u t h

  inverted_twins : (D E : ℕ → ℕ → Tree → Type 0) → Twins D E → Twins (Inverted s D) (Inverted s E)
  inverted_twins D E h p q t i =
      let n = tildes_of s p - p in
      let w = h (tildes_of s p) q i.inner i.atom in
      record {
        tree = wrap_with neg s n p w.tree;
        reads = record { inner = w.tree; atom = w.reads; tree = refl };
        lined = subst (Lined (wrap_with neg s n p w.tree)) (sym i.tree) (wrap_lined n p w.tree i.inner w.lined);
      }

  -- a name's twin is the place where it stands
  named_twin : (p q : ℕ) (t : Tree) → name_by s look p ≡ got q t → (any_name s p ≡ got q (leaf p)) × Lined (leaf p) t
  unfolding name_by
  named_twin p q t e = by (leb (word_end s p) p) (ltb longest (word_end s p - p)) refl (look p (word_end s p)) refl e
    where
      by : (a b : Bool) → ltb longest (word_end s p - p) ≡ b → (f : Option ℕ) → look p (word_end s p) ≡ f
          → cond a (bad p) (cond b (bad (p + longest)) (named s (word_end s p) f)) ≡ got q t
          → (cond a (bad p) (cond b (bad (p + longest)) (named s (word_end s p) (Some p))) ≡ got q (leaf p)) × Lined (leaf p) t
      by true b eb f ef e = let z : ◌≡◌ {A = ℕ} 0 1 = cc in absurd (omega arith)
      by false true eb f ef e = let z : ◌≡◌ {A = ℕ} 0 1 = cc in absurd (omega arith)
      by false false eb None ef e = let z : ◌≡◌ {A = ℕ} 0 1 = cc in absurd (omega arith)
      by false false eb (Some v) ef e =
          got_is (λ q t. (got (skip_of s (word_end s p)) (leaf p) ≡ got q (leaf p)) × Lined (leaf p) t) (skip_of s (word_end s p)) q (leaf v) t e
          (refl, name (ltb-false longest (word_end s p - p) eb) ef)

  atom_twins : (B C : ℕ → ℕ → Tree → Type 0) → Twins B C → Twins (Atom s (name_by s look) B) (Atom s (any_name s) C)
  atom_twins B C h p q t (inl w) =
      let n = named_twin (skip_of s p) q t w.name in
      record { tree = leaf (skip_of s p); reads = inl (record { no_bracket = w.no_bracket; name = n.0 }); lined = n.1 }
  atom_twins B C h p q t (inr w) = let x = h (skip_of s p) q t w in record { tree = x.tree; reads = inr x.reads; lined = x.lined }

  whole_twins : (B C : ℕ → ℕ → Tree → Type 0) → Twins B C → Twins (Whole s (name_by s look) B) (Whole s (any_name s) C)
  whole_twins B C h =
      chain_twins Or _ _ (chain_twins Xor _ _ (chain_twins And _ _ (inverted_twins (Atom s (name_by s look) B) (Atom s (any_name s) C) (atom_twins B C h))))

  bracket_twins : (d : ℕ) → Twins (Bracket s (name_by s look) d) (Bracket s (any_name s) d)
  bracket_twins zero p q t w = absurd w
  bracket_twins (suc d) p q t w =
      let x = whole_twins (Bracket s (name_by s look) d) (Bracket s (any_name s) d) (bracket_twins d) (p + 1) w.last t w.inside in
      record { tree = x.tree; reads = record { last = w.last; opens = w.opens; inside = x.reads; closes = w.closes; end = w.end }; lined = x.lined }

  -- where the reader finds a formula over these names, it finds its twin over any names
  pub twin : (d p z : ℕ) (t : Tree) → or_of s (name_by s look) d p ≡ got z t → Twin (λ p z u. or_of s (any_name s) d p ≡ got z u) p z t
  twin d p z t e =
      let f = found-formula s (name_by s look) (name_past s look) d p z t e in
      let w = whole_twins (Bracket s (name_by s look) d) (Bracket s (any_name s) d) (bracket_twins d) p z t f.0 in
      record { tree = w.tree; reads = formula-found s (any_name s) (any_past s) d p z w.tree w.reads f.1; lined = w.lined }
