-- The grammar of formulas as a relation on the text: from p to q the text is a formula with this tree. Spaces after a
-- formula belong to it. `nm` reads a name at a place.
use Rattle.std.specs.Prelude.{◌≡◌, true, false, ◌⊎◌, List, ℕ, zero, suc, ◌+◌, ◌-◌}
use Rattle.formula.specs.Text.{seen, skip_of, tildes_of, wrap_with}
use Rattle.formula.specs.Tree.{Op, And, Xor, Or, sign_of, Tree, neg, bin, Res, got}

-- operands of D joined by the operator op, grouped from the left
pub data Chain (s : List ℕ) (op : Op) (D : ℕ → ℕ → Tree → Type 0) : ℕ → ℕ → Tree → Type 0 where
  one : {p q : ℕ} {t : Tree} → D p q t → Chain s op D p q t
  more : {p m q : ℕ} {a b : Tree} → Chain s op D p m a → seen s m (sign_of op) ≡ true → D (m + 1) q b → Chain s op D p q (bin op a b)

-- a W in brackets
pub record Bracketed (s : List ℕ) (W : ℕ → ℕ → Tree → Type 0) (p q : ℕ) (t : Tree) : Type 0 where
  pub last : ℕ
  pub opens : seen s p 40 ≡ true
  pub inside : W (p + 1) last t
  pub closes : seen s last 41 ≡ true
  pub end : q ≡ skip_of s (last + 1)

-- a name
pub record Named (s : List ℕ) (nm : ℕ → Res) (p q : ℕ) (t : Tree) : Type 0 where
  pub no_bracket : seen s p 40 ≡ false
  pub name : nm p ≡ got q t

-- a name or a B, after spaces
abbrev pub Atom : List ℕ → (ℕ → Res) → (ℕ → ℕ → Tree → Type 0) → ℕ → ℕ → Tree → Type 0
Atom s nm B p q t = Named s nm (skip_of s p) q t ⊎ B (skip_of s p) q t

-- any number of ~, with spaces between, before an A
pub record Inverted (s : List ℕ) (A : ℕ → ℕ → Tree → Type 0) (p q : ℕ) (t : Tree) : Type 0 where
  pub inner : Tree
  pub atom : A (tildes_of s p) q inner
  pub tree : t ≡ wrap_with neg s (tildes_of s p - p) p inner

-- a formula over names and B: ~ binds tightest, then & ^ |
abbrev pub Whole : List ℕ → (ℕ → Res) → (ℕ → ℕ → Tree → Type 0) → ℕ → ℕ → Tree → Type 0
Whole s nm B = Chain s Or (Chain s Xor (Chain s And (Inverted s (Atom s nm B))))

-- a bracketed formula from its bracket on, with at most d levels of brackets
abbrev pub Bracket : List ℕ → (ℕ → Res) → ℕ → ℕ → ℕ → Tree → Type 0
Bracket s nm zero p q t = ⊥
Bracket s nm (suc d) p q t = Bracketed s (Whole s nm (λ a b u. Bracket s nm d a b u)) p q t

-- a formula with at most d levels of brackets
abbrev pub Formula : List ℕ → (ℕ → Res) → ℕ → ℕ → ℕ → Tree → Type 0
Formula s nm d p q t = Whole s nm (Bracket s nm d) p q t

-- no binary operator stands at q
pub record Ended (s : List ℕ) (q : ℕ) : Type 0 where
  pub no_and : seen s q (sign_of And) ≡ false
  pub no_xor : seen s q (sign_of Xor) ≡ false
  pub no_or : seen s q (sign_of Or) ≡ false
