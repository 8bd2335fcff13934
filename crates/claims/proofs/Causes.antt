-- Refusals in their order: a table of causes, each with its number, and the law that a chain of tests gives the table's number.
use mathlib.Core.Path.{◌≡◌, refl, sym}
use mathlib.Core.Bool.{Bool, true, false, true≢false, not, ◌&&◌, ◌||◌}
use mathlib.Core.Logic.{◌↔◌, ◌⊎◌, inl, inr}
use mathlib.Core.List.{List, [], ◌∷◌, map}
use Prim.Native.Nat.{ℕ, ◌≤◌, ◌<◌}
use native.Mathlib.Omega.{arith}
use borrow.Author.Tests.{ltb-true, ltb-false, leb-true, leb-false, eqb-true, eqb-false, not-true, not-false}
use lib.Dec.{leb, ltb, eqb}
use Rattle.circuit.specs.Lines.{any_of}

-- ---- tables

-- where the cause is there, its number; where it is not, what the rest of the table says
abbrev pub first : ℕ → Type 0 → (ℕ → Type 0) → ℕ → Type 0
first number cause rest n = (cause × (n ≡ number)) ⊎ ((cause → ⊥) × rest n)

-- no cause is left: 0, which is no refusal
abbrev pub accepted : ℕ → Type 0
accepted n = n ≡ 0

-- the number is n exactly when the table says n
abbrev pub GivenExactly : ℕ → (ℕ → Type 0) → Type 0
GivenExactly number table = (n : ℕ) → (number ≡ n) ↔ table n

-- some entry of a list is so: the first, or one of the others
abbrev pub Some : {A : Type 0} → (A → Type 0) → List A → Type 0
Some P [] = ⊥
Some P (x ∷ xs) = P x ⊎ Some P xs

-- ---- a cause that is there, one that is not, and the end

pub hit : (number : ℕ) {cause : Type 0} (rest : ℕ → Type 0) → cause → GivenExactly number (first number cause rest)
hit number {cause} rest c n = (λ e. inl (c, sym e), back)
  where
    back : first number cause rest n → number ≡ n
    back (inl h) = sym h.1
    back (inr h) = absurd (h.0 c)

pub miss : (number other : ℕ) {cause : Type 0} (rest : ℕ → Type 0) → (cause → ⊥) → GivenExactly other rest → GivenExactly other (first number cause rest)
miss number other {cause} rest c g n = (λ e. inr (c, (g n).0 e), back)
  where
    back : first number cause rest n → other ≡ n
    back (inl h) = absurd (c h.0)
    back (inr h) = (g n).1 h.1

pub none_left : GivenExactly 0 accepted
none_left n = (sym, sym)

-- what a table says of a number: past a cause that has another, and at its own, where the rest does not say it
pub past_cause : {cause none rest : Type 0} {number n : ℕ} → (n ≡ number → ⊥) → (cause × (n ≡ number)) ⊎ (none × rest) → none × rest
past_cause other (inl h) = absurd (other h.1)
past_cause other (inr h) = h

pub own_cause : {cause own none rest : Type 0} → (rest → ⊥) → (cause × own) ⊎ (none × rest) → cause
own_cause silent (inl h) = h.0
own_cause silent (inr h) = absurd (silent h.1)

-- ---- tests

-- a test is true exactly when P
pub record Tells (t : Bool) (P : Type 0) : Type 0 where
  pub holds : t ≡ true → P
  pub not_else : t ≡ false → P → ⊥

-- a test is false exactly when P
pub record Fails (t : Bool) (P : Type 0) : Type 0 where
  pub holds : t ≡ false → P
  pub not_else : t ≡ true → P → ⊥

pub tells_as : {t : Bool} {P Q : Type 0} → (P → Q) → (Q → P) → Tells t P → Tells t Q
tells_as f g x = record { holds = λ e. f (x.holds e); not_else = λ e q. x.not_else e (g q) }

pub fails_as : {t : Bool} {P Q : Type 0} → (P → Q) → (Q → P) → Fails t P → Fails t Q
fails_as f g x = record { holds = λ e. f (x.holds e); not_else = λ e q. x.not_else e (g q) }

-- a test that tells P fails where P does not hold, and its opposite fails where P does
pub fails_where_not : {t : Bool} {P : Type 0} → Tells t P → Fails t (P → ⊥)
fails_where_not x = record { holds = x.not_else; not_else = λ e h. h (x.holds e) }

pub not_fails : {t : Bool} {P : Type 0} → Tells t P → Fails (not t) P
not_fails {t} x = record { holds = λ e. x.holds (not-false t e); not_else = λ e. x.not_else (not-true t e) }

pub not_tells : {t : Bool} {P : Type 0} → Fails t P → Tells (not t) P
not_tells {t} x = record { holds = λ e. x.holds (not-true t e); not_else = λ e. x.not_else (not-false t e) }

-- where the cause is not there a test that fails on it is true, and one that tells it is false
pub passes : {t : Bool} {P : Type 0} → Fails t P → (P → ⊥) → t ≡ true
passes {t = true} x free = refl
passes {t = false} x free = absurd (free (x.holds refl))

pub silent : {t : Bool} {P : Type 0} → Tells t P → (P → ⊥) → t ≡ false
silent {t = true} x free = absurd (free (x.holds refl))
silent {t = false} x free = refl

either : {P Q : Type 0} → (P → ⊥) → (Q → ⊥) → P ⊎ Q → ⊥
either p q (inl h) = p h
either p q (inr h) = q h

pub tells_or : {t u : Bool} {P Q : Type 0} → Tells t P → Tells u Q → Tells (t || u) (P ⊎ Q)
tells_or {t = true} x y = record { holds = λ e. inl (x.holds refl); not_else = λ e. absurd (true≢false e) }
tells_or {t = false} x y = record { holds = λ e. inr (y.holds e); not_else = λ e. either (x.not_else refl) (y.not_else e) }

-- one of two tests fails
pub fails_and : {t u : Bool} {P Q : Type 0} → Fails t P → Fails u Q → Fails (t && u) (P ⊎ Q)
fails_and {t = true} x y = record { holds = λ e. inr (y.holds e); not_else = λ e. either (x.not_else refl) (y.not_else e) }
fails_and {t = false} x y = record { holds = λ e. inl (x.holds refl); not_else = λ e. absurd (true≢false (sym e)) }

pub tells_lt : (a b : ℕ) → Tells (ltb a b) (a < b)
tells_lt a b = record { holds = ltb-true a b; not_else = λ e h. omega (arith, ltb-false a b e) }

pub tells_le : (a b : ℕ) → Tells (leb a b) (a ≤ b)
tells_le a b = record { holds = leb-true a b; not_else = λ e h. omega (arith, leb-false a b e) }

pub tells_eq : (a b : ℕ) → Tells (eqb a b) (a ≡ b)
tells_eq a b = record { holds = eqb-true a b; not_else = eqb-false a b }

pub fails_lt : (a b : ℕ) → Fails (ltb a b) (b ≤ a)
fails_lt a b = record { holds = ltb-false a b; not_else = λ e h. omega (arith, ltb-true a b e) }

pub fails_le : (a b : ℕ) → Fails (leb a b) (b < a)
fails_le a b = record { holds = leb-false a b; not_else = λ e h. omega (arith, leb-true a b e) }

-- a test of each entry of a list
pub tells_some : {A : Type 0} {f : A → Bool} {P : A → Type 0} → ((x : A) → Tells (f x) (P x)) → (xs : List A) → Tells (any_of (map f xs)) (Some P xs)
tells_some each [] = record { holds = λ e. absurd (true≢false (sym e)); not_else = λ e s. s }
tells_some each (x ∷ xs) = tells_or (each x) (tells_some each xs)

-- ---- chains of tests

-- a chain gives the number `f t` by its first test t, which fails exactly when the cause is there
pub chain_under : (f : Bool → ℕ) {t : Bool} {cause : Type 0} {rest : ℕ → Type 0} → Fails t cause → (t ≡ true → GivenExactly (f true) rest)
    → GivenExactly (f t) (first (f false) cause rest)
chain_under f {t = true} {rest} x g = miss (f false) (f true) rest (x.not_else refl) (g refl)
chain_under f {t = false} {rest} x g = hit (f false) rest (x.holds refl)

-- where what follows needs no word of the test
pub chain : (f : Bool → ℕ) {t : Bool} {cause : Type 0} {rest : ℕ → Type 0} → Fails t cause → GivenExactly (f true) rest
    → GivenExactly (f t) (first (f false) cause rest)
chain f x g = chain_under f x (λ e. g)

-- the same of a test that is true exactly when the cause is there
pub chain_on : (f : Bool → ℕ) {t : Bool} {cause : Type 0} {rest : ℕ → Type 0} → Tells t cause → GivenExactly (f false) rest
    → GivenExactly (f t) (first (f true) cause rest)
chain_on f {t = true} {rest} x g = hit (f true) rest (x.holds refl)
chain_on f {t = false} {rest} x g = miss (f true) (f false) rest (x.not_else refl) g
