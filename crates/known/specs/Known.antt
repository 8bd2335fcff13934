-- The names of a text: which are the same, which one a line sets, which are known where they stand, and the first at fault.
use Rattle.std.specs.Prelude.{◌≡◌, Bool, true, false, cond, ◌⊎◌, List, ℕ, zero, suc, ◌+◌, ◌-◌, ◌≤◌, ◌<◌, eqb, get_or, take, drop}
use Rattle.text.specs.Places.{same_list}
use Rattle.formula.specs.Sizes.{longest}
use Rattle.formula.specs.Text.{seen, in_class, skip_of, word_end}
use Rattle.formula.specs.Names.{input_of, is_line}
use Rattle.formula.specs.declared.Class.TheVariants.{Letter}
use Rattle.grammar.specs.File.{Begins}

-- the bytes of the name at p
abbrev pub word_at : List ℕ → ℕ → List ℕ
word_at s p = take (word_end s p - p) (drop p s)

-- the same name stands at a and at b
abbrev pub same_name : List ℕ → ℕ → ℕ → Bool
same_name s a b = same_list (word_at s a) (word_at s b)

-- a name begins at p: a letter or digit stands there and none before it, and it is not too long
pub record Word (s : List ℕ) (p : ℕ) : Type 0 where
  pub here : in_class Letter (get_or s p 0) ≡ true
  pub first : (q : ℕ) → suc q ≡ p → in_class Letter (get_or s q 0) ≡ false
  pub short : word_end s p ≤ p + longest

-- where the line of the place p begins
unfoldable pub line_start : List ℕ → ℕ → ℕ
line_start s zero = 0
line_start s (suc p) = cond (seen s p 10) (suc p) (line_start s p)

-- the name at p is the one that its line sets: only spaces stand before it
unfoldable pub is_target : List ℕ → ℕ → Bool
is_target s p = eqb (skip_of s (line_start s p)) p

-- the name at p is an input, x0 to x7
abbrev pub is_input : List ℕ → ℕ → Bool
is_input s p = is_line (input_of s p (word_end s p))

-- a line before that of p sets the name at p
pub record SetBefore (s : List ℕ) (p : ℕ) : Type 0 where
  pub at : ℕ
  pub word : Word s at
  pub target : is_target s at ≡ true
  pub before : at < line_start s p
  pub same : same_name s at p ≡ true

-- the name at p is known there: an input, or set on a line before
abbrev pub Known : List ℕ → ℕ → Type 0
Known s p = (is_input s p ≡ true) ⊎ SetBefore s p

-- the name at p is at fault: to be set and known already, or to be read and not known
pub record Fault (s : List ℕ) (p : ℕ) : Type 0 where
  pub word : Word s p
  pub wrong : ((is_target s p ≡ true) × Known s p) ⊎ ((is_target s p ≡ false) × (Known s p → ⊥))

-- q is the last byte of the first name at fault, and everything up to it begins a good text (16)
pub record NameFault (s : List ℕ) (q : ℕ) : Type 0 where
  pub at : ℕ
  pub fault : Fault s at
  pub ends : word_end s at ≡ suc q
  pub first : (p : ℕ) → p < at → Fault s p → ⊥
  pub begins : Begins s (suc q)
