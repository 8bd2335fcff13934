-- An equation file as a relation on the text: blank lines and assignments, whatever the names are; and the place of the
-- first byte that no good text has there. A name is the place where it stands.
use Rattle.std.specs.Prelude.{Some}
use Rattle.std.specs.Prelude.{◌≡◌, Bool, true, cond, List, [], ◌∷◌, ◌++◌, ℕ, suc, ◌+◌, ◌≤◌, ◌<◌, ltb, eqb, length, get_or, take}
use Rattle.formula.specs.Sizes.{most_names, longest, nesting}
use Rattle.formula.specs.Text.{seen, skip_of, word_end}
use Rattle.formula.specs.Tree.{Tree, Res}
use Rattle.formula.specs.Names.{name_by}
use Rattle.grammar.specs.Grammar.{Formula}

-- the name at p, whatever it is: its leaf is p
abbrev pub any_name : List ℕ → ℕ → Res
any_name s = name_by s (λ p e. Some p)

-- a line ends at z: with LF, or with the text
unfoldable pub line_ends : List ℕ → ℕ → Bool
line_ends s z = cond (ltb z (length s)) (eqb (get_or s z 0) 10) true

-- where = is to stand after the name at p
abbrev pub sign_after : List ℕ → ℕ → ℕ
sign_after s p = skip_of s (word_end s p)

-- what an assignment says: the place of the name that is set, and its formula
pub record Assignment : Type 0 where
  pub name : ℕ
  pub formula : Tree

-- from p to z the text is the assignment a: a name, =, a formula to the end of the line
pub record Assigns (s : List ℕ) (p z : ℕ) (a : Assignment) : Type 0 where
  pub name : a.name ≡ p
  pub some : p < word_end s p
  pub short : word_end s p ≤ p + longest
  pub sign : seen s (sign_after s p) 61 ≡ true
  pub formula : Formula s (any_name s) nesting (sign_after s p + 1) z a.formula
  pub line : line_ends s z ≡ true

-- from p on the text is blank lines and these assignments, c standing before them
pub data Lines (s : List ℕ) : ℕ → ℕ → List Assignment → Type 0 where
  over : {c p : ℕ} → skip_of s p ≡ length s → Lines s c p []
  blank : {c p : ℕ} {l : List Assignment} → seen s (skip_of s p) 10 ≡ true → Lines s c (skip_of s p + 1) l → Lines s c p l
  assigned : {c p z : ℕ} {a : Assignment} {l : List Assignment} → c < most_names → Assigns s (skip_of s p) z a → Lines s (suc c) z l → Lines s c p (a ∷ l)

-- the text is a file with these assignments
abbrev pub File : List ℕ → List Assignment → Type 0
File s l = Lines s 0 0 l

-- the text is a file
pub record Good (s : List ℕ) : Type 0 where
  pub reading : List Assignment
  pub file : File s reading

-- some good text begins with the first p bytes
pub record Begins (s : List ℕ) (p : ℕ) : Type 0 where
  pub rest : List ℕ
  pub good : Good (take p s ++ rest)

-- p is the place of the first byte that no good text has there; the text's length where it stops too soon
pub record Place (s : List ℕ) (p : ℕ) : Type 0 where
  pub within : p ≤ length s
  pub some : Begins s p
  pub none : p < length s → Begins s (p + 1) → ⊥
  pub short : p ≡ length s → Good s → ⊥
