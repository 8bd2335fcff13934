-- An automaton over bytes, with counters, that accepts the good texts. A device of the proofs: no statement speaks of it.
use mathlib.Core.Path.{◌≡◌, refl, ap, ◌∙◌}
use mathlib.Core.Bool.{Bool, true, false, cond}
use mathlib.Core.List.{List, [], ◌∷◌, ◌++◌}
use Prim.Native.Nat.{ℕ, zero, suc, ◌+◌, ◌<◌}
use native.Mathlib.Omega.{arith}
use lib.Dec.{leb, ltb, eqb}
use lib.ListN.{length, get_or, take}
use lib.Seq.{take-suc, take-length}
use Rattle.formula.specs.Sizes.{most_names, longest, nesting}
use Rattle.formula.specs.Text.{is_letter, in_class}
use Rattle.formula.specs.declared.Class.TheVariants.{Tilde, Letter}

-- what stands before this place, c assignments being over: the name that is set, and = is to come; or an operand, with
-- d levels of brackets left and o open
pub data End : Type 0 where
  sign : ℕ → End
  after : ℕ → ℕ → ℕ → End

-- where a text is
pub data State : Type 0 where
  fresh : ℕ → State  -- before an assignment, or at the end
  want : ℕ → ℕ → ℕ → State  -- before an operand
  word : ℕ → End → State  -- in a name of which so many bytes were read
  then : End → State  -- past it
  dead : State

-- after an opening bracket, a closing one, the end of a line
abbrev pub opened : ℕ → ℕ → ℕ → State
opened c zero o = dead
opened c (suc d) o = want c d (suc o)

abbrev pub closed : ℕ → ℕ → ℕ → State
closed c d zero = dead
closed c d (suc o) = then (after c (suc d) o)

abbrev pub ended : ℕ → ℕ → State
ended c zero = fresh (suc c)
ended c (suc o) = dead

-- a byte after a name
abbrev pub next : End → ℕ → State
next (sign c) b = cond (eqb b 32) (then (sign c)) (cond (eqb b 61) (want c nesting 0) dead)
next (after c d o) b =
    cond (eqb b 32) (then (after c d o)) (cond (eqb b 38) (want c d o) (cond (eqb b 94) (want c d o) (cond (eqb b 124) (want c d o) (cond (eqb b 41) (closed c d o) (cond (eqb b 10) (ended c o) dead)))))

-- a byte more
unfoldable pub step : State → ℕ → State
step (fresh c) b = cond (eqb b 32) (fresh c) (cond (eqb b 10) (fresh c) (cond (leb most_names c) dead (cond (in_class Letter b) (word 1 (sign c)) dead)))
step (want c d o) b = cond (in_class Tilde b) (want c d o) (cond (eqb b 40) (opened c d o) (cond (in_class Letter b) (word 1 (after c d o)) dead))
step (word l k) b = cond (in_class Letter b) (cond (ltb l longest) (word (suc l) k) dead) (next k b)
step (then k) b = next k b
step dead b = dead

-- a text more
abbrev pub run : State → List ℕ → State
run x [] = x
run x (b ∷ l) = run (step x b) l

-- the text may end here, after a name or an operand
abbrev pub full : End → Bool
full (sign c) = false
full (after c d zero) = true
full (after c d (suc o)) = false

-- the text may end here
abbrev pub ok : State → Bool
ok (fresh c) = true
ok (want c d o) = false
ok (word l k) = full k
ok (then k) = full k
ok dead = false

-- some good text goes on from here
abbrev pub live : State → Bool
live dead = false
live (fresh c) = true
live (want c d o) = true
live (word l k) = true
live (then k) = true

-- the state at the place p
unfoldable pub trace : List ℕ → ℕ → State
trace s p = run (fresh 0) (take p s)

-- ---- runs

pub run-append : (x : State) (l m : List ℕ) → run x (l ++ m) ≡ run (run x l) m
run-append x [] m = refl
run-append x (b ∷ l) m = run-append (step x b) l m

pub run_dead : (l : List ℕ) → run dead l ≡ dead
unfolding step
run_dead [] = refl
run_dead (b ∷ l) = run_dead l

pub trace_zero : (s : List ℕ) → trace s 0 ≡ fresh 0
unfolding trace
trace_zero s = refl

pub trace_next : (s : List ℕ) (p : ℕ) → p < length s → trace s (p + 1) ≡ step (trace s p) (get_or s p 0)
unfolding trace
trace_next s p h =
    let z : p + 1 ≡ suc p = omega arith in
    ap (λ (n : ℕ). run (fresh 0) (take n s)) z ∙ ap (run (fresh 0)) (take-suc s p 0 h) ∙ run-append (fresh 0) (take p s) (get_or s p 0 ∷ [])

pub trace_all : (s : List ℕ) → trace s (length s) ≡ run (fresh 0) s
unfolding trace
trace_all s = ap (run (fresh 0)) (take-length s)

-- ---- a text that is not dead can be finished

-- what closes o brackets,
abbrev pub brackets : ℕ → List ℕ
brackets zero = []
brackets (suc o) = 41 ∷ brackets o

-- what may follow a name or an operand,
abbrev pub rest : End → List ℕ
rest (sign c) = 61 ∷ 97 ∷ []
rest (after c d o) = brackets o

-- and any state that is not dead
abbrev pub finish : State → List ℕ
finish (fresh c) = []
finish (want c d o) = 97 ∷ brackets o
finish (word l k) = rest k
finish (then k) = rest k
finish dead = []

closes : (c d o : ℕ) → ok (run (then (after c d o)) (brackets o)) ≡ true
unfolding step
closes c d zero = refl
closes c d (suc o) = closes c (suc d) o

rests : (k : End) → ok (run (then k) (rest k)) ≡ true
unfolding step in_class is_letter
rests (sign c) = refl
rests (after c d o) = closes c d o

-- what finishes a name begins with no byte of a name
in_word : (l : ℕ) (k : End) → ok (run (word l k) (rest k)) ≡ true
unfolding step in_class is_letter
in_word l (sign c) = refl
in_word l (after c d zero) = refl
in_word l (after c d (suc o)) = closes c (suc d) o

pub finishes : (x : State) → live x ≡ true → ok (run x (finish x)) ≡ true
unfolding step in_class is_letter
finishes (fresh c) h = refl
finishes (want c d o) h = in_word 1 (after c d o)
finishes (word l k) h = in_word l k
finishes (then k) h = rests k
finishes dead h = let z : ◌≡◌ {A = ℕ} 0 1 = cc in absurd (omega arith)
