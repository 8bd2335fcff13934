-- What the functions inside the report promise to one another: the verdict from what a bench holds.
use Rattle.std.specs.Prelude.{Bool, cond, not, List, ℕ, zero, suc, ◌^◌, ltb, eqb, get_or}
use Rattle.circuit.specs.declared.Words.{Words}
use Rattle.circuit.specs.Gate.{Kind, words_of, no_words, value_in}
use Rattle.circuit.specs.Sizes.{most_values}
use Rattle.circuit.specs.Structs.{line_in}
use Rattle.bench.specs.declared.Bench.{Bench}
use Rattle.bench.specs.declared.Verdict.{Verdict}
use Rattle.bench.specs.declared.Verdict.TheVariants.{Wrong, OverGates, OverDepth, OverAndDepth, Pass}
use Rattle.bench.specs.State.{least}

-- the values of output j, where each line has its values
abbrev pub out_words : List Words → List ℕ → ℕ → Words
out_words values outputs j = get_or values (line_in (get_or outputs j 0)) no_words

-- which inputs have a differing output among the first j, in words
unfoldable pub differences : List Words → List ℕ → List Words → ℕ → Words
differences values outputs wanted zero = no_words
differences values outputs wanted (suc j) =
    words_of Kind.OR (differences values outputs wanted j) (words_of Kind.XOR (out_words values outputs j) (get_or wanted j no_words))

-- output j of a bench differs on input value x
abbrev pub differs_in : List Words → List ℕ → List Words → ℕ → ℕ → Bool
differs_in values outputs wanted x j = not (eqb (value_in (out_words values outputs j) x) (value_in (get_or wanted j no_words) x))

-- the first verdict that applies to a bench, where x is the smallest input value with a differing output
abbrev pub judged_at : Bench → ℕ → ℕ → ℕ → Verdict
judged_at b depth ands x =
    cond (ltb x (2 ^ b.n)) (Wrong (record { input = x; output = least (differs_in b.values b.outputs b.wanted x) b.m 0 }))
    (cond (ltb b.max_gates b.g) OverGates
    (cond (ltb b.max_depth depth) OverDepth
    (cond (ltb b.max_and_depth ands) OverAndDepth
    Pass)))

-- the first verdict that applies to a bench
unfoldable pub judged : Bench → ℕ → ℕ → Verdict
judged b depth ands = judged_at b depth ands (least (λ (x : ℕ). eqb (value_in (differences b.values b.outputs b.wanted b.m) x) 1) most_values 0)
