-- `circuit::gate::eval_gate` meets its contract: on each way the kind's number is known. Assumes nothing.
use native.Mathlib.Omega.{arith}
use borrow.Author.Rules.{rules}
use mathlib.Core.Path.{◌≡◌, ◌∙◌, sym, ap}
use Prim.Native.Nat.{ℕ}
use Rattle.circuit.specs.declared.Words.{Words}
use Rattle.circuit.specs.Gate.{Kind, kind_of, words_of}
use Rattle.circuit.proofs.GateLaws.{high_not}
use Rattle.circuit.proofs.WordLaws.{words_are}
use Rattle.circuit.proofs.gate.eval_gate.Goals as goal

pub returns-then-kind-eq0 : goal.returns-then-kind-eq0
returns-then-kind-eq0 c = let a = c.args in
    let e : a.kind ≡ 0 = omega arith in
    words_are Kind.XOR a.a a.b _ (search rules) (search rules) (search rules) (search rules) ∙ sym (ap (λ (k : ℕ). words_of (kind_of k) a.a a.b) e)

pub returns-else-kind-eq0 : goal.returns-else-kind-eq0
unfolding words_of
returns-else-kind-eq0 c = let a = c.args in
    let e : a.kind ≡ 1 = omega arith in
    c.not.ensures
    ∙ ap (λ (w : Words). words_of Kind.NOT w w) (words_are Kind.XOR a.a a.b c.each_word-xor.result (search rules) (search rules) (search rules) (search rules))
    ∙ sym (ap (λ (k : ℕ). words_of (kind_of k) a.a a.b) e)

pub returns-then-kind-eq2 : goal.returns-then-kind-eq2
returns-then-kind-eq2 c = let a = c.args in
    let e : a.kind ≡ 2 = omega arith in
    words_are Kind.AND a.a a.b _ (search rules) (search rules) (search rules) (search rules) ∙ sym (ap (λ (k : ℕ). words_of (kind_of k) a.a a.b) e)

pub returns-else-kind-eq2 : goal.returns-else-kind-eq2
unfolding words_of
returns-else-kind-eq2 c = let a = c.args in
    let e : a.kind ≡ 3 = omega arith in
    c.not-else-kind-eq2.ensures
    ∙ ap (λ (w : Words). words_of Kind.NOT w w) (words_are Kind.AND a.a a.b c.each_word-and.result (search rules) (search rules) (search rules) (search rules))
    ∙ sym (ap (λ (k : ℕ). words_of (kind_of k) a.a a.b) e)

pub returns-then-kind-eq4 : goal.returns-then-kind-eq4
returns-then-kind-eq4 c = let a = c.args in
    let e : a.kind ≡ 4 = omega arith in
    words_are Kind.OR a.a a.b _ (search rules) (search rules) (search rules) (search rules) ∙ sym (ap (λ (k : ℕ). words_of (kind_of k) a.a a.b) e)

pub returns-else-kind-eq4 : goal.returns-else-kind-eq4
unfolding words_of
returns-else-kind-eq4 c = let a = c.args in
    let e : a.kind ≡ 5 = omega arith in
    c.not-else-kind-eq4.ensures
    ∙ ap (λ (w : Words). words_of Kind.NOT w w) (words_are Kind.OR a.a a.b c.each_word-or.result (search rules) (search rules) (search rules) (search rules))
    ∙ sym (ap (λ (k : ℕ). words_of (kind_of k) a.a a.b) e)

pub returns-in_default : goal.returns-in_default
unfolding words_of
returns-in_default c = let a = c.args in
    c.not-in_default.ensures ∙ sym (ap (λ (k : Kind). words_of k a.a a.b) (high_not a.kind (omega arith)))
