-- `stored::reader::check_gates` meets its contract. The invariant: what is left to read answers as all of it. Assumes nothing.
use native.Mathlib.Omega.{arith}
use borrow.Author.Rules.{rules}
use mathlib.Core.Path.{◌≡◌, ap, ◌∙◌, sym}
use Prim.Native.Nat.{◌+◌, ◌-◌, ◌*◌}
use lib.ListN.{drop}
use Rattle.std.specs.Prelude.{Err}
use Rattle.std.proofs.lemmas.List.{take_rest}
use Rattle.stored.specs.Reading.{answers, gate_here}
use Rattle.stored.proofs.Records.{answers_end, answers_stop, answers_next}
use Rattle.stored.proofs.reader.check_gates.Goals as goal

pub loop-j-init : goal.loop-j-init
loop-j-init c = let a = c.args in
    let n : a.n + 0 ≡ a.n = omega arith in
    let g : a.g - 0 ≡ a.g = omega arith in
    λ i. answers (gate_here a.only) 5 (n i) (g i) (drop 5 a.bytes.now)

pub returns-in_err-gate_record : goal.returns-in_err-gate_record
returns-in_err-gate_record c = let a = c.args in
    let s = a.bytes.now in
    let j = c.loop-j.j in
    let w = c.in_err-gate_record.field-0.0 in
    let e : c.from_residual.result ≡ Err w = search rules in
    let f = sym (c.gate_record.ensures ∙ ap (gate_here a.only (a.n + j)) (take_rest s (5 + 5 * j))) ∙ c.in_err-gate_record.was in
    e ∙ answers_stop (gate_here a.only) 5 s (a.n + j) (a.g - j) (5 + 5 * j) w (omega arith) f ∙ c.loop-j.invariant

pub loop-j-preserved : goal.loop-j-preserved
loop-j-preserved c = let a = c.args in
    let s = a.bytes.now in
    let j = c.loop-j.j in
    let f = sym (c.gate_record.ensures ∙ ap (gate_here a.only (a.n + j)) (take_rest s (5 + 5 * j))) ∙ c.in_ok-gate_record.was in
    answers_next (gate_here a.only) 5 s (a.n + j) (a.g - j) (5 + 5 * j) (a.n + (j + 1)) (a.g - (j + 1)) (5 + 5 * (j + 1)) (omega arith) (omega arith) (omega arith) f
    ∙ c.loop-j.invariant

pub returns : goal.returns
returns c = let a = c.args in
    let j = c.loop-j.j in
    answers_end (gate_here a.only) 5 a.bytes.now (a.n + j) (a.g - j) (5 + 5 * j) (omega arith) ∙ c.loop-j.invariant
