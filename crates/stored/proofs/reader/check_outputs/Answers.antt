-- `stored::reader::check_outputs` meets its contract. The invariant: what is left to read answers as all of it. Assumes nothing.
use native.Mathlib.Omega.{arith}
use borrow.Author.Rules.{rules}
use mathlib.Core.Path.{◌≡◌, refl, ap, ◌∙◌, sym}
use Prim.Native.Nat.{◌+◌, ◌-◌, ◌*◌}
use lib.ListN.{drop}
use Rattle.std.specs.Prelude.{Err}
use Rattle.std.proofs.lemmas.List.{take_rest}
use Rattle.stored.specs.Reading.{answers, out_here}
use Rattle.stored.proofs.Records.{answers_end, answers_stop, answers_next}
use Rattle.stored.proofs.reader.check_outputs.Goals as goal

pub loop-j-init : goal.loop-j-init
loop-j-init c = let a = c.args in
    let m : a.m - 0 ≡ a.m = omega arith in
    let f : a.from + 3 * 0 ≡ a.from = omega arith in
    λ i. answers (out_here a.lines) 3 0 (m i) (drop (f i) a.bytes.now)

pub returns-in_err-out_record : goal.returns-in_err-out_record
returns-in_err-out_record c = let a = c.args in
    let s = a.bytes.now in
    let j = c.loop-j.j in
    let at = a.from + 3 * j in
    let w = c.in_err-out_record.field-0.0 in
    let e : c.from_residual.result ≡ Err w = search rules in
    let f = sym (c.out_record.ensures ∙ ap (out_here a.lines 0) (take_rest s at)) ∙ c.in_err-out_record.was in
    e ∙ answers_stop (out_here a.lines) 3 s j (a.m - j) at w (omega arith) f ∙ c.loop-j.invariant

pub loop-j-preserved : goal.loop-j-preserved
loop-j-preserved c = let a = c.args in
    let s = a.bytes.now in
    let j = c.loop-j.j in
    let at = a.from + 3 * j in
    let f = sym (c.out_record.ensures ∙ ap (out_here a.lines 0) (take_rest s at)) ∙ c.in_ok-out_record.was in
    answers_next (out_here a.lines) 3 s j (a.m - j) at (j + 1) (a.m - (j + 1)) (a.from + 3 * (j + 1)) (omega arith) refl (omega arith) f
    ∙ c.loop-j.invariant

pub returns : goal.returns
returns c = let a = c.args in
    let j = c.loop-j.j in
    answers_end (out_here a.lines) 3 a.bytes.now j (a.m - j) (a.from + 3 * j) (omega arith) ∙ c.loop-j.invariant
