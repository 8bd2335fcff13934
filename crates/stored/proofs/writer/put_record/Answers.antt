-- `stored::writer::put_record` meets its contract. Assumes nothing.
use native.Mathlib.Omega.{arith}
use mathlib.Core.Path.{◌≡◌, ◌∙◌}
use borrow.Author.Rules.{rules}
use Prim.Native.Nat.{◌+◌, ◌-◌}
use lib.ListN.{length}
use Rattle.stored.specs.Writing.{over}
use Rattle.stored.proofs.Over.{put_over, over-over}
use Rattle.stored.proofs.writer.put_record.Goals as goal

pub returns : goal.returns
returns c = let a = c.args in
    let R = a.room.now in
    let fields = a.fields.now in
    let two : length a.mark ≡ 2 = search rules in
    let marked : a.at + 2 - a.at ≡ length a.mark = omega (arith, two) in
    let filled : a.at + 2 + length fields - (a.at + 2) ≡ length fields = omega arith in
    let front : a.at + 2 ≡ a.at + length a.mark = omega (arith, two) in
    let both = over-over R a.at a.mark fields (omega (arith, two)) in
    let first = put_over R a.at _ _ a.mark c.copy_from_slice.ensures.after marked in
    put_over _ _ _ _ fields c.copy_from_slice-2.ensures.after filled ∙ (λ i. over (first i) (front i) fields) ∙ both
