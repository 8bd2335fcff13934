-- `sweep::merge` meets its contract. The invariant: the arrays hold the gates kept so far, their keys, and the new lines. Assumes nothing.
use mathlib.Core.Path.{refl}
use Prim.Native.Nat.{◌+◌}
use native.Mathlib.Omega.{arith}
use borrow.Author.Rules.{rules}
use lib.ListN.{get_or}
use Rattle.circuit.specs.Lines.{gate}
use Rattle.circuit.specs.Structs.{gate_of}
use Rattle.sweep.proofs.Holding.{Merged, merged_start, merged_count, merged_dropped, put_is, put_at, merged_same, merged_new, merged_moved, merged_end}
use Rattle.sweep.proofs.merge.Goals as goal
use Rattle.sweep.proofs.merge.Goals.{then-live-line, then-at-count, else-at-count, else-live-line}

pub loop-k-init : goal.loop-k-init
loop-k-init c = let a = c.args in
    (search rules, merged_start a.c a.live c.first_lines-new.result c.first_lines-new.ensures)

pub loop-k-preserved : goal.loop-k-preserved
loop-k-preserved c = let a = c.args in
    let C = a.c in
    let live = a.live in
    let k = c.loop-k.k in
    let new = c.loop-k.new in
    let t = c.loop-k.invariant.1 in
    let f = c.if-live-line in
    let next : Merged C live (k + 1) f.keys f.kinds f.left f.right f.new f.count =
    elim f.branch [
      | then-live-line w ↦
          let x = w.line_index.result in
          let y = w.line_index-then-live-line in
          let b = w.second_line-b.result in
          let p = gate (gate_of C k).kind (get_or new x 0) b in
          let is = put_is C live k t x y.result b w.line_index.ensures.0 y.ensures.0 w.second_line-b.ensures in
          let at = put_at C live (omega arith) (omega arith) k (omega arith) t p is w.key_of-key.result w.find_key-at.result w.key_of-key.ensures w.find_key-at.ensures.0 in
          merged_moved C live (k + 1) w.keys-is w.kinds-is w.left-is w.right-is w.new-is w.count-is
          (elim w.if-at-count.branch [
            | then-at-count v ↦ merged_moved C live (k + 1) v.keys-is v.kinds-is v.left-is v.right-is refl v.count-is
                (merged_new C live k (omega arith) (omega arith) t w.if-live-line.true p is w.find_key-at.result w.low16.result at w.low16.ensures w.key_of-key.result w.key_of-key.ensures v.if-at-count.true)
            | else-at-count v ↦ merged_moved C live (k + 1) v.keys-is v.kinds-is v.left-is v.right-is refl v.count-is
                (merged_same C live k (omega arith) (omega arith) t w.if-live-line.true p is w.find_key-at.result w.low16.result at w.low16.ensures v.if-at-count.false)
          ])
      | else-live-line w ↦ merged_moved C live (k + 1) w.keys-is w.kinds-is w.left-is w.right-is w.new-is w.count-is (merged_dropped C live k (omega arith) t w.if-live-line.false)
    ] in
    (merged_count C live next, next)

pub returns : goal.returns
returns c = let a = c.args in
    merged_end a.c a.live c.loop-k.k (omega arith) c.loop-k.invariant.1
