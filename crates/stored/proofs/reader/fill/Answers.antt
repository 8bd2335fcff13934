-- `stored::reader::fill` meets its contract. Assumes nothing.
use mathlib.Core.Path.{◌≡◌, refl, ap, ◌∙◌}
use Prim.Native.Nat.{◌+◌, ◌*◌}
use native.Mathlib.Omega.{arith}
use Rattle.stored.proofs.Accept.{fields, fields_none, fields_put, columns, held_is}
use Rattle.stored.proofs.reader.fill.Goals as goal

pub loop-j-init : goal.loop-j-init
loop-j-init c = let s = c.args.bytes.now in
    (fields_none 2 s, fields_none 3 s, fields_none 4 s)

pub loop-j-preserved : goal.loop-j-preserved
loop-j-preserved c = let s = c.args.bytes.now in
    let j = c.loop-j.j in
    let i = c.loop-j.invariant in (
      fields_put 2 s j (5 + 5 * j) _ c.loop-j.kinds (omega arith) refl refl i.0,
      fields_put 3 s j (5 + 5 * j) _ c.loop-j.left (omega arith) refl c.from.ensures i.1,
      fields_put 4 s j (5 + 5 * j) _ c.loop-j.right (omega arith) refl c.from-in-loop-j.ensures i.2,
    )

pub returns : goal.returns
returns c = let s = c.args.bytes.now in
    let i = c.loop-j.invariant in
    let n = c.from-n.ensures in
    let m = c.from-m.ensures in
    let g = c.from-g.ensures in
    let a : record { n = c.from-n.result; m = c.from-m.result; g = c.from-g.result; kinds = c.loop-j.kinds; left = c.loop-j.left; right = c.loop-j.right; outputs = c.out_lines-outputs.result }
    ≡ columns s c.from-n.result c.from-m.result c.from-g.result =
    let e : c.loop-j.j ≡ c.from-g.result = omega arith in
    let k = i.0 ∙ ap (fields 2 s) e in
    let l = i.1 ∙ ap (fields 3 s) e in
    let r = i.2 ∙ ap (fields 4 s) e in
    let o = c.out_lines-outputs.ensures in
    λ i. record { n = c.from-n.result; m = c.from-m.result; g = c.from-g.result; kinds = k i; left = l i; right = r i; outputs = o i } in
    a ∙ (λ i. columns s (n i) (m i) (g i)) ∙ held_is s
