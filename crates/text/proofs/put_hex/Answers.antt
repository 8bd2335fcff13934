-- `text::put_hex` meets its contract. The invariant: the first 2 i digits are pasted. Assumes nothing.
use Rattle.std.proofs.Common.{arith, ◌≡◌, ℕ, ◌+◌, ◌*◌, List, length}
use mathlib.Core.Path.{sym, ◌∙◌, ap}
use lib.ListN.{set, length-set}
use lib.Seq.{paste, paste-zero}
use Rattle.text.specs.Numbers.{hex_text}
use Rattle.text.proofs.Numbers.{text_length, text_even, text_odd}
use Rattle.text.proofs.Putting.{paste_two, put_done, is_free, not_free, put_fits, put_short}
use Rattle.text.proofs.put_hex.Goals as goal

pub returns-then-not-is_free : goal.returns-then-not-is_free
returns-then-not-is_free c = put_short (not_free _ _ c.is_free.ensures c.if-not-is_free.true-raw)

pub loop-i-init : goal.loop-i-init
loop-i-init c = paste-zero c.args.room.now c.args.at (hex_text c.args.bytes.now)

pub glyph-requires : goal.glyph-requires
glyph-requires c = omega (arith, c.type_inv.bytes c.loop-i.i)

pub bounds-room-at-in-loop-i : goal.bounds-room-at-in-loop-i
bounds-room-at-in-loop-i c = simp length-set (omega (arith, is_free _ _ c.is_free.ensures c.if-not-is_free.false-raw))

pub loop-i-preserved : goal.loop-i-preserved
loop-i-preserved c = let a = c.args in
    let i = c.loop-i.i in
    let L = hex_text a.bytes.now in
    let e : 2 * i + 2 ≡ 2 * (i + 1) = omega arith in
    let len = text_length a.bytes.now in
    let room = is_free _ _ c.is_free.ensures c.if-not-is_free.false-raw in
    ap (λ (r : List ℕ). set (set r (a.at + 2 * i) c.glyph.result) (a.at + 2 * i + 1) c.glyph-in-loop-i.result) c.loop-i.invariant
    ∙ paste_two a.room.now a.at L (2 * i) c.glyph.result c.glyph-in-loop-i.result (omega arith) (omega arith)
    (c.glyph.ensures ∙ sym (text_even a.bytes.now i c.loop-i-test.true))
    (c.glyph-in-loop-i.ensures ∙ sym (text_odd a.bytes.now i c.loop-i-test.true))
    ∙ ap (paste a.room.now a.at L) e

pub returns : goal.returns
returns c = let a = c.args in
    let e : c.loop-i.i ≡ length a.bytes.now = omega arith in
    put_fits (is_free _ _ c.is_free.ensures c.if-not-is_free.false-raw) (omega arith)
    (put_done _ _ (hex_text a.bytes.now) _ _ (c.loop-i.invariant ∙ ap (λ (k : ℕ). paste a.room.now a.at (hex_text a.bytes.now) (2 * k)) e) (sym (text_length a.bytes.now)))
