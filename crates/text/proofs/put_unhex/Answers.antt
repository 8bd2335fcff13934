-- `text::put_unhex` meets its contract. The invariant: the first i bytes are pasted. Assumes nothing.
use Rattle.std.proofs.Common.{arith, ◌≡◌, ℕ, ◌+◌, ◌*◌, ◌<◌, ◌/◌, List, get_or, length}
use mathlib.Core.Path.{sym, ◌∙◌, ap}
use borrow.Author.Tests.{not-true, not-false}
use lib.ListN.{set}
use lib.Seq.{paste, paste-zero}
use Rattle.text.specs.Numbers.{hex_bytes, nibble_of}
use Rattle.text.proofs.Numbers.{bytes_length, bytes_at, all_digit, digit_or, bytes-said, none_said}
use Rattle.text.proofs.Putting.{paste_next, put-none, put_as, put_done, is_free, not_free, put_fits, put_short}
use Rattle.text.proofs.put_unhex.Goals as goal
use Rattle.text.proofs.put_unhex.Goals.{After-unwrap_or-b}

pub returns-then-not-is_free : goal.returns-then-not-is_free
returns-then-not-is_free c = put_short (not_free _ _ c.is_free.ensures c.if-not-is_free.true-raw)

pub returns-then-not-all_hex : goal.returns-then-not-all_hex
returns-then-not-all_hex c = let a = c.args in
    let none = none_said a.digits.now (sym c.all_hex.ensures ∙ not-true _ c.if-not-all_hex.true-raw) in
    put_fits (is_free _ _ c.is_free.ensures c.if-not-is_free.false-raw) (omega arith) (put_as (sym none) (put-none a.room.now a.at))

-- digit k of the digits, each of which is one
digit : (c : After-unwrap_or-b) (k : ℕ) → k < length c.args.digits.now → nibble_of (get_or c.args.digits.now k 0) < 16
digit c k h = all_digit c.args.digits.now k (sym c.all_hex.ensures ∙ not-false _ c.if-not-all_hex.false-raw) h

-- the two digits of a byte
high : (c : After-unwrap_or-b) → c.unwrap_or-a.result ≡ nibble_of (get_or c.args.digits.now (2 * c.loop-i.i) 0)
high c = c.unwrap_or-a.ensures ∙ digit_or _ _ _ c.nibble.ensures (digit c (2 * c.loop-i.i) (omega arith))

low : (c : After-unwrap_or-b) → c.unwrap_or-b.result ≡ nibble_of (get_or c.args.digits.now (2 * c.loop-i.i + 1) 0)
low c = c.unwrap_or-b.ensures ∙ digit_or _ _ _ c.nibble-in-loop-i.ensures (digit c (2 * c.loop-i.i + 1) (omega arith))

pub loop-i-init : goal.loop-i-init
loop-i-init c = paste-zero c.args.room.now c.args.at (hex_bytes c.args.digits.now)

pub overflow_mul-room : goal.overflow_mul-room
overflow_mul-room c = omega (arith, high c, digit c (2 * c.loop-i.i) (omega arith))

pub overflow_add-room : goal.overflow_add-room
overflow_add-room c = omega (arith, high c, low c, digit c (2 * c.loop-i.i) (omega arith), digit c (2 * c.loop-i.i + 1) (omega arith))

pub loop-i-preserved : goal.loop-i-preserved
loop-i-preserved c = let a = c.args in
    let i = c.loop-i.i in
    let bytes = hex_bytes a.digits.now in
    let x = c.unwrap_or-a.result in
    let y = c.unwrap_or-b.result in
    let e : x * 16 + y ≡ get_or bytes i 0 = (λ k. high c k * 16 + low c k) ∙ sym (bytes_at a.digits.now i (omega arith)) in
    let len = bytes_length a.digits.now in
    let room = is_free _ _ c.is_free.ensures c.if-not-is_free.false-raw in
    ap (λ (r : List ℕ). set r (a.at + i) (x * 16 + y)) c.loop-i.invariant
    ∙ ap (λ (k : ℕ). set (paste a.room.now a.at bytes i) (a.at + i) k) e
    ∙ paste_next a.room.now a.at bytes i (omega arith) (omega arith)

pub returns : goal.returns
returns c = let a = c.args in
    let s = a.digits.now in
    let all = sym c.all_hex.ensures ∙ not-false _ c.if-not-all_hex.false-raw in
    let e : c.loop-i.i ≡ length s / 2 = omega arith in
    let done = put_done a.room.now a.at (hex_bytes s) c.loop-i.room (length s / 2) (c.loop-i.invariant ∙ ap (paste a.room.now a.at (hex_bytes s)) e) (sym (bytes_length s)) in
    put_fits (is_free _ _ c.is_free.ensures c.if-not-is_free.false-raw) (omega arith) (put_as (sym (bytes-said s all)) done)
