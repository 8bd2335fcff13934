-- `text::put` meets its contract. Assumes nothing.
use Rattle.std.proofs.Common.{arith}
use mathlib.Core.Path.{refl}
use Rattle.std.proofs.lemmas.Slice.{put_mid-paste}
use Rattle.text.proofs.Putting.{put_done, is_free, not_free, put_fits, put_short}
use Rattle.text.proofs.put.Goals as goal

pub returns-then-not-is_free : goal.returns-then-not-is_free
returns-then-not-is_free c = put_short (not_free _ _ c.is_free.ensures c.if-not-is_free.true-raw)

pub returns : goal.returns
returns c = let a = c.args in
    put_fits (is_free _ _ c.is_free.ensures c.if-not-is_free.false-raw) (omega arith)
    (put_done a.room.now a.at a.bytes.now _ _ (put_mid-paste a.at _ a.room.now _ a.bytes.now _ c.copy_from_slice.ensures.after (omega arith) refl) refl)
