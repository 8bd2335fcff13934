-- `talk::held::put_values` meets its contract. Assumes nothing.
use mathlib.Core.Path.{◌≡◌, ap, ◌∙◌, sym}
use native.Mathlib.Omega.{arith}
use lib.ListN.{length, take}
use Rattle.circuit.specs.Gate.{value_in}
use Rattle.circuit.specs.Lines.{upto}
use Rattle.circuit.proofs.Upto.{upto-length}
use Rattle.circuit.proofs.Padding.{padded-take}
use Rattle.text.specs.Numbers.{hex_text}
use Rattle.text.proofs.Putting.{put_as, put_free}
use Rattle.talk.specs.Texts.{value_bytes, byte_of, values_text}
use Rattle.talk.specs.Saying.{packed_most}
use Rattle.talk.proofs.held.put_values.Goals as goal
use Rattle.talk.proofs.held.put_values.Goals.{After-byte_count-count}

-- the bytes that are put are all of them
whole : (b : After-byte_count-count) → let a = b.args in
    take b.byte_count-count.result b.value_bytes-bytes.result ≡ upto (byte_of (value_in a.w) a.n) (value_bytes a.n)
whole b =
    let a = b.args in
    let all = upto (byte_of (value_in a.w) a.n) (value_bytes a.n) in
    ap (take b.byte_count-count.result) b.value_bytes-bytes.ensures
    ∙ padded-take packed_most 0 all b.byte_count-count.result (b.byte_count-count.ensures.0 ∙ sym (upto-length (byte_of (value_in a.w) a.n) (value_bytes a.n)))

-- how many they are
size : (b : After-byte_count-count) → b.byte_count-count.result ≡ length (take b.byte_count-count.result b.value_bytes-bytes.result)
size b =
    let a = b.args in
    b.byte_count-count.ensures.0 ∙ sym (ap length (whole b) ∙ upto-length (byte_of (value_in a.w) a.n) (value_bytes a.n))

pub slice_bounds-put_hex-end : goal.slice_bounds-put_hex-end
slice_bounds-put_hex-end c = omega (arith, size (goal.at.slice_bounds-put_hex-end c).After-byte_count-count)

pub returns : goal.returns
unfolding values_text
returns c = let count = size (goal.at.returns c).After-byte_count-count in
    record { put = put_as (ap hex_text (whole (goal.at.returns c).After-byte_count-count)) (put_free (omega arith) c.put_hex.ensures); upper_bound = omega arith }
