-- Two results that meet a promise of `text` are equal, for each promise that is a record. Assumes nothing.
use mathlib.Core.Path.{◌≡◌, refl, ap, ◌∙◌, sym}
use mathlib.Core.List.{List}
use Prim.Native.Nat.{ℕ, ◌-◌}
use native.Mathlib.Omega.{arith}
use lib.ListN.{length, length-drop}
use Rattle.std.specs.Prelude.{Option, Some, None}
use Rattle.text.specs.declared.Word.{Word}
use Rattle.text.specs.Places.{NextWord}
use Rattle.text.specs.Words.{NextIs}
use Rattle.text.specs.Putting.{Put, PutFree}
use Rattle.text.proofs.Places.{part_length}

-- of a put
pub put_unique : {before after other : List ℕ} {at r s : ℕ} {bytes : List ℕ} → Put before at bytes after r → Put before at bytes other s
    → (r ≡ s) × (after ≡ other)
put_unique p q = (p.next ∙ sym q.next, p.room ∙ sym q.room)

-- of a put that asks whether there is room
pub put_free_unique : {before after other : List ℕ} {at size r s : ℕ} {bytes : List ℕ} → PutFree before at size bytes after r
    → PutFree before at size bytes other s → (r ≡ s) × (after ≡ other)
put_free_unique p q = put_unique p.put q.put

-- of the places of the next word
pub next_unique : {line : List ℕ} {at from to start end : ℕ} → NextWord line at from to → NextWord line at start end → (from ≡ start) × (to ≡ end)
next_unique {line} {at} {from} {to} {start} {end} p q =
    let word : to - from ≡ end - start =
    sym (part_length line at from to p) ∙ ap length (p.word ∙ sym q.word) ∙ part_length line at start end q in
    let rest : length line - to ≡ length line - end =
    sym (length-drop to line) ∙ ap length (p.rest ∙ sym q.rest) ∙ length-drop end line in
    (omega arith, omega arith)

-- of what `next_word` answers
pub next_is_unique : (line : List ℕ) (at : ℕ) (r s : Option Word) → NextIs line at r → NextIs line at s → r ≡ s
next_is_unique line at None None p q = refl
next_is_unique line at None (Some w) p q = let e = next_unique p q.0 in absurd (omega (arith, e.0, e.1, q.1))
next_is_unique line at (Some w) None p q = let e = next_unique q p.0 in absurd (omega (arith, e.0, e.1, p.1))
next_is_unique line at (Some v) (Some w) p q = let e = next_unique p.0 q.0 in λ i. Some (record { from = e.0 i; to = e.1 i })
