-- Two results that meet the promise of `answer_line`, on a bench that stands for something, are the same: bench, length, and each byte of the room.
-- Assumes nothing.
use mathlib.Core.Path.{◌≡◌, ap, ◌∙◌, sym}
use mathlib.Core.List.{List, ◌++◌}
use Prim.Native.Nat.{ℕ}
use lib.ListN.{length, drop, take-append-drop}
use Rattle.bench.specs.declared.Bench.{Bench}
use Rattle.bench.specs.State.{Present}
use Rattle.bench.specs.Held.{Stands}
use Rattle.script.specs.Order.{Order}
use Rattle.talk.specs.declared.Told.{Told}
use Rattle.talk.specs.Talk.{Answers}

pub unique : (b : Bench) (p : Present) → Stands b p → (o : Order) (out x y : List ℕ) (r s : Told) → Answers b o out x r → Answers b o out y s
    → (r ≡ s) × (x ≡ y)
unique b p k o out x y r s f g =
    let bytes = f.text p k ∙ sym (g.text p k) in
    let e = f.bench p k ∙ sym (g.bench p k) in
    let l : r.len ≡ s.len = f.counts.1 ∙ ap length bytes ∙ sym g.counts.1 in
    let rest : drop r.len x ≡ drop s.len y = f.rest ∙ ap (λ (n : ℕ). drop n out) l ∙ sym g.rest in
    ((λ i. record { bench = e i; len = l i }), sym (take-append-drop r.len x) ∙ (λ i. bytes i ++ rest i) ∙ take-append-drop s.len y)
