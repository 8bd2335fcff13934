-- `equations::find_place` meets its contract. The invariant: the lines that end in the bytes so far, and how many follow the last end. Assumes nothing.
use mathlib.Core.Path.{◌≡◌, ap, ◌∙◌, sym}
use Prim.Native.Nat.{ℕ, ◌+◌, ◌<◌}
use native.Mathlib.Omega.{arith}
use lib.ListN.{length, get_or, take, length-take}
use Rattle.std.proofs.lemmas.List.{get_or-take}
use borrow.Author.Rules.{rules}
use Rattle.text.specs.Places.{leading}
use Rattle.equations.specs.Answered.{ends_in, since_end}
use Rattle.equations.proofs.Answering.{ends_next, since_none, ends_same, since_next, taken-all}
use Rattle.equations.proofs.find_place.Goals as goal
use Rattle.equations.proofs.find_place.Goals.{else-byte-eq-LF, then-byte-eq-LF}

pub loop-byte-init : goal.loop-byte-init
unfolding ends_in since_end leading
loop-byte-init c = search rules

pub loop-byte-preserved : goal.loop-byte-preserved
loop-byte-preserved c = let s = c.args.file.now in
    let i = c.loop-byte.byte-index in
    let end = c.min-end.result in
    let inside : i < length s = omega (arith, length-take end s) in
    let at : get_or (take end s) i 0 ≡ get_or s i 0 = get_or-take end s i 0 (omega (arith, length-take end s)) in
    elim c.if-byte-eq-LF.branch [
      | then-byte-eq-LF w ↦ let e = sym at ∙ w.if-byte-eq-LF.true in (omega arith, omega arith, omega (arith, ends_next s i inside e), omega (arith, since_none s i inside e))
      | else-byte-eq-LF w ↦ let d : get_or s i 0 ≡ 10 → ⊥ = λ q. w.if-byte-eq-LF.false (at ∙ q) in
          (omega arith, omega arith, omega (arith, ends_same s i inside d), omega (arith, since_next s i inside d))
    ]

pub returns : goal.returns
returns c = let a = c.args in
    let inv = c.loop-byte.invariant in
    let s = a.file.now in
    let e : take c.loop-byte.byte-index s ≡ take a.place s = taken-all s a.place c.loop-byte.byte-index (omega (arith, length-take c.min-end.result s)) in
    (ap (λ (k : ℕ). k + 1) (inv.2 ∙ ap ends_in e), ap (λ (k : ℕ). k + 1) (inv.3 ∙ ap since_end e))
