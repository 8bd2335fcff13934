use Rattle.std.proofs.Common.{◌≡◌, ◌+◌, drop, ℕ, Bool}
use Rattle.text.specs.Places.{leading, IsTest}
use Rattle.text.proofs.place_past.Given as goal

abbrev pub invariant-loop-i : goal.invariant-loop-i
invariant-loop-i g l = (test : ℕ → Bool) → IsTest (λ x b. g.F.Fn.post l.passes (x, tt) b) test → l.i + leading test (drop l.i l.s) ≡ l.from + leading test (drop l.from l.s)
