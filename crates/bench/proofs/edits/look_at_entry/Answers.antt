-- `look_at_entry`: each way out is the definition at the tests that led there.
use mathlib.Core.Path.{◌≡◌, ◌∙◌, sym}
use mathlib.Core.Bool.{true, cond}
use Prim.Native.Nat.{◌^◌}
use native.Mathlib.Omega.{arith}
use lib.Dec.{ltb}
use borrow.Author.Tests.{lt-ltb, le-ltb}
use Rattle.bench.specs.Parts.{entry_look, open_on}
use Rattle.bench.proofs.Stood.{standing-shaped}
use Rattle.bench.proofs.edits.look_at_entry.Goals as goal
use Rattle.bench.proofs.edits.look_at_entry.Goals.{Else-not-is_standing, Else-target_length-i}

-- what the first test showed
stood : (c : Else-not-is_standing) → open_on c.args.bench.now ≡ true
stood c = sym c.is_standing.ensures ∙ c.if-not-is_standing.false

pub target_length-requires : goal.target_length-requires
target_length-requires c = let z = c.args.bench.now in
    (standing-shaped z.is_open z.n z.m z.g (stood (goal.at.target_length-requires c).Else-not-is_standing)).n_most

-- what the second showed
there : (c : Else-target_length-i) → let z = c.args.bench.now in ltb c.args.i (cond z.is_matrix z.m (2 ^ z.n)) ≡ true
there c = let z = c.args.bench.now in
    lt-ltb c.args.i (cond z.is_matrix z.m (2 ^ z.n)) (omega (arith, c.if-target_length-i.false, c.target_length.ensures))

pub returns-then-not-is_standing : goal.returns-then-not-is_standing
unfolding entry_look
returns-then-not-is_standing c = simp (sym c.is_standing.ensures ∙ c.if-not-is_standing.true)

pub returns-then-target_length-i : goal.returns-then-target_length-i
unfolding entry_look
returns-then-target_length-i c = let z = c.args.bench.now in
    simp (stood (goal.at.returns-then-target_length-i c).Else-not-is_standing, le-ltb c.args.i (cond z.is_matrix z.m (2 ^ z.n)) (omega (arith, c.if-target_length-i.true, c.target_length.ensures)))

pub returns-then-not-value_fits : goal.returns-then-not-value_fits
unfolding entry_look
returns-then-not-value_fits c =
    simp (stood (goal.at.returns-then-not-value_fits c).Else-not-is_standing, there (goal.at.returns-then-not-value_fits c).Else-target_length-i, sym c.value_fits.ensures ∙ c.if-not-value_fits.true)

pub returns : goal.returns
unfolding entry_look
returns c =
    simp (stood (goal.at.returns c).Else-not-is_standing, there (goal.at.returns c).Else-target_length-i, sym c.value_fits.ensures ∙ c.if-not-value_fits.false)
