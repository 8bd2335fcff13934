-- `talk::held::say_held` meets its contract. Assumes nothing.
use mathlib.Core.Path.{◌≡◌, ap, sym, ◌∙◌}
use mathlib.Core.Bool.{Bool, true, false, cond}
use Rattle.circuit.specs.declared.Refusal.TheVariants.{NothingOpen}
use Rattle.bench.specs.declared.Bench.{Bench}
use Rattle.bench.specs.Parts.{open_on}
use Rattle.bench.proofs.Stood.{standing-shaped}
use Rattle.listing.specs.Printed.{refused_text}
use Rattle.talk.specs.Saying.{lines_held_in, held_in}
use Rattle.talk.proofs.Spoken.{said_as}
use Rattle.talk.proofs.held.say_held.Goals as goal

-- what is said goes by whether anything stands
by-standing : (b : Bench) (t : Bool) → open_on b ≡ t → cond t (lines_held_in b) (refused_text NothingOpen) ≡ held_in b
by-standing b t e = sym (ap (λ (x : Bool). cond x (lines_held_in b) (refused_text NothingOpen)) e)

pub say_lines-requires : goal.say_lines-requires
say_lines-requires c = let b = c.args.b.now in
    let s = standing-shaped b.is_open b.n b.m b.g (sym c.is_standing.ensures ∙ c.if-not-is_standing.false) in
    (s.n_most, s.g_most)

pub returns-then-not-is_standing : goal.returns-then-not-is_standing
returns-then-not-is_standing c = said_as (by-standing c.args.b.now false (sym c.is_standing.ensures ∙ c.if-not-is_standing.true)) c.say_refused.ensures

pub returns : goal.returns
returns c = said_as (by-standing c.args.b.now true (sym c.is_standing.ensures ∙ c.if-not-is_standing.false)) c.say_lines.ensures
