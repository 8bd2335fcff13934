-- `look` meets its contract: the tests in the order of the definition.
use mathlib.Core.Bool.{true, false}
use mathlib.Core.List.{map}
use mathlib.Core.Path.{◌≡◌, sym, ◌∙◌}
use native.Mathlib.Omega.{arith}
use lib.Dec.{ltb}
use lib.ListN.{length}
use Rattle.circuit.specs.Lines.{any_of}
use Rattle.circuit.specs.Rules.{shaped}
use Rattle.circuit.proofs.Shapes.{shape_is}
use Rattle.builder.specs.Call.{bad_row}
use Rattle.builder.specs.Late.{any_deep}
use Rattle.builder.proofs.Refusals.{Ahead, looking, refused_shape, refused_arrivals, refused-limits, refused-row, refused_early, refused_deep, refused_last, any_is}
use Rattle.builder.proofs.look.look.Goals as goal
use Rattle.builder.proofs.look.look.Goals.{then-arrivals-n-via-then-arrivals-n, then-arrivals-n-via-else-arrivals-n+then-limits-rows, then-any_deep-via-then-any_deep, then-any_deep-via-else-any_deep+then-any_deep-2, Else-any_bad, Else-any_deep, Else-any_deep-2, Else-arrivals-n, Else-limits-rows, Else-not-is_shape}

-- what is known past each test
in-range : (c : Else-not-is_shape) → shaped c.args.n (length c.args.rows.now) 0 ≡ true
in-range c = sym c.is_shape.ensures ∙ c.if-not-is_shape.false

arrivals-fit : (c : Else-arrivals-n) → length c.args.arrivals.now ≡ c.args.n
arrivals-fit c = omega (arith, c.if-arrivals-n.false)

limits-fit : (c : Else-limits-rows) → length c.args.limits.now ≡ length c.args.rows.now
limits-fit c = omega (arith, c.if-limits-rows.false)

rows_fit : (c : Else-any_bad) → any_of (map (bad_row c.args.n) c.args.rows.now) ≡ false
rows_fit c = any_is (bad_row c.args.n) c.args.rows.now ∙ sym c.any_bad.ensures ∙ c.if-any_bad.false

early : (c : Else-any_deep) → any_deep c.args.arrivals.now ≡ false
early c = any_is (ltb 15) c.args.arrivals.now ∙ sym c.any_deep.ensures ∙ c.if-any_deep.false

ahead : (c : Else-any_deep-2) → Ahead c.args.n c.args.arrivals.now c.args.rows.now c.args.limits.now
ahead c =
    record {
      shape = sym c.is_shape.ensures ∙ c.if-not-is_shape.false;
      arrivals = omega (arith, c.if-arrivals-n.false);
      limits = omega (arith, c.if-limits-rows.false);
      rows = any_is (bad_row c.args.n) c.args.rows.now ∙ sym c.any_bad.ensures ∙ c.if-any_bad.false;
      early = any_is (ltb 15) c.args.arrivals.now ∙ sym c.any_deep.ensures ∙ c.if-any_deep.false;
      shallow = any_is (ltb 15) c.args.limits.now ∙ sym c.any_deep-else-any_deep.ensures ∙ c.if-any_deep-2.false;
    }

pub returns-then-not-is_shape : goal.returns-then-not-is_shape
returns-then-not-is_shape c = refused_shape _ _ _ _ (sym c.is_shape.ensures ∙ c.if-not-is_shape.true)

pub returns-then-arrivals-n : goal.returns-then-arrivals-n
returns-then-arrivals-n c =
    let shape = in-range (goal.at.returns-then-arrivals-n c).Else-not-is_shape in
    elim c.then-arrivals-n.branch [ then-arrivals-n-via-then-arrivals-n w ↦ refused_arrivals _ _ _ _ shape w.if-arrivals-n.true | then-arrivals-n-via-else-arrivals-n+then-limits-rows w ↦ refused-limits _ _ _ _ shape (omega (arith, w.if-arrivals-n.false)) w.if-limits-rows.true ]

pub any_bad-requires : goal.any_bad-requires
any_bad-requires c = (shape_is _ _ _ (in-range (goal.at.any_bad-requires c).Else-not-is_shape)).n_most

pub returns-then-any_bad : goal.returns-then-any_bad
returns-then-any_bad c = refused-row _ _ _ _ (in-range (goal.at.returns-then-any_bad c).Else-not-is_shape) (arrivals-fit (goal.at.returns-then-any_bad c).Else-arrivals-n) (limits-fit (goal.at.returns-then-any_bad c).Else-limits-rows) (any_is (bad_row c.args.n) c.args.rows.now ∙ sym c.any_bad.ensures ∙ c.if-any_bad.true)

pub returns-then-any_deep : goal.returns-then-any_deep
returns-then-any_deep c =
    let at = goal.at.returns-then-any_deep c in
    let shape = in-range at.Else-not-is_shape in
    let arrivals = arrivals-fit at.Else-arrivals-n in
    let limits = limits-fit at.Else-limits-rows in
    let rows = rows_fit at.Else-any_bad in
    elim c.then-any_deep.branch [ then-any_deep-via-then-any_deep w ↦ refused_early _ _ _ _ shape arrivals limits rows (any_is (ltb 15) c.args.arrivals.now ∙ sym c.any_deep.ensures ∙ w.if-any_deep.true) | then-any_deep-via-else-any_deep+then-any_deep-2 w ↦ refused_deep _ _ _ _ shape arrivals limits rows (any_is (ltb 15) c.args.arrivals.now ∙ sym c.any_deep.ensures ∙ w.if-any_deep.false) (any_is (ltb 15) c.args.limits.now ∙ sym w.any_deep-else-any_deep.ensures ∙ w.if-any_deep-2.true) ]

pub invariant_of-any_late : goal.invariant_of-any_late
invariant_of-any_late c = let f = (looking _ _ _ _ (ahead c)).fit in record { few = f.inputs; each = f.arrivals; early = f.early }

pub any_late-requires : goal.any_late-requires
any_late-requires c = looking _ _ _ _ (ahead (goal.at.any_late-requires c).Else-any_deep-2)

pub returns-then-any_late : goal.returns-then-any_late
returns-then-any_late c = sym (refused_last _ _ _ _ (ahead (goal.at.returns-then-any_late c).Else-any_deep-2) true (sym c.any_late.ensures ∙ c.if-any_late.true))

pub returns : goal.returns
returns c = sym (refused_last _ _ _ _ (ahead (goal.at.returns c).Else-any_deep-2) false (sym c.any_late.ensures ∙ c.if-any_late.false))
