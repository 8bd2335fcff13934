use Rattle.std.proofs.Common.{sym, ◌∙◌, arith}
use Rattle.std.proofs.lemmas.Result.{err_from_is_err_and}
use Rattle.formula.proofs.Reading.{starts, start_refused, ends, goes_on, refused_on, forth, name_past, not-past, and-past, xor-past, paren_name, paren_deep, paren_refused, paren_open, paren_closed, not_refused, not_in}
use Rattle.formula.proofs.levels.+read.Goals as goal

pub read_and-read_not-requires : goal.read_and-read_not-requires
read_and-read_not-requires t c = (omega arith, tt)

pub read_and-returns-in_err-p : goal.read_and-returns-in_err-p
read_and-returns-in_err-p t c =
    let p = err_from_is_err_and c.from_residual.result c.from_residual.ensures.1 in
    rw (p.1, p.2) (start_refused _ _ _ _ _ _ _ (c.in_err-p.ensures))

pub read_and-loop-gates-init : goal.read_and-loop-gates-init
read_and-loop-gates-init t c = starts _ _ _ _ _ _ _ _ (c.in_ok-p.ensures)

pub read_and-read_not-requires-in-loop-gates : goal.read_and-read_not-requires-in-loop-gates
read_and-read_not-requires-in-loop-gates t c = (omega arith, tt)

pub read_and-returns-in_err-q : goal.read_and-returns-in_err-q
read_and-returns-in_err-q t c =
    let p = err_from_is_err_and c.from_residual-in_err-q.result c.from_residual-in_err-q.ensures.1 in
    rw (p.1, p.2) (refused_on _ _ _ _ _ _ _ _ c.loop-gates.invariant (sym c.sees.ensures.is ∙ c.loop-gates-test.true) _ _ (c.in_err-q.ensures))

pub read_and-loop-gates-smaller : goal.read_and-loop-gates-smaller
read_and-loop-gates-smaller t c =
    omega (arith, c.sees.ensures.within c.loop-gates-test.true, forth _ (not-past _ _ (name_past _ _) _) _ _ _ _ _ (c.in_ok-q.ensures))

pub read_and-loop-gates-preserved : goal.read_and-loop-gates-preserved
read_and-loop-gates-preserved t c =
    let m = forth _ (not-past _ _ (name_past _ _) _) _ _ _ _ _ (c.in_ok-q.ensures) in
    goes_on _ _ _ _ _ _ _ _ c.loop-gates.invariant (sym c.sees.ensures.is ∙ c.loop-gates-test.true) _ _ _ _ _ (c.in_ok-q.ensures) (omega arith) c.add_gate-v.ensures.gates c.add_gate-v.ensures.line

pub read_and-returns : goal.read_and-returns
read_and-returns t c = ends _ _ _ _ _ _ _ _ c.loop-gates.invariant (sym c.sees.ensures.is ∙ c.loop-gates-test.false)

pub read_xor-read_and-requires : goal.read_xor-read_and-requires
read_xor-read_and-requires t c = (omega arith, tt)

pub read_xor-returns-in_err-p : goal.read_xor-returns-in_err-p
read_xor-returns-in_err-p t c =
    let p = err_from_is_err_and c.from_residual.result c.from_residual.ensures.1 in
    rw (p.1, p.2) (start_refused _ _ _ _ _ _ _ (c.in_err-p.ensures))

pub read_xor-loop-gates-init : goal.read_xor-loop-gates-init
read_xor-loop-gates-init t c = starts _ _ _ _ _ _ _ _ (c.in_ok-p.ensures)

pub read_xor-read_and-requires-in-loop-gates : goal.read_xor-read_and-requires-in-loop-gates
read_xor-read_and-requires-in-loop-gates t c = (omega arith, tt)

pub read_xor-returns-in_err-q : goal.read_xor-returns-in_err-q
read_xor-returns-in_err-q t c =
    let p = err_from_is_err_and c.from_residual-in_err-q.result c.from_residual-in_err-q.ensures.1 in
    rw (p.1, p.2) (refused_on _ _ _ _ _ _ _ _ c.loop-gates.invariant (sym c.sees.ensures.is ∙ c.loop-gates-test.true) _ _ (c.in_err-q.ensures))

pub read_xor-loop-gates-smaller : goal.read_xor-loop-gates-smaller
read_xor-loop-gates-smaller t c =
    omega (arith, c.sees.ensures.within c.loop-gates-test.true, forth _ (and-past _ _ (name_past _ _) _) _ _ _ _ _ (c.in_ok-q.ensures))

pub read_xor-loop-gates-preserved : goal.read_xor-loop-gates-preserved
read_xor-loop-gates-preserved t c =
    let m = forth _ (and-past _ _ (name_past _ _) _) _ _ _ _ _ (c.in_ok-q.ensures) in
    goes_on _ _ _ _ _ _ _ _ c.loop-gates.invariant (sym c.sees.ensures.is ∙ c.loop-gates-test.true) _ _ _ _ _ (c.in_ok-q.ensures) (omega arith) c.add_gate-v.ensures.gates c.add_gate-v.ensures.line

pub read_xor-returns : goal.read_xor-returns
read_xor-returns t c = ends _ _ _ _ _ _ _ _ c.loop-gates.invariant (sym c.sees.ensures.is ∙ c.loop-gates-test.false)

pub read_or-read_xor-requires : goal.read_or-read_xor-requires
read_or-read_xor-requires t c = (omega arith, tt)

pub read_or-returns-in_err-p : goal.read_or-returns-in_err-p
read_or-returns-in_err-p t c =
    let p = err_from_is_err_and c.from_residual.result c.from_residual.ensures.1 in
    rw (p.1, p.2) (start_refused _ _ _ _ _ _ _ (c.in_err-p.ensures))

pub read_or-loop-gates-init : goal.read_or-loop-gates-init
read_or-loop-gates-init t c = starts _ _ _ _ _ _ _ _ (c.in_ok-p.ensures)

pub read_or-read_xor-requires-in-loop-gates : goal.read_or-read_xor-requires-in-loop-gates
read_or-read_xor-requires-in-loop-gates t c = (omega arith, tt)

pub read_or-returns-in_err-q : goal.read_or-returns-in_err-q
read_or-returns-in_err-q t c =
    let p = err_from_is_err_and c.from_residual-in_err-q.result c.from_residual-in_err-q.ensures.1 in
    rw (p.1, p.2) (refused_on _ _ _ _ _ _ _ _ c.loop-gates.invariant (sym c.sees.ensures.is ∙ c.loop-gates-test.true) _ _ (c.in_err-q.ensures))

pub read_or-loop-gates-smaller : goal.read_or-loop-gates-smaller
read_or-loop-gates-smaller t c =
    omega (arith, c.sees.ensures.within c.loop-gates-test.true, forth _ (xor-past _ _ (name_past _ _) _) _ _ _ _ _ (c.in_ok-q.ensures))

pub read_or-loop-gates-preserved : goal.read_or-loop-gates-preserved
read_or-loop-gates-preserved t c =
    let m = forth _ (xor-past _ _ (name_past _ _) _) _ _ _ _ _ (c.in_ok-q.ensures) in
    goes_on _ _ _ _ _ _ _ _ c.loop-gates.invariant (sym c.sees.ensures.is ∙ c.loop-gates-test.true) _ _ _ _ _ (c.in_ok-q.ensures) (omega arith) c.add_gate-v.ensures.gates c.add_gate-v.ensures.line

pub read_or-returns : goal.read_or-returns
read_or-returns t c = ends _ _ _ _ _ _ _ _ c.loop-gates.invariant (sym c.sees.ensures.is ∙ c.loop-gates-test.false)

pub read_not-returns-in_err-q : goal.read_not-returns-in_err-q
read_not-returns-in_err-q t c =
    let p = err_from_is_err_and c.from_residual.result c.from_residual.ensures.1 in
    rw (p.1, p.2) (not_refused _ _ (name_past _ _) _ _ _ _ _ c.scan-p.ensures _ (c.in_err-q.ensures))

pub read_not-returns : goal.read_not-returns
read_not-returns t c = not_in _ _ (name_past _ _) _ _ _ _ _ c.scan-p.ensures _ _ _ _ (c.in_ok-q.ensures) c.wrap.ensures

pub read_paren-returns-then-not-sees : goal.read_paren-returns-then-not-sees
read_paren-returns-then-not-sees t c = paren_name _ _ (name_past _ _) _ _ _ c.args.gates.now c.scan-p.ensures _ (sym c.sees.ensures.is ∙ c.if-not-sees.true) c.name.ensures

pub read_paren-returns-then-left-eq0 : goal.read_paren-returns-then-left-eq0
read_paren-returns-then-left-eq0 t c = paren_deep _ _ (name_past _ _) _ _ _ c.args.gates.now c.scan-p.ensures _ c.if-left-eq0.true (sym c.sees.ensures.is ∙ c.if-not-sees.false) c.fail.ensures

pub read_paren-returns-in_err-q : goal.read_paren-returns-in_err-q
read_paren-returns-in_err-q t c =
    let p = err_from_is_err_and c.from_residual.result c.from_residual.ensures.1 in
    rw (p.1, p.2) (paren_refused _ _ (name_past _ _) _ _ _ c.args.gates.now c.scan-p.ensures c.if-left-eq0.false (sym c.sees.ensures.is ∙ c.if-not-sees.false) _ _ (c.in_err-q.ensures))

pub read_paren-returns-then-not-sees-2 : goal.read_paren-returns-then-not-sees-2
read_paren-returns-then-not-sees-2 t c =
    paren_open _ _ (name_past _ _) _ _ _ c.args.gates.now c.scan-p.ensures c.if-left-eq0.false (sym c.sees.ensures.is ∙ c.if-not-sees.false) _ _ _ c.in_ok-q.ensures _ (sym c.sees-2.ensures.is ∙ c.if-not-sees-2.true) c.fail-then-not-sees-2.ensures

pub read_paren-returns : goal.read_paren-returns
read_paren-returns t c =
    paren_closed _ _ (name_past _ _) _ _ _ c.args.gates.now c.scan-p.ensures c.if-left-eq0.false (sym c.sees.ensures.is ∙ c.if-not-sees.false) _ _ _ c.in_ok-q.ensures _ (sym c.sees-2.ensures.is ∙ c.if-not-sees-2.false) c.scan.ensures
