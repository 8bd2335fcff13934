-- `talk::calls::lay` meets its contract. Assumes nothing.
use mathlib.Core.Path.{◌∙◌}
use native.Mathlib.Omega.{arith}
use Rattle.talk.proofs.Spoken.{said, first_bytes}
use Rattle.talk.proofs.Laying.{bytes_long, bytes_put}
use Rattle.talk.proofs.calls.lay.Goals as goal

pub returns-clause-bytes : goal.returns-clause-bytes
returns-clause-bytes c = let line = c.args.line.now in
    let p = c.args.p in
    let h = c.requires.digits in
    let put = bytes_put line p h c.requires.fits c.put_unhex-end.ensures in
    let long = bytes_long line p h in
    c.split_at_mut.ensures.front ∙ first_bytes (said (omega (arith, put.next, long)) put)

pub returns-clause-rest : goal.returns-clause-rest
returns-clause-rest c = let line = c.args.line.now in
    let p = c.args.p in
    let h = c.requires.digits in
    let put = bytes_put line p h c.requires.fits c.put_unhex-end.ensures in
    omega (arith, put.next, bytes_long line p h, c.split_at_mut.ensures.back_len)
