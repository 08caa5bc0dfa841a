-- `nodecheck::is_misplaced` meets its contract. Assumes nothing.
use Prim.Native.Nat.{◌+◌}
use native.Mathlib.Omega.{arith}
use borrow.Author.Tests.{le-leb, lt-leb, lt-ltb, le-ltb}
use Rattle.form.specs.Check.{misplaced}
use Rattle.nodecheck.proofs.is_misplaced.Goals as goal

pub returns-then-e-le1 : goal.returns-then-e-le1
unfolding misplaced
returns-then-e-le1 c = rw (le-ltb _ _ c.if-e-le1.true)

pub returns-then-e-k : goal.returns-then-e-k
unfolding misplaced
returns-then-e-k c =
    let args = c.args in
    rw (lt-ltb _ _ c.if-e-le1.false, le-leb args.e (args.k + 2) (omega (arith, c.if-e-k.true)))

pub returns : goal.returns
unfolding misplaced
returns c =
    let args = c.args in
    rw (lt-ltb _ _ c.if-e-le1.false, lt-leb args.e (args.k + 2) (omega (arith, c.if-e-k.false)))
