-- `gatewords::gate_exit` meets its contract. Assumes nothing.
use native.Mathlib.Omega.{arith}
use borrow.Author.Tests.{le-leb, lt-leb, eq-eqb, ne_eqb}
use Rattle.lists.proofs.Tests.{or-true}
use Rattle.gatelist.specs.Drawn.{gate_exit}
use Rattle.gatewords.proofs.gate_exit.Goals as goal

pub returns-then-d-controlling : goal.returns-then-d-controlling
unfolding gate_exit
returns-then-d-controlling c =
    (rw (← c.controlling.ensures, eq-eqb _ _ c.if-d-controlling.true) c.constant.ensures.0, omega (arith, c.constant.ensures.1))

pub returns-then-n-k : goal.returns-then-n-k
unfolding gate_exit
returns-then-n-k c =
    (rw (le-leb _ _ c.if-n-k.true, or-true) c.constant-then-n-k.ensures.0, omega (arith, c.constant-then-n-k.ensures.1))

pub returns : goal.returns
unfolding gate_exit
returns c =
    (rw (← c.controlling.ensures, ne_eqb _ _ c.if-d-controlling.false, lt-leb _ _ c.if-n-k.false), omega arith)
