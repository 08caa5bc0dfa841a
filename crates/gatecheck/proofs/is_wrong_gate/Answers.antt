-- `gatecheck::is_wrong_gate` meets its contract. Assumes nothing.
use Rattle.std.proofs.Common.{rules}
use borrow.Author.Tests.{lt-ltb}
use Rattle.gatelist.specs.Form.{wrong_gate}
use Rattle.gatecheck.proofs.is_wrong_gate.Goals as goal

pub returns-in-Some-Not : goal.returns-in-Some-Not
unfolding wrong_gate
returns-in-Some-Not c = rw c.in-Some-Not.ensures (search rules)

pub returns-in-Some : goal.returns-in-Some
unfolding wrong_gate
returns-in-Some c = rw c.in-Some.ensures (search rules)

pub returns-in-None : goal.returns-in-None
unfolding wrong_gate
returns-in-None c = rw (lt-ltb 5 _ c.in-None.ensures)
