-- `cardcheck::check_input` meets its contract. Assumes nothing.
use borrow.Author.Tests.{lt-ltb, le-ltb, eq-eqb, ne_eqb}
use Rattle.cardcheck.proofs.check_input.Goals as goal

pub returns-then-c : goal.returns-then-c
returns-then-c c = rw (lt-ltb _ _ c.if-c.true)

pub returns-then-input_spare-ne0 : goal.returns-then-input_spare-ne0
returns-then-input_spare-ne0 c =
    rw (le-ltb _ _ c.if-c.false, ← c.input_spare.ensures, ne_eqb _ _ c.if-input_spare-ne0.true)

pub returns : goal.returns
returns c = rw (le-ltb _ _ c.if-c.false, ← c.input_spare.ensures, eq-eqb _ _ c.if-input_spare-ne0.false)
