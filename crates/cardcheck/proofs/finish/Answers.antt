-- `cardcheck::finish` meets its contract. Assumes nothing.
use borrow.Author.Tests.{lt-ltb, le-ltb, eq-eqb, ne_eqb}
use Rattle.cardcheck.proofs.finish.Goals as goal

pub returns-then-extra-gt0 : goal.returns-then-extra-gt0
returns-then-extra-gt0 c = λ ws e. rw (lt-ltb _ _ c.if-extra-gt0.true, e)

pub returns-then-c-eq0 : goal.returns-then-c-eq0
returns-then-c-eq0 c = λ ws e. rw (le-ltb _ _ c.if-extra-gt0.false, eq-eqb _ _ c.if-c-eq0.true, e)

pub returns : goal.returns
returns c = λ ws e. rw (le-ltb _ _ c.if-extra-gt0.false, ne_eqb _ _ c.if-c-eq0.false)
