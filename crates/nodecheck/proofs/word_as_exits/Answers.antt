-- `nodecheck::word_as_exits` meets its contract. Assumes nothing.
use borrow.Author.Tests.{lt-leb, eq-eqb, ne_eqb}
use Rattle.form.specs.Check.{exits_verdict}
use Rattle.nodecheck.specs.Table.{exits_told}
use Rattle.nodecheck.proofs.word_as_exits.Goals as goal

pub returns-then-not-is_kind : goal.returns-then-not-is_kind
unfolding exits_verdict exits_told
returns-then-not-is_kind c = λ ws h e. rw (lt-leb _ _ h, ← e, ← c.is_kind.ensures, c.if-not-is_kind.true)

pub returns-then-exits_spare-ne0 : goal.returns-then-exits_spare-ne0
unfolding exits_verdict exits_told
returns-then-exits_spare-ne0 c = λ ws h e.
    rw (lt-leb _ _ h, ← e, ← c.is_kind.ensures, c.if-not-is_kind.false, ← c.exits_spare.ensures, ne_eqb _ _ c.if-exits_spare-ne0.true)

pub returns-then-is_misplaced : goal.returns-then-is_misplaced
unfolding exits_verdict exits_told
returns-then-is_misplaced c = λ ws h e.
    rw (lt-leb _ _ h, ← e, ← c.is_kind.ensures, c.if-not-is_kind.false, ← c.exits_spare.ensures, eq-eqb _ _ c.if-exits_spare-ne0.false, ← c.exit0-e0.ensures, ← c.is_misplaced.ensures, c.if-is_misplaced.true)

pub returns-then-is_misplaced-2 : goal.returns-then-is_misplaced-2
unfolding exits_verdict exits_told
returns-then-is_misplaced-2 c = λ ws h e.
    rw (lt-leb _ _ h, ← e, ← c.is_kind.ensures, c.if-not-is_kind.false, ← c.exits_spare.ensures, eq-eqb _ _ c.if-exits_spare-ne0.false, ← c.exit0-e0.ensures, ← c.is_misplaced.ensures, c.if-is_misplaced.false, ← c.exit1-e1.ensures, ← c.is_misplaced-2.ensures, c.if-is_misplaced-2.true)

pub returns : goal.returns
unfolding exits_verdict exits_told
returns c = λ ws h e.
    rw (lt-leb _ _ h, ← e, ← c.is_kind.ensures, c.if-not-is_kind.false, ← c.exits_spare.ensures, eq-eqb _ _ c.if-exits_spare-ne0.false, ← c.exit0-e0.ensures, ← c.is_misplaced.ensures, c.if-is_misplaced.false, ← c.exit1-e1.ensures, ← c.is_misplaced-2.ensures, c.if-is_misplaced-2.false) (rw (c.exit0-e0.ensures, c.exit1-e1.ensures))
