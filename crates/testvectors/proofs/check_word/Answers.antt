-- `testvectors::check_word` meets its contract. Assumes nothing.
use borrow.Author.Tests.{eq-eqb, ne_eqb}
use Rattle.testvectors.specs.Vectors.{word_verdict}
use Rattle.testvectors.proofs.check_word.Goals as goal

pub returns-then-not-is_kind : goal.returns-then-not-is_kind
unfolding word_verdict
returns-then-not-is_kind c = rw (← c.is_kind.ensures, c.if-not-is_kind.true)

pub returns-then-spare-ne0 : goal.returns-then-spare-ne0
unfolding word_verdict
returns-then-spare-ne0 c = rw (← c.is_kind.ensures, c.if-not-is_kind.false, ← c.input_spare.ensures, ← c.carried.ensures.0, ne_eqb _ _ c.if-spare-ne0.true)

pub returns : goal.returns
unfolding word_verdict
returns c = rw (← c.is_kind.ensures, c.if-not-is_kind.false, ← c.input_spare.ensures, ← c.carried.ensures.0, eq-eqb _ _ c.if-spare-ne0.false)
