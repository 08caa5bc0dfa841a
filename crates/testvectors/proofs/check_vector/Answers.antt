-- `testvectors::check_vector` meets its contract. Assumes nothing.
use borrow.Author.Tests.{eq-eqb, ne_eqb}
use Rattle.answers.specs.Calls.{lends}
use Rattle.testvectors.specs.Vectors.{vector_verdict}
use Rattle.testvectors.proofs.Lists.{form-extra, form-whole}
use Rattle.testvectors.proofs.check_vector.Goals as goal

pub returns-then-vector-gt0 : goal.returns-then-vector-gt0
returns-then-vector-gt0 c = form-extra _ _ _ c.if-vector-gt0.true

pub returns-then-vector-width : goal.returns-then-vector-width
unfolding vector_verdict
returns-then-vector-width c =
    let args = c.args in
    rw (← form-whole vector_verdict args.m (lends args.vector) c.if-vector-gt0.false, ← c.width.ensures, ne_eqb _ _ c.if-vector-width.true)

pub returns : goal.returns
unfolding vector_verdict
returns c =
    let args = c.args in
    rw (← form-whole vector_verdict args.m (lends args.vector) c.if-vector-gt0.false, ← c.width.ensures, eq-eqb _ _ c.if-vector-width.false) c.check_words.ensures
