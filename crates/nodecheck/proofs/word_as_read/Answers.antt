-- `nodecheck::word_as_read` meets its contract. Assumes nothing.
use native.Mathlib.Omega.{arith}
use borrow.Author.Tests.{le-leb, lt-leb, eq-eqb, ne_eqb}
use Rattle.form.specs.Check.{read_verdict}
use Rattle.nodecheck.proofs.word_as_read.Goals as goal

pub returns-then-not-is_kind : goal.returns-then-not-is_kind
unfolding read_verdict
returns-then-not-is_kind c = λ ws h e. rw (lt-leb _ _ h, ← e, ← c.is_kind.ensures, c.if-not-is_kind.true)

pub returns-then-read_spare-ne0 : goal.returns-then-read_spare-ne0
unfolding read_verdict
returns-then-read_spare-ne0 c = λ ws h e.
    rw (lt-leb _ _ h, ← e, ← c.is_kind.ensures, c.if-not-is_kind.false, ← c.read_spare.ensures, ne_eqb _ _ c.if-read_spare-ne0.true)

pub returns-then-g-read_graph : goal.returns-then-g-read_graph
unfolding read_verdict
returns-then-g-read_graph c = λ ws h e.
    let too-high = le-leb c.args.g c.read_graph.result (omega (arith, c.if-g-read_graph.true)) in
    rw (
      lt-leb _ _ h,
      ← e,
      ← c.is_kind.ensures,
      c.if-not-is_kind.false,
      ← c.read_spare.ensures,
      eq-eqb _ _ c.if-read_spare-ne0.false,
      ← c.read_graph.ensures,
      too-high,
    )

pub returns : goal.returns
unfolding read_verdict
returns c = λ ws h e.
    let lower = lt-leb c.args.g c.read_graph.result (omega (arith, c.if-g-read_graph.false)) in
    rw (
      lt-leb _ _ h,
      ← e,
      ← c.is_kind.ensures,
      c.if-not-is_kind.false,
      ← c.read_spare.ensures,
      eq-eqb _ _ c.if-read_spare-ne0.false,
      ← c.read_graph.ensures,
      lower,
    )
