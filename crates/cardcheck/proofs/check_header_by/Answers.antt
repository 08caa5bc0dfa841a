-- `cardcheck::check_header_by` meets its contract. Assumes nothing.
use native.Mathlib.Omega.{arith}
use borrow.Author.Tests.{le-leb, lt-leb}
use Rattle.cardcheck.specs.Graph.{header_by}
use Rattle.cardcheck.proofs.check_header_by.Goals as goal

pub returns-then-c-ge-MAX_GRAPHS : goal.returns-then-c-ge-MAX_GRAPHS
unfolding header_by
returns-then-c-ge-MAX_GRAPHS g c = λ v h.
    rw (le-leb 1024 c.args.c.graphs (omega (arith, c.if-c-ge-MAX_GRAPHS.true)))

pub returns-then-is_kind : goal.returns-then-is_kind
unfolding header_by
returns-then-is_kind g c = λ v h.
    let few = lt-leb 1024 c.args.c.graphs (omega (arith, c.if-c-ge-MAX_GRAPHS.false)) in
    rw (few, ← c.is_kind.ensures, c.if-is_kind.true) c.check_input.ensures

pub returns : goal.returns
unfolding header_by
returns g c = λ v h.
    let few = lt-leb 1024 c.args.c.graphs (omega (arith, c.if-c-ge-MAX_GRAPHS.false)) in
    rw (few, ← c.is_kind.ensures, c.if-is_kind.false) (h _ c.other.ensures)
