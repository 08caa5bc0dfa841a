-- `changes::test_change` meets its contract. Assumes nothing.
use mathlib.Core.Path.{◌≡◌, ◌∙◌}
use native.Mathlib.Omega.{arith}
use borrow.Author.Tests.{le-leb, lt-leb}
use Rattle.changes.specs.Calls.{change_tests}
use Rattle.changes.proofs.test_change.Goals as goal

pub returns-then-c-graph : goal.returns-then-c-graph
unfolding change_tests
returns-then-c-graph c =
    let args = c.args in
    rw (le-leb args.c.graphs args.graph (omega (arith, c.if-c-graph.true)))

pub returns : goal.returns
unfolding change_tests
returns c =
    let args = c.args in
    rw (lt-leb args.c.graphs args.graph (omega (arith, c.if-c-graph.false))) c.test_room.ensures
