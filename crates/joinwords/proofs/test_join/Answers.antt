-- `joinwords::test_join` meets its contract. Assumes nothing.
use native.Mathlib.Omega.{arith}
use lib.ListN.{length}
use Rattle.joinwords.proofs.Laws.{free-few, wires-number, wires-wrong, size-tested}
use Rattle.joinwords.proofs.test_join.Goals as goal

pub returns-then-wires-b : goal.returns-then-wires-b
returns-then-wires-b c =
    let a = c.args in
    wires-number a.a a.b a.wires.now _ _ c.if-wires-b.true

pub returns-then-wrong-wires : goal.returns-then-wrong-wires
returns-then-wrong-wires c =
    let a = c.args in
    wires-wrong a.a a.b a.wires.now _ _ c.if-wires-b.false _ c.first_wrong-wrong.ensures c.if-wrong-wires.true

-- there are no more free inputs than inputs
pub overflow_add-a : goal.overflow_add-a
overflow_add-a c =
    let s = c.requires in
    omega (arith, c.count_free-free.ensures, free-few c.args.wires.now (length c.args.wires.now), c.if-wires-b.false, s.graphs-a, s.inputs-b, s.graphs-b)

pub overflow_add-a-2 : goal.overflow_add-a-2
overflow_add-a-2 c =
    let s = c.requires in
    omega (arith, c.count_free-free.ensures, free-few c.args.wires.now (length c.args.wires.now), c.if-wires-b.false, s.graphs-a, s.inputs-b, s.graphs-b)

pub test_size-requires : goal.test_size-requires
test_size-requires c =
    let s = c.requires in
    omega (arith, c.count_free-free.ensures, free-few c.args.wires.now (length c.args.wires.now), c.if-wires-b.false, s.graphs-a, s.inputs-b, s.graphs-b, s.nodes-a, s.nodes-b)

pub returns : goal.returns
returns c =
    let a = c.args in
    size-tested a.a a.b a.wires.now a.room _ _ c.if-wires-b.false c.first_wrong-wrong.ensures c.if-wrong-wires.false
    c.count_free-free.ensures c.test_size.ensures
