-- Each answer cites one law of `Laws`.
use Rattle.std.proofs.Common.{arith}
use Rattle.layout.proofs.NodeNumbers.{walkable, few-nodes, some-node, node-inside, read_below, node-number-below}
use Rattle.value.specs.Settings.{faulty}
use Rattle.value.specs.Run.{run}
use Rattle.value.proofs.Run.{node-goes}
use Rattle.evaluate.proofs.Laws.{node-ended, node-went, decision-found, input-saved, output-saved}
use Rattle.evaluate.proofs.+graph_value_node_value.Goals as goal

pub graph_value-returns-then-g-c : goal.graph_value-returns-then-g-c
graph_value-returns-then-g-c t c =
    let p = c.requires in
    input-saved _ p.0 p.2 p.3 c.if-g-c.true c.bit.ensures c.set_at-input.ensures c.put.ensures

pub graph_value-node_value-entrance-requires : goal.graph_value-node_value-entrance-requires
graph_value-node_value-entrance-requires t c =
    let p = c.requires in
    (omega (arith, c.decreases, few-nodes p.0 _ p.2), (p.0, p.1, p.2, some-node p.0 p.2 c.if-g-c.false, p.3))

pub graph_value-returns : goal.graph_value-returns
graph_value-returns t c =
    let p = c.requires in
    let a = c.args in
    let r = run a.card.now a.c a.faults.now a.vector.now in
    output-saved r p.0 p.2 c.if-g-c.false c.node_value-entrance.ensures c.set_at-v.ensures c.put-2.ensures

pub node_value-overflow_add-j : goal.node_value-overflow_add-j
node_value-overflow_add-j t c =
    let p = c.requires in
    omega (arith, node-inside (walkable p.0 p.2) p.3 c.first_node.ensures)

pub node_value-get-known-requires : goal.node_value-get-known-requires
node_value-get-known-requires t c =
    let p = c.requires in
    omega (arith, node-number-below p.0 p.2 p.3 c.first_node.ensures, p.4.long)

pub node_value-graph_read-read-requires : goal.node_value-graph_read-read-requires
node_value-graph_read-read-requires t c =
    let p = c.requires in
    omega (arith, node-inside (walkable p.0 p.2) p.3 c.first_node.ensures)

pub node_value-graph_value-requires : goal.node_value-graph_value-requires
node_value-graph_value-requires t c =
    let p = c.requires in
    let low = read_below (walkable p.0 p.2) p.3 c.first_node.ensures in
    let r = c.graph_read-read.ensures in
    (omega (arith, c.decreases, low, r, p.3), (p.0, p.1, omega (arith, low, r, p.2), p.4))

pub node_value-decision-d-requires : goal.node_value-decision-d-requires
node_value-decision-d-requires t c =
    let p = c.requires in
    let f = c.first_node.ensures in
    let y = walkable p.0 p.2 in
    (omega (arith, node-inside y p.3 f), omega (arith, read_below y p.3 f, p.2, c.graph_value.ensures.saved.long))

pub node_value-exit_taken-e-requires : goal.node_value-exit_taken-e-requires
node_value-exit_taken-e-requires t c =
    let p = c.requires in
    node-inside (walkable p.0 p.2) p.3 c.first_node.ensures

pub node_value-returns-then-e-lt2 : goal.node_value-returns-then-e-lt2
node_value-returns-then-e-lt2 t c =
    let p = c.requires in
    let a = c.args in
    let r = run a.card.now a.c a.faults.now a.vector.now in
    node-ended r p.0 p.2 p.3 c.first_node.ensures c.graph_read-read.ensures c.graph_value.ensures c.decision-d.ensures c.exit_taken-e.ensures
    c.if-e-lt2.true c.put.ensures

pub node_value-node_value-v-requires : goal.node_value-node_value-v-requires
node_value-node_value-v-requires t c =
    let p = c.requires in
    let f = c.first_node.ensures in
    let v = c.graph_value.ensures in
    let a = c.args in
    let r = run a.card.now a.c a.faults.now a.vector.now in
    let d = decision-found r p.0 p.2 p.3 f c.graph_read-read.ensures v c.decision-d.ensures in
    let n = node-goes p.0 p.2 p.3 f (faulty a.faults.now) a.vector.now d c.exit_taken-e.ensures c.if-e-lt2.false in
    (omega (arith, c.decreases, n.0, n.1, p.3), (p.0, p.1, p.2, n.1, v.saved))

pub node_value-returns : goal.node_value-returns
node_value-returns t c =
    let p = c.requires in
    let a = c.args in
    let r = run a.card.now a.c a.faults.now a.vector.now in
    node-went r p.0 p.2 p.3 c.first_node.ensures c.graph_read-read.ensures c.graph_value.ensures c.decision-d.ensures c.exit_taken-e.ensures
    c.if-e-lt2.false c.node_value-v.ensures c.put-2.ensures
