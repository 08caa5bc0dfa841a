-- `sweep::sweep_graph` meets its contract. Assumes nothing.
use Rattle.layout.proofs.NodeNumbers.{walkable, first-is, size-asks, size-told}
use Rattle.sweep.proofs.Laws.{input-stored, entrance-inside, output-stored}
use Rattle.sweep.proofs.sweep_graph.Goals as goal

pub returns-then-g-c : goal.returns-then-g-c
returns-then-g-c c =
    input-stored c.requires.0 c.requires.2 c.requires.3 c.if-g-c.true c.bit.ensures c.put.ensures

pub graph_size-n-requires : goal.graph_size-n-requires
graph_size-n-requires c =
    size-asks (walkable c.requires.0 c.requires.2)

pub sweep_nodes-requires : goal.sweep_nodes-requires
sweep_nodes-requires c =
    let y = walkable c.requires.0 c.requires.2 in
    (c.requires.0.shape, first-is y c.first_node-first.ensures, c.requires.2, size-told y c.graph_size-n.ensures, c.requires.3.long)

pub get-v-requires : goal.get-v-requires
get-v-requires c =
    entrance-inside c.requires.0 c.requires.2 c.if-g-c.false c.first_node-first.ensures (c.sweep_nodes.ensures _ c.requires.3)

pub returns : goal.returns
returns c =
    output-stored c.requires.0 c.requires.2 c.if-g-c.false c.first_node-first.ensures (c.sweep_nodes.ensures _ c.requires.3) c.get-v.ensures c.put-2.ensures
