-- `evaluate::graph_value` and `evaluate::node_value`, which call each other, meet their contracts. The falling number: a graph stands above its own nodes, and
-- a node above the later nodes of its graph and above every lower graph. Assumes nothing.
use Rattle.std.proofs.Common.{◌+◌, ◌-◌, ◌*◌}
use Rattle.layout.specs.Layout.{size}
use Rattle.evaluate.proofs.+graph_value_node_value.Given as goal

abbrev pub decreases-graph_value : goal.decreases-graph_value
decreases-graph_value l = l.g * 8192 + 8192

abbrev pub decreases-node_value : goal.decreases-node_value
decreases-node_value l = l.g * 8192 + (size l.card.now l.g - l.k)
