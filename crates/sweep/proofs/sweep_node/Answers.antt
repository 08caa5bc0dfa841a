-- `sweep::sweep_node` meets its contract. Assumes nothing.
use native.Mathlib.Omega.{arith}
use Rattle.layout.proofs.NodeNumbers.{own-ready, own_first, walkable, node-inside, read_below, node-number-below, exit_below}
use Rattle.sweep.proofs.Laws.{node-stored}
use Rattle.sweep.proofs.sweep_node.Goals as goal

pub overflow_add-j : goal.overflow_add-j
overflow_add-j c =
    let f = own_first c.requires.0 c.requires.2 c.requires.1 in
    omega (arith, node-number-below (own-ready c.requires.0) c.requires.2 c.requires.3 f, c.requires.0.few-nodes)

pub decision-d-requires : goal.decision-d-requires
decision-d-requires c =
    let y = walkable (own-ready c.requires.0) c.requires.2 in
    let f = own_first c.requires.0 c.requires.2 c.requires.1 in
    (omega (arith, node-inside y c.requires.3 f), omega (arith, read_below y c.requires.3 f, c.requires.2, c.requires.4))

pub exit_at-e-requires : goal.exit_at-e-requires
exit_at-e-requires c =
    node-inside (walkable (own-ready c.requires.0) c.requires.2) c.requires.3 (own_first c.requires.0 c.requires.2 c.requires.1)

pub exit_value-v-requires : goal.exit_value-v-requires
exit_value-v-requires c =
    let f = own_first c.requires.0 c.requires.2 c.requires.1 in
    λ b. omega (arith, exit_below (own-ready c.requires.0) c.requires.2 c.requires.3 f c.decision-d.result c.exit_at-e.ensures b, c.requires.4)

pub put-requires : goal.put-requires
put-requires c =
    let f = own_first c.requires.0 c.requires.2 c.requires.1 in
    omega (arith, node-number-below (own-ready c.requires.0) c.requires.2 c.requires.3 f, c.requires.4)

pub returns : goal.returns
returns c =
    let f = own_first c.requires.0 c.requires.2 c.requires.1 in
    λ x p. node-stored (own-ready c.requires.0) c.requires.2 c.requires.3 f x _ c.decision-d.ensures c.exit_at-e.ensures p c.exit_value-v.ensures c.put.ensures
