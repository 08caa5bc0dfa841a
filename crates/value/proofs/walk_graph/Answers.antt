use mathlib.Core.Path.{sym, ◌∙◌}
use native.Mathlib.Omega.{arith}
use Rattle.layout.proofs.NodeNumbers.{node-inside, read_below}
use Rattle.value.proofs.Walk.{later-none}
use Rattle.value.proofs.Walking.{size_small, walk_ends, walk-later, walk-goes}
use Rattle.value.proofs.walk_graph.Goals as goal

pub loop-e-init : goal.loop-e-init
loop-e-init c = (c.requires.1, omega arith, omega arith, λ b. later-none _)

pub overflow_sub-j : goal.overflow_sub-j
overflow_sub-j c = c.loop-e.invariant.1

pub overflow_add-j : goal.overflow_add-j
overflow_add-j c =
    omega (arith, node-inside c.requires.0 c.loop-e.invariant.0 c.first_node-first.ensures)

pub decision-d-requires : goal.decision-d-requires
decision-d-requires c =
    let f = c.first_node-first.ensures in
    (omega (arith, node-inside c.requires.0 c.loop-e.invariant.0 f), omega (arith, read_below c.requires.0 c.loop-e.invariant.0 f, c.requires.2))

pub exit_at-e-requires : goal.exit_at-e-requires
exit_at-e-requires c =
    node-inside c.requires.0 c.loop-e.invariant.0 c.first_node-first.ensures

pub overflow_add-met : goal.overflow_add-met
overflow_add-met c =
    omega (arith, c.loop-e.invariant.0, c.loop-e.invariant.2, size_small c.args.card.now c.args.h)

pub returns-then-e-lt2 : goal.returns-then-e-lt2
returns-then-e-lt2 c =
    λ b. sym (c.loop-e.invariant.3 b ∙ walk_ends c.requires.0 c.loop-e.invariant.0 c.first_node-first.ensures c.args.values.now c.decision-d.ensures c.exit_at-e.ensures c.if-e-lt2.true b _)

pub loop-e-smaller : goal.loop-e-smaller
loop-e-smaller c =
    let n = walk-later c.requires.0 c.loop-e.invariant.0 c.first_node-first.ensures c.args.values.now c.decision-d.ensures c.exit_at-e.ensures c.if-e-lt2.false in
    omega (arith, n.0, n.1)

pub loop-e-preserved : goal.loop-e-preserved
loop-e-preserved c =
    let n = walk-later c.requires.0 c.loop-e.invariant.0 c.first_node-first.ensures c.args.values.now c.decision-d.ensures c.exit_at-e.ensures c.if-e-lt2.false in
    let goes = walk-goes c.requires.0 c.loop-e.invariant.0 c.first_node-first.ensures c.args.values.now c.decision-d.ensures c.exit_at-e.ensures c.if-e-lt2.false in
    (n.1, c.if-e-lt2.false, omega (arith, n.0, c.loop-e.invariant.2), λ b. c.loop-e.invariant.3 b ∙ goes b _)
