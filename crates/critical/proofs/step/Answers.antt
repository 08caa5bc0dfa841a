-- `critical::step` meets its contract. Assumes nothing.
use native.Mathlib.Omega.{arith}
use Rattle.layout.proofs.NodeNumbers.{walkable, some-node}
use Rattle.value.proofs.Walking.{walk-value}
use Rattle.critical.proofs.Steps.{entry_more, hidden-more, input-step, kept_step, listed-step}
use borrow.Author.Rules.{rules}
use Rattle.critical.proofs.step.Goals as goal

pub returns-then-h-c : goal.returns-then-h-c
returns-then-h-c c =
    (omega (arith, c.requires.2), c.requires.3, λ o. c.requires.4, λ x g s. input-step c.requires.0 c.requires.1 s c.if-h-c.true)

pub walk_graph-v-requires : goal.walk_graph-v-requires
walk_graph-v-requires c =
    let y = c.requires.0.ready in
    (walkable y c.requires.1, some-node y c.requires.1 c.if-h-c.false, omega (arith, c.requires.1, c.requires.5, y.shape.few-graphs))

pub returns-then-v-own : goal.returns-then-v-own
returns-then-v-own c =
    (omega (arith, c.requires.2), c.requires.3, λ o. c.requires.4, λ x g s. kept_step c.requires.0 c.requires.1 s c.if-h-c.false (walk-value _ _ _ c.walk_graph-v.ensures) c.get-own.ensures c.if-v-own.true)

pub returns : goal.returns
returns c =
    let z = c.list_graph.ensures in
    let few = c.requires.0.ready.shape.few-graphs in (
      omega (arith, c.requires.2),
      entry_more c.requires.3 c.requires.1 (omega (arith, few, c.requires.1, c.requires.2)) z,
      λ o. hidden-more c.requires.4 (omega (arith, few, c.requires.1, c.requires.2)) z o,
      λ x g s. listed-step c.requires.0 c.requires.1 s c.if-h-c.false (walk-value _ _ _ c.walk_graph-v.ensures) c.get-own.ensures c.if-v-own.false z (search rules),
    )
