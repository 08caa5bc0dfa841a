-- `change::flip_at` meets its contract. Assumes nothing.
use native.Mathlib.Omega.{arith}
use Rattle.layout.proofs.NodeNumbers.{walkable, some-node}
use Rattle.value.proofs.Walking.{walk-value}
use Rattle.change.proofs.Laws.{flip-input, flip-output}
use Rattle.change.proofs.flip_at.Goals as goal

pub returns-then-h-c : goal.returns-then-h-c
returns-then-h-c c =
    λ x g l s. flip-input c.requires.0.shape x g s l c.requires.1 c.if-h-c.true

pub walk_graph-v-requires : goal.walk_graph-v-requires
walk_graph-v-requires c =
    (walkable c.requires.0 c.requires.1, some-node c.requires.0 c.requires.1 c.if-h-c.false, omega (arith, c.requires.1, c.requires.2))

pub returns : goal.returns
returns c =
    λ x g l s. flip-output c.requires.0.shape x g s l c.requires.1 c.if-h-c.false (walk-value _ _ _ c.walk_graph-v.ensures) c.put.ensures
