-- `pathlengths::path_length` meets its contract. Assumes nothing.
use mathlib.Core.Path.{sym}
use native.Mathlib.Omega.{arith}
use Rattle.layout.proofs.NodeNumbers.{walkable, some-node}
use Rattle.value.specs.Settings.{good}
use Rattle.value.proofs.Lengths.{path-input}
use Rattle.pathlengths.proofs.Laws.{length-walked}
use Rattle.pathlengths.proofs.path_length.Goals as goal

pub returns-then-g-c : goal.returns-then-g-c
returns-then-g-c c = λ x s. sym (path-input c.requires.0.shape good x _ c.if-g-c.true)

pub walk_graph-walked-requires : goal.walk_graph-walked-requires
walk_graph-walked-requires c =
    (walkable c.requires.0 c.requires.1, some-node c.requires.0 c.requires.1 c.if-g-c.false, omega (arith, c.requires.1, c.requires.2))

pub returns : goal.returns
returns c =
    λ x s. length-walked c.requires.0.shape c.args.values.now c.requires.1 x s c.if-g-c.false c.walk_graph-walked.ensures
