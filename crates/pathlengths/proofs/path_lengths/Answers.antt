use mathlib.Core.Path.{sym}
use native.Mathlib.Omega.{arith}
use lib.Seq.{length-take-le}
use Rattle.lists.proofs.Tables.{over_none, over-store}
use Rattle.layout.proofs.NodeNumbers.{made-ready}
use Rattle.pathlengths.proofs.path_lengths.Goals as goal

pub loop-g-init : goal.loop-g-init
loop-g-init c = λ x s. sym (over_none _ _)

pub path_length-requires : goal.path_length-requires
path_length-requires c =
    let ready = made-ready _ c.requires.0 (omega (arith, c.requires.0.few-graphs, c.filled-firsts.ensures.0)) c.first_nodes.ensures in
    (ready, omega (arith, length-take-le c.args.c.graphs c.args.lengths.now c.requires.2), c.requires.1)

pub loop-g-preserved : goal.loop-g-preserved
loop-g-preserved c =
    λ x s. rw (c.loop-g.invariant x s) (over-store _ _ c.loop-g.g _ (omega arith) (c.path_length.ensures x s))
