use mathlib.Core.Path.{sym}
use native.Mathlib.Omega.{arith}
use lib.Seq.{length-take-le}
use Rattle.lists.proofs.Tables.{over_none, over-store}
use Rattle.layout.proofs.NodeNumbers.{made-ready}
use Rattle.testvectors.proofs.Laws.{wide}
use Rattle.evaluate.proofs.Laws.{nothing_known}
use Rattle.evaluate.proofs.work_out.Goals as goal

pub loop-g-init : goal.loop-g-init
loop-g-init c =
    let known = c.filled-saved.ensures in
    (sym (over_none _ _), nothing_known _ _ _ c.requires.0 known.0 known.1)

pub graph_value-requires : goal.graph_value-requires
graph_value-requires c =
    let ready = made-ready _ c.requires.0 (omega (arith, c.requires.0.few-graphs, c.filled-firsts.ensures.0)) c.first_nodes.ensures in
    (ready, wide _ _ c.requires.1, omega (arith, length-take-le c.args.c.graphs c.args.values.now c.requires.2), c.loop-g.invariant.1)

pub loop-g-preserved : goal.loop-g-preserved
loop-g-preserved c =
    let f = c.graph_value.ensures in
    (rw c.loop-g.invariant.0 (over-store _ _ c.loop-g.g _ (omega arith) f.right), f.saved)
