use Prim.Native.Nat.{suc}
use mathlib.Core.Path.{◌≡◌, ap, ◌∙◌}
use native.Mathlib.Omega.{arith}
use Rattle.layout.specs.Layout.{first}
use Rattle.layout.proofs.Firsts.{first_next, first-few}
use Rattle.layout.proofs.NodeNumbers.{walkable}
use Rattle.cardtables.proofs.Stems.{read-in}
use Rattle.cardtables.proofs.note_readers.Goals as goal

pub loop-h-init : goal.loop-h-init
unfolding first
loop-h-init c = c.requires.2

pub note_graph-requires : goal.note_graph-requires
note_graph-requires c =
    let l = c.loop-h-test.true in
    let a = c.requires.0.shape in (
      walkable c.requires.0 l,
      omega (arith, a.few-graphs, l),
      omega (arith, a.few-nodes, first_next c.args.card.now c.loop-h.h, first-few a (suc c.loop-h.h) (omega arith)),
      omega arith,
    )

pub loop-h-preserved : goal.loop-h-preserved
loop-h-preserved c = c.note_graph.ensures _ (read-in c.requires.0.shape c.loop-h.h c.loop-h-test.true) c.loop-h.invariant

pub returns : goal.returns
returns c =
    let e : c.loop-h.h ≡ c.args.c.graphs = omega arith in
    rw (ap (first _) e ∙ c.requires.0.shape.nodes-in) at c.loop-h.invariant
