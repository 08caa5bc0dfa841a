use Prim.Native.Nat.{◌+◌}
use mathlib.Core.Path.{◌≡◌, ap, ◌∙◌}
use native.Mathlib.Omega.{arith}
use native.Mathlib.Numerals.{add-one}
use Rattle.layout.specs.Layout.{first}
use Rattle.layout.proofs.Firsts.{first_next}
use Rattle.layout.proofs.NodeNumbers.{size-told, first-is, node-inside, node-number, read_below}
use Rattle.cardtables.proofs.note_graph.Goals as goal

pub note_node-requires : goal.note_node-requires
note_node-requires c =
    let f = c.first_node-first.ensures in
    let b = rw (size-told c.requires.0 c.graph_size-n.ensures) at c.loop-k-test.true in
    let r = read_below c.requires.0 b f in (
      omega (arith, node-inside c.requires.0 b f),
      omega (arith, r, c.requires.1),
      c.requires.1,
      omega (arith, c.requires.2, first-is c.requires.0 f, b),
      omega arith,
    )

pub loop-k-preserved : goal.loop-k-preserved
loop-k-preserved c =
    let f = c.first_node-first.ensures in
    let b = rw (size-told c.requires.0 c.graph_size-n.ensures) at c.loop-k-test.true in
    let e : c.first_node-first.result + (c.loop-k.k + 1) ≡ c.first_node-first.result + c.loop-k.k + 1 = omega arith in
    λ q r d.
    let p = node-number c.requires.0 b f in
    rw e (c.note_node.ensures q c.loop-k.k b p (ap q p ∙ r c.loop-k.k b) (c.loop-k.invariant q r d))

pub returns : goal.returns
returns c =
    let n = size-told c.requires.0 c.graph_size-n.ensures in
    let e : first c.args.card.now (c.args.h + 1) ≡ c.first_node-first.result + c.loop-k.k
    = ap (first _) (add-one c.args.h) ∙ first_next _ c.args.h ∙ omega (arith, n, first-is c.requires.0 c.first_node-first.ensures) in
    λ q r d. rw e (c.loop-k.invariant q r (rw (first-is c.requires.0 c.first_node-first.ensures) d))
