use Prim.Native.Nat.{◌+◌}
use mathlib.Core.Path.{◌≡◌, refl, sym}
use native.Mathlib.Omega.{arith}
use Rattle.lists.proofs.Tables.{over_none, over-store}
use Rattle.layout.proofs.Firsts.{first-passed, first-few, header-inside}
use Rattle.layout.specs.Layout.{first}
use Rattle.layout.proofs.first_nodes.Goals as goal

pub loop-g-init : goal.loop-g-init
unfolding first
loop-g-init c = (omega arith, refl, sym (over_none _ _))

pub bounds-card-g : goal.bounds-card-g
bounds-card-g c = let l = c.loop-g in omega (arith, header-inside c.requires.0 l.g (omega arith))

pub loop-g-preserved : goal.loop-g-preserved
loop-g-preserved c =
    let l = c.loop-g in
    let e : l.n + c.node_count-n.result ≡ first c.args.card.now (l.g + 1) = rw c.node_count-n.ensures (first-passed _ _ _ l.invariant.1) in (
      omega (arith, first-few c.requires.0 (l.g + 1) (omega arith)),
      e,
      rw l.invariant.2 (over-store _ _ l.g _ (omega arith) l.invariant.1),
    )

pub returns : goal.returns
returns c =
    let l = c.loop-g in
    let e : l.g ≡ c.args.c.graphs = omega arith in
    rw (l.invariant.2, ← e) (over-store _ _ l.g _ (omega arith) l.invariant.1)
