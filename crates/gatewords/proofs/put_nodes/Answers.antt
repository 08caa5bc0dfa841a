use Prim.Native.Nat.{◌+◌, ◌*◌}
use mathlib.Core.Path.{refl}
use native.Mathlib.Omega.{arith}
use Rattle.lists.proofs.Chain.{chain-pairs}
use Rattle.gatelist.specs.Drawn.{lead_nodes}
use Rattle.gatewords.proofs.Written.{chain-start, chain-put}
use Rattle.gatewords.proofs.put_nodes.Goals as goal

pub loop-k-init : goal.loop-k-init
loop-k-init c =
    chain-start _ _ c.args.at (omega (arith, c.requires.3))

pub loop-k-preserved : goal.loop-k-preserved
loop-k-preserved c =
    let l = c.loop-k in
    let a = c.args in
    let nodes = lead_nodes a.gates.now a.p a.w in
    chain-put nodes a.out.now a.at (omega (arith, c.requires.3)) (a.at + 2 * l.k) l.k (omega (arith, chain-pairs nodes (λ k. refl) l.k)) l.invariant
    (rw (c.get.ensures, c.node_count-n.ensures, ← c.requires.0) at c.put_node.ensures)
