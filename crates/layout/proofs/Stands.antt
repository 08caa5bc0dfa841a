-- The graph in which a node stands. Assumes nothing.
use Prim.Native.Nat.{ℕ, zero, suc, ◌+◌, ◌-◌, ◌<◌, ◌≤◌}
use mathlib.Core.Path.{◌≡◌}
use mathlib.Core.List.{List}
use native.Mathlib.Omega.{arith}
use native.Mathlib.Decide.{dec_lt}
use borrow.Author.Tests.{lt-ltb, le-ltb}
use Rattle.answers.specs.declared.Counts.{Counts}
use Rattle.layout.specs.Layout.{first, size, stands_in}
use Rattle.layout.specs.Shape.{Shape}
use Rattle.layout.proofs.Firsts.{first_next, one-node, node-below}

-- each node below those of graph G stands in a graph
pub owner : (ws : List ℕ) (G p : ℕ) → p < first ws G
    → (stands_in ws p G < G) × (first ws (stands_in ws p G) ≤ p) × (p < first ws (stands_in ws p G) + size ws (stands_in ws p G))
unfolding first stands_in
owner ws zero p h = absurd (omega arith)
owner ws (suc G) p h = elim (dec_lt p (first ws G)) [
  | yes l ↦ rw (lt-ltb p (first ws G) l) (let r = owner ws G p l in (omega arith, r.1, r.2))
  | no m ↦
      let l : first ws G ≤ p = omega arith in
      rw (le-ltb p (first ws G) l) (omega arith, l, rw (first_next ws G) at h)
]

-- and local node k of graph g in graph g
pub stands-in : {ws : List ℕ} {c : Counts} → Shape ws c → (g k : ℕ) → g < c.graphs → k < size ws g → stands_in ws (first ws g + k) c.graphs ≡ g
stands-in {ws} {c} a g k l i =
    let p = first ws g + k in
    let h = stands_in ws p c.graphs in
    let r = owner ws c.graphs p (rw a.nodes-in (node-below a g k l i)) in
    (one-node ws g h k (p - first ws h) i (omega arith) (omega arith)).0
