-- `layout::first_nodes` meets its contract. The invariant: the words below g are the first nodes of their graphs, n that of graph g, which is no more than
-- there are nodes, and the other words as they were. Assumes nothing.
use Prim.Native.Nat.{◌≤◌}
use mathlib.Core.Path.{◌≡◌}
use Rattle.lists.specs.Tables.{over}
use Rattle.layout.specs.Layout.{first}
use Rattle.layout.proofs.first_nodes.Given as goal

abbrev pub invariant-loop-g : goal.invariant-loop-g
invariant-loop-g l = (l.n ≤ l.c.nodes) × (l.n ≡ first l.card l.g) × (l.firsts ≡ over l.g (first l.card) l.initial.firsts)
