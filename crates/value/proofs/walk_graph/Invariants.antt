-- `value::walk_graph` meets its contract. The invariant: the exit e is no constant, no more nodes were met than stand before its node, and where the values
-- are 0 or 1, the walk from its node, so many decisions later, is the walk from the entrance. Assumes nothing.
use Prim.Native.Nat.{◌<◌, ◌≤◌, ◌-◌}
use mathlib.Core.Path.{◌≡◌}
use Rattle.layout.specs.Layout.{size}
use Rattle.value.specs.Buffers.{BitsBelow}
use Rattle.value.proofs.Walk.{later-by}
use Rattle.value.proofs.Walking.{walked_by}
use Rattle.value.proofs.walk_graph.Given as goal

abbrev pub invariant-loop-e : goal.invariant-loop-e
invariant-loop-e l = (l.e - 2 < size l.card l.h) × (2 ≤ l.e) × (l.met ≤ l.e - 2)
    × (BitsBelow l.h l.values → walked_by l.card l.values l.h 0 ≡ later-by l.met (walked_by l.card l.values l.h (l.e - 2)))

abbrev pub decreases-loop-e : goal.decreases-loop-e
decreases-loop-e l = size l.card l.h - (l.e - 2)
