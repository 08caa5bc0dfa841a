-- `nodecheck::has_unnamed` meets its contract. The invariant: none of the places 1 to i is 0. Assumes nothing.
use Prim.Native.Nat.{◌≤◌, ◌-◌}
use mathlib.Core.Bool.{false}
use mathlib.Core.Path.{◌≡◌}
use Rattle.nodecheck.specs.Table.{zero_after}
use Rattle.nodecheck.proofs.has_unnamed.Given as goal

abbrev pub invariant-loop-i : goal.invariant-loop-i
invariant-loop-i l = (l.i ≤ l.n - 1) × (zero_after l.table l.i ≡ false)

abbrev pub decreases-loop-i : goal.decreases-loop-i
decreases-loop-i l = l.n - l.i
