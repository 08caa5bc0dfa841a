-- `bitset::next` meets its contract. The invariant: the set has no number from `start` on that is below i. Assumes nothing.
use Prim.Native.Nat.{◌-◌}
use Rattle.bitset.proofs.Bits.{Passed}
use Rattle.bitset.proofs.next.Given as goal

abbrev pub invariant-loop-i : goal.invariant-loop-i
invariant-loop-i l = Passed l.words l.base l.start l.end l.i

abbrev pub decreases-loop-i : goal.decreases-loop-i
decreases-loop-i l = l.end - l.i
