-- `bitset::merge` meets its contract. The invariant: words lo to w - 1 are merged. Assumes nothing.
use Rattle.bitset.proofs.Bits.{Merged}
use Rattle.bitset.proofs.merge.Given as goal

abbrev pub invariant-loop-w : goal.invariant-loop-w
invariant-loop-w l = Merged l.rows l.from l.lo l.w l.base l.initial.words l.words
