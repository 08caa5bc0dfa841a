use native.Mathlib.Omega.{arith}
use Rattle.bitset.proofs.Bits.{merge-more}
use Rattle.bitset.proofs.merge.Goals as goal

pub loop-w-preserved : goal.loop-w-preserved
loop-w-preserved c =
    merge-more c.loop-w.invariant (omega (arith, c.loop-w.invariant.long, c.requires.1)) c.get-more.ensures c.get-had.ensures c.put.ensures
