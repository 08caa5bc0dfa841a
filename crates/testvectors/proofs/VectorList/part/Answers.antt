use mathlib.Core.Path.{sym}
use native.Mathlib.Omega.{arith}
use Rattle.lists.proofs.Tables.{over_none, over-store}
use Rattle.testvectors.proofs.VectorList.part.Goals as goal

pub loop-i-init : goal.loop-i-init
loop-i-init c = sym (over_none _ _)

pub loop-i-preserved : goal.loop-i-preserved
loop-i-preserved c = let l = c.loop-i in rw l.invariant (over-store _ _ l.i _ (omega arith) c.word.ensures)
