use native.Mathlib.Omega.{arith}
use Rattle.change.proofs.Laws.{flip-starts, flip-ends}
use Rattle.change.proofs.change.Goals as goal

pub loop-h-preserved : goal.loop-h-preserved
loop-h-preserved c =
    λ x s. c.flip_at.ensures x _ (omega arith) (c.loop-h.invariant x s)

pub returns : goal.returns
returns c =
    λ x s. flip-ends (c.loop-h.invariant x (flip-starts c.requires.0.shape x _ s c.requires.1 c.get-own.ensures c.put.ensures)) c.loop-h-test.false
