use Prim.Native.Nat.{◌+◌, ◌/◌}
use native.Mathlib.Omega.{arith}
use Rattle.bitset.proofs.Bits.{passed-more, next_here}
use Rattle.bitset.proofs.next.Goals as goal

pub returns-then-rest-ne0 : goal.returns-then-rest-ne0
returns-then-rest-ne0 c =
    let fits = c.type_inv.words (c.args.base + c.loop-i.i / 32) in
    next_here c.loop-i.invariant c.get.ensures (rw c.get.ensures (omega arith)) c.if-rest-ne0.true

pub loop-i-preserved : goal.loop-i-preserved
loop-i-preserved c = passed-more c.loop-i.invariant c.get.ensures c.if-rest-ne0.false
