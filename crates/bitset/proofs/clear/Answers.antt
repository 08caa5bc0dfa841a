-- `bitset::clear` meets its contract. Assumes nothing.
use native.Mathlib.Omega.{arith}
use Rattle.bitset.proofs.Bits.{cleared}
use Rattle.bitset.proofs.clear.Goals as goal

pub returns : goal.returns
returns c = cleared _ c.requires (omega arith) (c.fill.ensures.after (λ y e. e))
