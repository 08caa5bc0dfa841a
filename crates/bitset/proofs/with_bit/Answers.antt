-- `bitset::with_bit` meets its contract. Assumes nothing.
use Rattle.bitset.proofs.Bits.{with-bit}
use Rattle.bitset.proofs.with_bit.Goals as goal

pub returns : goal.returns
returns c = with-bit _ _ c.requires
