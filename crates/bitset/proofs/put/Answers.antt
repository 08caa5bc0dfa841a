-- `bitset::put` meets its contract. Assumes nothing.
use Rattle.bitset.proofs.Bits.{put_one}
use Rattle.bitset.proofs.put.Goals as goal

pub returns : goal.returns
returns c =
    put_one _ _ c.requires c.get-w.ensures c.with_bit.ensures c.put.ensures
