-- `testvectors::bit` meets its contract. Assumes nothing.
use Rattle.testvectors.specs.Vectors.{bit}
use Rattle.testvectors.proofs.bit.Goals as goal

pub returns : goal.returns
unfolding bit
returns c = c.bit.ensures
