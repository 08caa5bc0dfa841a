-- `word32::read_spare` meets its contract: its mask keeps 12 bits. Assumes nothing.
use lib.Bits.{and_mask}
use Rattle.word32.proofs.read_spare.Goals as goal

pub returns : goal.returns
returns c = and_mask _ 12
