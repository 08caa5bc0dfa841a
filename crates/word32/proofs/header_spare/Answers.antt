-- `word32::header_spare` meets its contract: its mask keeps 13 bits. Assumes nothing.
use lib.Bits.{and_mask}
use Rattle.word32.proofs.header_spare.Goals as goal

pub returns : goal.returns
returns c = and_mask _ 13
