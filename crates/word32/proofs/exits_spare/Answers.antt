-- `word32::exits_spare` meets its contract: its mask keeps 1 bit. Assumes nothing.
use lib.Bits.{and_mask}
use Rattle.word32.proofs.exits_spare.Goals as goal

pub returns : goal.returns
returns c = and_mask _ 1
