-- `word32::input_spare` meets its contract: its mask keeps 29 bits. Assumes nothing.
use lib.Bits.{and_mask}
use Rattle.word32.proofs.input_spare.Goals as goal

pub returns : goal.returns
returns c = and_mask _ 29
