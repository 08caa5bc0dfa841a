-- `word32::read_inverted` meets its contract: its mask keeps 1 bit. Assumes nothing.
use lib.Bits.{and_mask}
use Rattle.word32.proofs.read_inverted.Goals as goal

pub returns : goal.returns
returns c = and_mask _ 1
