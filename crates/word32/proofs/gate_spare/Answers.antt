-- `word32::gate_spare` meets its contract: its mask keeps 10 bits. Assumes nothing.
use lib.Bits.{and_mask}
use Rattle.word32.proofs.gate_spare.Goals as goal

pub returns : goal.returns
returns c = and_mask _ 10
