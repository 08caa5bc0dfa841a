-- `word32::gate_function` meets its contract: its mask keeps 3 bits. Assumes nothing.
use lib.Bits.{and_mask}
use Rattle.word32.proofs.gate_function.Goals as goal

pub returns : goal.returns
returns c = and_mask _ 3
