-- `block::begin` meets its contract. Assumes nothing.
use Rattle.block.proofs.Started.{begun}
use Rattle.block.proofs.begin.Goals as goal

pub returns : goal.returns
returns c =
    begun c.requires.0 c.requires.1 c.fill.ensures c.fill-2.ensures c.start.ensures.0 c.start.ensures.1
