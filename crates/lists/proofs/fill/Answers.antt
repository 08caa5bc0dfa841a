-- `lists::fill` meets its contract. Assumes nothing.
use Rattle.lists.proofs.Tables.{over-fill}
use Rattle.lists.proofs.fill.Goals as goal

pub returns : goal.returns
returns c = over-fill _ _ _ c.requires (c.fill.ensures.after (λ y e. e))
