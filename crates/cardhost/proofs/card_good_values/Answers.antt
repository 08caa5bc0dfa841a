-- `cardhost::card_good_values` meets its contract. Assumes nothing.
use Rattle.lists.specs.Tables.{grow}
use Rattle.inbytes.specs.Calls.{of_bytes}
use Rattle.plain.proofs.Lists.{none-good}
use Rattle.cardhost.proofs.card_good_values.Goals as goal

pub returns : goal.returns
unfolding grow
returns c =
    let a = c.args in
    let e = c.card_fault_values.ensures in
    rw (none-good (of_bytes a.card.now) (of_bytes a.vector.now) _) at e
