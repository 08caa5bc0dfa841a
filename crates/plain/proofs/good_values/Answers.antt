-- `plain::good_values` meets its contract. Assumes nothing.
use Rattle.answers.specs.Calls.{whole}
use Rattle.plain.proofs.Lists.{none-good}
use Rattle.plain.proofs.good_values.Goals as goal

pub returns : goal.returns
returns c =
    let a = c.args in
    let e = c.fault_values.ensures in
    rw (none-good (whole a.card.now) (whole a.vector.now) _) at e
