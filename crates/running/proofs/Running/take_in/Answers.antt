-- `running::Running::take_in` meets its contract. Assumes nothing.
use Rattle.running.proofs.Fold.{counted_next}
use mathlib.Core.Path.{refl}
use Rattle.running.proofs.Running.take_in.Goals as goal

pub returns : goal.returns
returns c =
    let took = c.take_sites-marked in
    (refl, took.ensures.1, counted_next c.requires.4 took.ensures.1 took.auto.marks took.auto.tallies took.ensures.0)
