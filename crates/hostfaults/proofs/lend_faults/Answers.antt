-- `hostfaults::lend_faults` meets its contract. Assumes nothing.
use native.Mathlib.Omega.{arith}
use Rattle.hostfaults.proofs.Laws.{numbers-lent}
use Rattle.hostfaults.proofs.lend_faults.Goals as goal

pub returns : goal.returns
returns c = numbers-lent _ _ _ (omega (arith, c.requires, c.read_faults-n.auto.out)) c.read_faults-n.ensures
