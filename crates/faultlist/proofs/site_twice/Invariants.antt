-- `faultlist::site_twice` meets its contract. The invariant: the numbers from i on tell what all do. Assumes nothing.
use mathlib.Core.Path.{◌≡◌}
use lib.ListN.{drop}
use Rattle.faultlist.specs.Faults.{site_twice}
use Rattle.faultlist.proofs.site_twice.Given as goal

abbrev pub invariant-loop-i : goal.invariant-loop-i
invariant-loop-i l = site_twice l.faults ≡ site_twice (drop l.i l.faults)
