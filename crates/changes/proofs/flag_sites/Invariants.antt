-- `changes::flag_sites` meets its contract. The invariant: the words below j tell what is caught at their sites, and the others as they were. Assumes
-- nothing.
use mathlib.Core.Path.{◌≡◌}
use lib.Dec.{ltb}
use lib.ListN.{get_or}
use Rattle.lists.specs.Tables.{over}
use Rattle.lists.specs.Counting.{choose}
use Rattle.changes.proofs.flag_sites.Given as goal

abbrev pub invariant-loop-j : goal.invariant-loop-j
invariant-loop-j l = l.node-items ≡ over l.j (λ i. choose (ltb (get_or l.caught i 0) 2) 1 0) l.initial.node-items
