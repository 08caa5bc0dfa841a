-- `catches::catch_path` meets its contract. The invariant: the nodes below k have what is caught there, the others 2, and the active path goes on at node k.
-- Assumes nothing.
use Prim.Native.Nat.{ℕ, ◌<◌, ◌+◌, ◌-◌}
use mathlib.Core.Path.{◌≡◌}
use mathlib.Core.List.{List}
use mathlib.Core.Bool.{true}
use lib.ListN.{length}
use Rattle.layout.specs.Layout.{size}
use Rattle.rules.specs.Rules.{critical}
use Rattle.sweep.specs.Swept.{Swept}
use Rattle.catches.specs.ActivePath.{ActivePath}
use Rattle.catches.specs.Words.{Along}
use Rattle.catches.proofs.catch_path.Given as goal

abbrev pub invariant-loop-c : goal.invariant-loop-c
invariant-loop-c l = (l.k < size l.card l.g) × (length l.caught ≡ length l.initial.caught)
    × ((x : List ℕ) → Swept l.card l.c x l.c.graphs l.values → critical l.card l.c x l.g ≡ true → Along l.card l.c x l.g 0 l.initial.caught l.initial.caught → Along l.card l.c x l.g l.k l.initial.caught l.caught × ActivePath l.card l.c x l.g l.k (l.k + 2))

abbrev pub decreases-loop-c : goal.decreases-loop-c
decreases-loop-c l = size l.card l.g - l.k
