-- The list of a change walk that ends at the first observable graph that changes. No contract of a public call cites it. Assumes nothing.
use Rattle.std.specs.Prelude.{ℕ, List, Bool, not, ◌&&◌}
use Rattle.answers.specs.declared.Counts.{Counts}
use Rattle.detect.specs.Detects.{observed, good_value}
use Rattle.rules.specs.Rules.{flipped, listed}

-- THE STOPPED LIST of graph g has the graphs of its change list with no observable graph of that list below them: the change list up to its least
-- observable graph, or all of it where none is observable.
unfoldable pub stopped : List ℕ → Counts → List ℕ → ℕ → ℕ → Bool
stopped ws c x g h = listed ws c x g h && not (observed ws h (good_value ws c x) (flipped ws c x g))
