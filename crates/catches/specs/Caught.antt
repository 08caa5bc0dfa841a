-- Which of a site's two faults a vector catches: at most one of them. By faults alone. Assumes nothing.
use Rattle.std.specs.Prelude.{ℕ, ◌+◌, ◌*◌, List}
use Rattle.lists.specs.Counting.{choose}
use Rattle.answers.specs.declared.Counts.{Counts}
use Rattle.detect.specs.Detects.{detects}

-- the value at which site p is stuck in the fault that the vector catches there, or 2 where it catches neither; fault 2p is stuck at 0, 2p + 1 at 1
unfoldable pub caught_at : List ℕ → Counts → List ℕ → ℕ → ℕ
unfolding detects
caught_at ws c x p = choose (detects ws c x (2 * p + 0)) 0 (choose (detects ws c x (2 * p + 1)) 1 2)
