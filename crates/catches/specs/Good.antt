-- What is at hand when a vector's catches are worked out. No contract of a call cites it. Assumes nothing.
use Rattle.std.specs.Prelude.{ℕ, ◌+◌, ◌<◌, ◌≤◌, List, length, get_or}
use Rattle.answers.specs.declared.Counts.{Counts}
use Rattle.value.specs.Settings.{good}
use Rattle.value.specs.Values.{value}
use Rattle.change.specs.Flips.{Has}
use Rattle.catches.specs.Detections.{Detections}

-- a word for each site, of which those of the graphs are 0 or 1
pub record Bits (c : Counts) (xs : List ℕ) : Type 0 where
  pub long : c.nodes + c.graphs ≤ length xs
  pub bit : (g : ℕ) → g < c.graphs → get_or xs (c.nodes + g) 0 < 2

-- the graphs from n on and their nodes are done: what is caught there; the buffer of walks has the good values
pub record Caught (ws : List ℕ) (c : Counts) (x : List ℕ) (n : ℕ) (walk caught : List ℕ) : Type 0 where
  pub flat : Has (value ws c good x) c.graphs walk
  pub detections : Detections ws c x n caught
