-- How a buffer tells what one vector catches: by a word for each site. No contract of a call cites it. Assumes nothing.
use Rattle.std.specs.Prelude.{ℕ, ◌+◌, ◌<◌, ◌≤◌, ◌≡◌, List, length, get_or}
use Rattle.answers.specs.declared.Counts.{Counts}
use Rattle.layout.specs.Layout.{first, size}
use Rattle.critical.specs.Walking.{walk_length}
use Rattle.catches.specs.Caught.{caught_at}

-- the words of the graphs from n on and of their nodes: node j's at j, graph g's at N + g
pub record Detections (ws : List ℕ) (c : Counts) (x : List ℕ) (n : ℕ) (xs : List ℕ) : Type 0 where
  pub long : c.nodes + c.graphs ≤ length xs
  pub nodes : (g k : ℕ) → n ≤ g → g < c.graphs → k < size ws g → get_or xs (first ws g + k) 0 ≡ caught_at ws c x (first ws g + k)
  pub graphs : (g : ℕ) → n ≤ g → g < c.graphs → get_or xs (c.nodes + g) 0 ≡ caught_at ws c x (c.nodes + g)

-- room for one vector: good values, a walk, what is caught
pub record Room (c : Counts) (values walk caught : List ℕ) : Type 0 where
  pub values-long : c.nodes + c.graphs ≤ length values
  pub walk-long : walk_length ≤ length walk
  pub caught-long : c.nodes + c.graphs ≤ length caught
