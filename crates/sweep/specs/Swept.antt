-- What a sweep leaves in its buffer. No contract of a call cites it. Assumes nothing.
use Rattle.std.specs.Prelude.{ℕ, ◌+◌, ◌<◌, ◌≤◌, ◌≡◌, List, length, get_or}
use Rattle.answers.specs.declared.Counts.{Counts}
use Rattle.layout.specs.Layout.{first, size}
use Rattle.value.specs.Settings.{good}
use Rattle.value.specs.Values.{value, node_value}

-- the good values of the sites of the first n graphs: node j's at j, graph g's at N + g
pub record Swept (ws : List ℕ) (c : Counts) (x : List ℕ) (n : ℕ) (xs : List ℕ) : Type 0 where
  pub long : c.nodes + c.graphs ≤ length xs
  pub nodes : (g k : ℕ) → g < n → k < size ws g → get_or xs (first ws g + k) 0 ≡ node_value ws c good x g k
  pub graphs : (g : ℕ) → g < n → get_or xs (c.nodes + g) 0 ≡ value ws c good x g

-- beside those, the nodes of graph n from local node k on
pub record Partly (ws : List ℕ) (c : Counts) (x : List ℕ) (n k : ℕ) (xs : List ℕ) : Type 0 where
  pub done : Swept ws c x n xs
  pub later : (i : ℕ) → k ≤ i → i < size ws n → get_or xs (first ws n + i) 0 ≡ node_value ws c good x n i
