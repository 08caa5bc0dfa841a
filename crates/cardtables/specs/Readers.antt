-- A graph that one node alone reads, as plain facts. No contract of a call cites this. Assumes nothing.
use Rattle.std.specs.Prelude.{ℕ, ◌<◌, ◌≡◌, List}
use Rattle.answers.specs.declared.Counts.{Counts}
use Rattle.layout.specs.Layout.{size, reads}

-- node k of graph h reads graph g, and no other node does
pub record OneReader (ws : List ℕ) (c : Counts) (g h k : ℕ) : Type 0 where
  pub graph : h < c.graphs
  pub node : k < size ws h
  pub read : reads ws h k ≡ g
  pub alone : (r j : ℕ) → r < c.graphs → j < size ws r → reads ws r j ≡ g → (r ≡ h) × (j ≡ k)
