-- The exit of a node that goes with the graph that it reads: document 02, 'A lead counts a single time' and 'Inverted reads'. By the card's words alone. No
-- contract of a call cites these. Assumes nothing.
use Rattle.std.specs.Prelude.{ℕ, ◌-◌, List, Bool}
use Rattle.lists.specs.Counting.{choose}
use Rattle.answers.specs.declared.Counts.{Counts}
use Rattle.layout.specs.Layout.{first, stands_in, inverts}

module _ (ws : List ℕ) (c : Counts) where
  -- the read of node j is inverted
  unfoldable pub inverts_at : ℕ → Bool
  unfolding inverts stands_in
  inverts_at j = inverts ws (stands_in ws j c.graphs) (j - first ws (stands_in ws j c.graphs))

  -- THE PAIRING, of equivalent faults: a lead stuck at d goes with its reader, node j, stuck at this exit: the d-exit, or at an inverted read the other
  unfoldable pub paired_exit : ℕ → ℕ → ℕ
  unfolding inverts_at
  paired_exit j d = choose (inverts_at j) (1 - d) d
