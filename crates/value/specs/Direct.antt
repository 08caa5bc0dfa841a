-- A card with no inverted read, and its values by document 01's own words, which know of none: a node's decision is the value of the graph that it reads. No
-- contract of a call cites these: they say what document 02, 'Inverted reads', left as it was. Assumes nothing.
use Rattle.std.specs.Prelude.{ℕ, ◌+◌, ◌<◌, ◌≡◌, List, false}
use Rattle.lists.specs.Counting.{choose}
use Rattle.lists.specs.Tables.{at, Net, grow}
use Rattle.answers.specs.declared.Counts.{Counts}
use Rattle.layout.specs.Layout.{first, is_input, size, reads, exits, inverts}
use Rattle.testvectors.specs.Vectors.{bit}
use Rattle.value.specs.Settings.{Setting}
use Rattle.value.specs.Values.{walked, walk}

module _ (ws : List ℕ) where
  -- every read of the card is direct: its bit 16 is clear
  abbrev pub Direct : Counts → Type 0
  Direct c = (g k : ℕ) → g < c.graphs → k < size ws g → inverts ws g k ≡ false

  -- as `taken`, `graph` and `value`, with the value read for the decision
  abbrev pub direct_taken : Setting → (ℕ → ℕ) → ℕ → ℕ → ℕ
  direct_taken s v g k = exits ws g k (s (first ws g + k) (v (reads ws g k)))

  unfoldable pub direct_graph : ℕ → Setting → List ℕ → Net
  unfolding walk
  direct_graph n s x v g = s (n + g) (choose (is_input ws g) (bit x g) (walk (direct_taken s v g) (size ws g) 0))

  unfoldable pub direct_value : Counts → Setting → List ℕ → ℕ → ℕ
  unfolding direct_graph grow
  direct_value c s x g = at (grow (direct_graph c.nodes s x) c.graphs) g

  -- and as `path_length`
  unfoldable pub direct_length : Counts → Setting → List ℕ → ℕ → ℕ
  unfolding direct_value walked
  direct_length c s x g = choose (is_input ws g) 0 (walked (direct_taken s (direct_value c s x) g) (size ws g) 0).decisions
