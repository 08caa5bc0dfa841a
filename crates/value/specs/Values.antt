-- The values of a card's graphs under a vector, with a setting of its sites: 003, section 1, and document 01, 'Values and faults'. For an accepted card.
-- Assumes nothing.
use Rattle.std.specs.Prelude.{ℕ, zero, suc, ◌+◌, List}
use Rattle.lists.specs.Counting.{choose}
use Rattle.lists.specs.Tables.{at, Net, grow}
use Rattle.answers.specs.declared.Counts.{Counts}
use Rattle.layout.specs.Layout.{first, is_input, size, exits, decision}
use Rattle.testvectors.specs.Vectors.{bit}
use Rattle.value.specs.Settings.{Setting}
use Rattle.value.specs.declared.Walked.{Walked}

-- the value of exit e: a constant, or that of a local node
abbrev pub follow : (ℕ → ℕ) → ℕ → ℕ
follow node zero = 0
follow node (suc zero) = 1
follow node (suc (suc l)) = node l

-- the value of local node k where each local node i takes the exit t i; the number bounds the nodes from k on
unfoldable pub walk : (ℕ → ℕ) → ℕ → ℕ → ℕ
walk t zero k = 0
walk t (suc left) k = follow (walk t left) (t k)

-- how many nodes a walk meets beyond exit e: at a constant none, else as many as from the local node
abbrev pub met_beyond : (ℕ → ℕ) → ℕ → ℕ
met_beyond met zero = 0
met_beyond met (suc zero) = 0
met_beyond met (suc (suc l)) = met l

-- what a walk gives from a node that takes exit e: the exit's value, and one decision more than beyond it
abbrev pub through_exit : (ℕ → Walked) → ℕ → Walked
through_exit node e = record { value = follow (λ l. (node l).value) e; decisions = 1 + met_beyond (λ l. (node l).decisions) e }

-- THE WALK from local node k to a constant, where each local node i takes the exit t i: the value, which is `walk`'s, and the number of decision nodes on
-- the way, which is the active path. The second number bounds the nodes from k on.
unfoldable pub walked : (ℕ → ℕ) → ℕ → ℕ → Walked
walked t zero k = record { value = 0; decisions = 0 }
walked t (suc left) k = through_exit (walked t left) (t k)

module _ (ws : List ℕ) where
  -- the exit that local node k of graph g takes, where the graphs have the values v
  abbrev pub taken : Setting → (ℕ → ℕ) → ℕ → ℕ → ℕ
  taken s v g k = exits ws g k (s (first ws g + k) (decision ws v g k))

  -- the value of graph g where the graphs have the values v, n being the number of nodes: an input's is its vector bit, an output's that of its entrance
  unfoldable pub graph : ℕ → Setting → List ℕ → Net
  unfolding walk
  graph n s x v g = s (n + g) (choose (is_input ws g) (bit x g) (walk (taken s v g) (size ws g) 0))

  -- the values of graphs 0 to g - 1, each from those before it
  unfoldable pub values : ℕ → Setting → List ℕ → ℕ → List ℕ
  unfolding graph grow
  values n s x g = grow (graph n s x) g

  -- THE VALUE of graph g of a card with the counts c, and that of its local node k
  unfoldable pub value : Counts → Setting → List ℕ → ℕ → ℕ
  unfolding values
  value c s x g = at (values c.nodes s x c.graphs) g

  unfoldable pub node_value : Counts → Setting → List ℕ → ℕ → ℕ → ℕ
  unfolding value
  node_value c s x g k = walk (taken s (value c s x) g) (size ws g) k

  -- THE LENGTH of graph g: how many decisions its value takes, from the entrance on; of an input 0
  unfoldable pub path_length : Counts → Setting → List ℕ → ℕ → ℕ
  unfolding value walked
  path_length c s x g = choose (is_input ws g) 0 (walked (taken s (value c s x) g) (size ws g) 0).decisions
