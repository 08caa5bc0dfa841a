-- Where an accepted card's graphs and nodes stand in its words. Assumes nothing.
use Prim.Native.Nat.{ℕ, zero, suc, ◌+◌, ◌-◌, ◌*◌}
use Rattle.std.specs.Prelude.{List, Bool, get_or, ltb}
use Rattle.std.proofs.Math.Dec.{eqb}
use Rattle.lists.specs.Counting.{choose}
use Rattle.word32.specs.Fields.{kind, node_count, read_graph, read_inverted, exit_of}

-- the decision of a node whose read is the word w, where the graph that it reads has the value r: that value, or at an inverted read one minus it
unfoldable pub decided : ℕ → ℕ → ℕ
decided w r = choose (eqb (read_inverted w) 1) (1 - r) r

module _ (ws : List ℕ) where
  -- the number of the first node of graph g, before whose header stand g headers and two words a node
  abbrev pub passed : ℕ → ℕ → ℕ
  passed g n = n + node_count (get_or ws (g + 2 * n) 0)

  unfoldable pub first : ℕ → ℕ
  first zero = 0
  first (suc g) = passed g (first g)

  abbrev pub header : ℕ → ℕ
  header g = get_or ws (g + 2 * first g) 0

  -- of graph g: that it is an input, that it is observable, its number of nodes
  unfoldable pub is_input : ℕ → Bool
  unfolding first
  is_input g = eqb (kind (header g)) 0

  unfoldable pub observable : ℕ → Bool
  unfolding first
  observable g = eqb (kind (header g)) 2

  unfoldable pub size : ℕ → ℕ
  unfolding first
  size g = node_count (header g)

  -- of its local node k: the graph read, and the exit at decision d
  unfoldable pub reads : ℕ → ℕ → ℕ
  unfolding first
  reads g k = read_graph (get_or ws (g + 1 + 2 * (first g + k)) 0)

  unfoldable pub exits : ℕ → ℕ → ℕ → ℕ
  unfolding first
  exits g k d = exit_of (get_or ws (g + 2 + 2 * (first g + k)) 0) d

  -- that its read is inverted
  unfoldable pub inverts : ℕ → ℕ → Bool
  unfolding first
  inverts g k = eqb (read_inverted (get_or ws (g + 1 + 2 * (first g + k)) 0)) 1

  -- its decision where the graph that it reads has the value r, and where the graphs have the values v
  unfoldable pub decides : ℕ → ℕ → ℕ → ℕ
  unfolding first decided
  decides g k r = decided (get_or ws (g + 1 + 2 * (first g + k)) 0) r

  abbrev pub decision : (ℕ → ℕ) → ℕ → ℕ → ℕ
  decision v g k = decides g k (v (reads g k))

  -- the graph below g in which node j stands
  unfoldable pub stands_in : ℕ → ℕ → ℕ
  unfolding first
  stands_in j zero = 0
  stands_in j (suc g) = choose (ltb j (first g)) (stands_in j g) g
