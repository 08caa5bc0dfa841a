-- The marking rules of document 01. No contract of a public call cites them. Assumes nothing.
use Rattle.std.specs.Prelude.{ℕ, zero, suc, ◌-◌, List, Bool, false, ◌&&◌, ◌||◌, eqb}
use Rattle.std.proofs.Math.Bool.{not}
use Rattle.lists.specs.Counting.{choose, some_below}
use Rattle.lists.specs.Tables.{Net, at, grow}
use Rattle.answers.specs.declared.Counts.{Counts}
use Rattle.layout.specs.Layout.{size, reads, exits, decision}
use Rattle.value.specs.Settings.{good}
use Rattle.value.specs.Values.{follow, taken, graph, node_value}
use Rattle.detect.specs.Detects.{observed, good_value}

-- the test f at the node that exit e names
abbrev pub beyond : (ℕ → Bool) → ℕ → Bool
beyond f zero = false
beyond f (suc zero) = false
beyond f (suc (suc l)) = f l

-- the walk from local node k comes to j, where each local node i takes the exit t i
unfoldable pub meets : (ℕ → ℕ) → ℕ → ℕ → ℕ → Bool
meets t j zero k = false
meets t j (suc left) k = eqb k j || beyond (meets t j left) (t k)

module _ (ws : List ℕ) (c : Counts) (x : List ℕ) where
  -- rule 1: local node k of graph g is active
  unfoldable pub active : ℕ → ℕ → Bool
  unfolding meets
  active g k = meets (taken ws good (good_value ws c x) g) k (size ws g) 0

  -- rule 2: an active node of h reads a listed graph, w being the good values with the listed graphs' flipped
  unfoldable pub touched : (ℕ → ℕ) → ℕ → Bool
  unfolding active some_below
  touched w h = some_below (λ k. active h k && not (eqb (w (reads ws h k)) (good_value ws c x (reads ws h k)))) (size ws h)

  abbrev pub rewalk : ℕ → Net
  rewalk g w h = choose (eqb h g) (1 - good_value ws c x g) (choose (touched w h) (graph ws c.nodes good x w h) (good_value ws c x h))

  unfoldable pub flipped : ℕ → ℕ → ℕ
  unfolding touched grow
  flipped g h = at (grow (rewalk g) c.graphs) h

  abbrev pub listed : ℕ → ℕ → Bool
  listed g h = not (eqb (flipped g h) (good_value ws c x h))

  -- rule 3: graph g is critical
  unfoldable pub critical : ℕ → Bool
  unfolding flipped observed
  critical g = observed ws c.graphs (good_value ws c x) (flipped g)

  -- the good value of the exit at decision d of local node k of graph g
  unfoldable pub exit_value : ℕ → ℕ → ℕ → ℕ
  unfolding node_value
  exit_value g k d = follow (node_value ws c good x g) (exits ws g k d)

  -- rule 4: local node k of graph g is critical
  unfoldable pub critical_node : ℕ → ℕ → Bool
  unfolding active critical exit_value
  critical_node g k = active g k && (critical g && not (eqb (exit_value g k 0) (exit_value g k 1)))

  -- rule 5, for local node k of graph g forced to decision d, and for graph g held at d
  abbrev pub marks_node : ℕ → ℕ → ℕ → Bool
  marks_node g k d = critical_node g k && not (eqb d (decision ws (good_value ws c x) g k))

  abbrev pub marks_graph : ℕ → ℕ → Bool
  marks_graph g d = critical g && not (eqb d (good_value ws c x g))
