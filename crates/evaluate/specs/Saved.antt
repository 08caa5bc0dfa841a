-- What the evaluators keep. No contract of a call cites these. Assumes nothing.
use Rattle.std.specs.Prelude.{ℕ, ◌+◌, ◌-◌, ◌<◌, ◌≤◌, ◌≡◌, List, length, get_or}
use Rattle.layout.specs.Layout.{first, size, reads}
use Rattle.value.specs.Settings.{faulty}
use Rattle.value.specs.Values.{taken}
use Rattle.value.specs.Run.{Run, graph_of, node_of}

-- the site of graph g, and that of its local node k
abbrev pub graph_site : Run → ℕ → ℕ
graph_site t g = t.counts.nodes + g

abbrev pub node_site : Run → ℕ → ℕ → ℕ
node_site t g k = first t.card g + k

-- the exit that this node takes
abbrev pub exit_taken : Run → ℕ → ℕ → ℕ
exit_taken t g k = taken t.card (faulty t.faults) (graph_of t) g k

-- a site's value is saved where its word is below 2
abbrev pub Known : List ℕ → ℕ → Type 0
Known xs p = get_or xs p 0 < 2

-- no saved value was lost where one buffer became another
abbrev pub Kept : List ℕ → List ℕ → Type 0
Kept before xs = (p : ℕ) → Known before p → Known xs p

-- a node's word is its value, and the values by which it was found are saved too: that of the graph that it reads, and that of the node to which it goes
pub record NodeStands (t : Run) (xs : List ℕ) (g k : ℕ) : Type 0 where
  pub value : get_or xs (node_site t g k) 0 ≡ node_of t g k
  pub read : Known xs (graph_site t (reads t.card g k))
  pub onward : 2 ≤ exit_taken t g k → Known xs (node_site t g (exit_taken t g k - 2))

-- the same of a graph: for an output, its entrance's value is saved too
pub record GraphStands (t : Run) (xs : List ℕ) (g : ℕ) : Type 0 where
  pub value : get_or xs (graph_site t g) 0 ≡ graph_of t g
  pub entrance : t.counts.inputs ≤ g → Known xs (node_site t g 0)

-- the buffer has a word for each site, and each saved value stands so
pub record Saved (t : Run) (xs : List ℕ) : Type 0 where
  pub long : t.counts.nodes + t.counts.graphs ≤ length xs
  pub nodes : (g k : ℕ) → g < t.counts.graphs → k < size t.card g → Known xs (node_site t g k) → NodeStands t xs g k
  pub graphs : (g : ℕ) → g < t.counts.graphs → Known xs (graph_site t g) → GraphStands t xs g

-- what an evaluator hands back: the value of a node, which now stands at its site; with it all that was found, and all that was saved before
pub record FoundNode (t : Run) (g k r : ℕ) (before xs : List ℕ) : Type 0 where
  pub right : r ≡ node_of t g k
  pub there : get_or xs (node_site t g k) 0 ≡ node_of t g k
  pub kept : Kept before xs
  pub saved : Saved t xs

-- the same of a graph
pub record FoundGraph (t : Run) (g r : ℕ) (before xs : List ℕ) : Type 0 where
  pub right : r ≡ graph_of t g
  pub there : get_or xs (graph_site t g) 0 ≡ graph_of t g
  pub kept : Kept before xs
  pub saved : Saved t xs
