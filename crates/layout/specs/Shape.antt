-- What the words of an accepted card are, as plain facts. The layers above use these records and never open the check. Assumes nothing.
use Rattle.std.specs.Prelude.{ℕ, suc, ◌+◌, ◌*◌, ◌<◌, ◌≤◌, ◌≡◌, List, true, false, length}
use Rattle.lists.specs.Counting.{count}
use Rattle.answers.specs.Limits.{max_graphs, max_nodes}
use Rattle.answers.specs.declared.Counts.{Counts}
use Rattle.layout.specs.Layout.{first, is_input, observable, size, reads, exits}

-- Of one graph: its nodes read lower graphs, and exits go to later nodes. An exit e of 2 or more is local node e - 2.
abbrev pub ReadsLower : List ℕ → ℕ → Type 0
ReadsLower ws g = (k : ℕ) → k < size ws g → reads ws g k < g

abbrev pub ExitsLater : List ℕ → ℕ → Type 0
ExitsLater ws g = (k d l : ℕ) → k < size ws g → exits ws g k d ≡ suc (suc l) → (k < l) × (l < size ws g)

-- What is known of the graphs that c counts, while a card is read and after.
pub record Shape (ws : List ℕ) (c : Counts) : Type 0 where
  pub fits : c.graphs + 2 * c.nodes ≤ length ws
  pub few-graphs : c.graphs ≤ max_graphs
  pub few-nodes : c.nodes ≤ max_nodes
  pub all-faults : c.faults ≡ 2 * c.nodes + 2 * c.graphs
  pub nodes-in : first ws c.graphs ≡ c.nodes
  pub inputs_in : c.inputs ≤ c.graphs
  pub input : (g : ℕ) → g < c.inputs → (is_input ws g ≡ true) × (size ws g ≡ 0)
  pub output : (g : ℕ) → g < c.graphs → c.inputs ≤ g → (is_input ws g ≡ false) × (0 < size ws g)
  pub seen : c.observable ≡ count (observable ws) c.graphs
  pub reads-lower : (g : ℕ) → g < c.graphs → ReadsLower ws g
  pub exits-later : (g : ℕ) → g < c.graphs → ExitsLater ws g

-- What an accepting check tells of the whole card.
pub record Accepts (ws : List ℕ) (c : Counts) : Type 0 where
  pub shape : Shape ws c
  pub long : length ws ≡ c.graphs + 2 * c.nodes
  pub some-observable : 0 < c.observable
  pub some-input : 0 < c.inputs
