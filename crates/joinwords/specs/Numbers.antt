-- How low numbers must be for the renumbering functions, so that sums fit a word; and what these write. No contract of a call cites it. Assumes nothing.
use Rattle.std.specs.Prelude.{ℕ, ◌+◌, ◌≤◌, ◌<◌, ◌≡◌, Bool, cond, not, ◌&&◌, eqb, leb, Option, None, Some, List, ◌++◌, map, false, length, get_or, drop}
use Rattle.lists.specs.Counting.{choose}
use Rattle.lists.specs.Tables.{at, tab, always}
use Rattle.answers.specs.Limits.{max_graphs, max_nodes}
use Rattle.answers.specs.declared.Counts.{Counts}
use Rattle.wiring.specs.Joined.{is_free, free_below, renumbered, moved}

-- the graph that a wire word names, or none where it leaves its input free; and whether it names none of so many graphs
abbrev pub wire_of : ℕ → Option ℕ
wire_of w = cond (eqb w 0xFFFFFFFF) None (Some w)

abbrev pub names_none : ℕ → ℕ → Bool
names_none G w = not (eqb w 0xFFFFFFFF) && leb G w

-- the counts of two accepted cards are small
pub record WithinLimits (A B : Counts) : Type 0 where
  pub graphs-a : A.graphs ≤ max_graphs
  pub nodes-a : A.nodes ≤ max_nodes
  pub inputs-b : B.inputs ≤ B.graphs
  pub graphs-b : B.graphs ≤ max_graphs
  pub nodes-b : B.nodes ≤ max_nodes

-- the new numbers of a card's inputs, and that of its first output, are at most `most`
pub record Numbered (most : ℕ) (inputs : List ℕ) (start : ℕ) : Type 0 where
  pub few : start ≤ most
  pub low : (i : ℕ) → i < length inputs → get_or inputs i 0 ≤ most

-- at most 1,024 wire words, each free or at most 1,024
pub record LowWires (wires : List ℕ) : Type 0 where
  pub few : length wires ≤ max_graphs
  pub low : (i : ℕ) → i < length wires → is_free wires i ≡ false → get_or wires i 0 ≤ max_graphs

-- the new number of input i of B, where A's inputs have those of a list and A's outputs follow from `start` on
abbrev pub wired_input : List ℕ → List ℕ → ℕ → ℕ → ℕ
wired_input wires inputs start i =
    choose (is_free wires i) (length inputs + free_below wires i) (renumbered (length inputs) (at inputs) start (get_or wires i 0))

-- the words after the inputs of a card, under new numbers; and those of a joined card, whose parts have these numbers
abbrev pub output_words : List ℕ → List ℕ → ℕ → List ℕ
output_words card inputs start = map (moved (renumbered (length inputs) (at inputs) start)) (drop (length inputs) card)

abbrev pub parts_words : List ℕ → List ℕ → List ℕ → List ℕ → ℕ → ℕ → List ℕ
parts_words a b inputs_a inputs_b start_a start_b = (tab (always 0) start_a ++ output_words a inputs_a start_a) ++ output_words b inputs_b start_b
