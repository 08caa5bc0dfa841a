-- The table of an accepted card's first nodes, a node's decision by a buffer of values, and what a walk through a graph's nodes asks. No contract of a
-- call cites these. Assumes nothing.
use Rattle.std.specs.Prelude.{ℕ, ◌+◌, ◌*◌, ◌<◌, ◌≤◌, ◌≡◌, List, length, get_or}
use Rattle.word32.specs.Fields.{read_graph}
use Rattle.answers.specs.declared.Counts.{Counts}
use Rattle.layout.specs.Layout.{first, size, decided}
use Rattle.layout.specs.Shape.{ReadsLower, ExitsLater, Shape}

-- d is the decision at the read that stands at p, where the graphs' values stand in xs from `base` on, if the one read is 0 or 1
abbrev pub Decided : List ℕ → ℕ → List ℕ → ℕ → ℕ → Type 0
Decided ws p xs base d =
    let v = get_or xs (base + read_graph (get_or ws p 0)) 0 in
    v < 2 → d ≡ decided (get_or ws p 0) v

-- the card is of the form, and the table has its first nodes
pub record Ready (ws : List ℕ) (c : Counts) (tables : List ℕ) : Type 0 where
  pub shape : Shape ws c
  pub long : c.graphs < length tables
  pub table : (g : ℕ) → g ≤ c.graphs → get_or tables g 0 ≡ first ws g

-- what a walk through the nodes of graph g asks: where the table says that they stand, inside the words, reading lower graphs, with exits to later nodes
pub record Walkable (ws tables : List ℕ) (g : ℕ) : Type 0 where
  pub long : g + 1 < length tables
  pub here : get_or tables g 0 ≡ first ws g
  pub next : get_or tables (g + 1) 0 ≡ first ws g + size ws g
  pub fits : g + 2 * (first ws g + size ws g) < length ws
  pub lower : ReadsLower ws g
  pub later : ExitsLater ws g
