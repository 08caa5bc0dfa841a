-- What passed tests tell of wires, and how a graph of a part stands in the joined card: the facts that the laws below go by. Assumes nothing.
use Prim.Native.Nat.{ℕ, ◌+◌, ◌<◌, ◌≤◌}
use mathlib.Core.Path.{◌≡◌}
use mathlib.Core.List.{List}
use mathlib.Core.Bool.{false}
use lib.ListN.{length, get_or}
use Rattle.answers.specs.declared.Counts.{Counts}
use Rattle.layout.specs.Layout.{first, is_input, observable, size, reads, exits, decides}
use Rattle.wiring.specs.Joined.{is_free, joined_counts}

-- each input of B has a wire word, which is free or names a graph of A, and the joined card is within the limits of a card
pub record Wired (A B : Counts) (wires : List ℕ) : Type 0 where
  pub long : length wires ≡ B.inputs
  pub named : (i : ℕ) → i < B.inputs → is_free wires i ≡ false → get_or wires i 0 < A.graphs
  pub few-graphs : (joined_counts A B wires).graphs ≤ 1024
  pub few-nodes : (joined_counts A B wires).nodes ≤ 4096

-- output graph g of the card ws is graph `number g` of the card js, with its nodes after `before` others: it reads the graphs of the new numbers, and all
-- else is as it was
pub record Stands (ws js : List ℕ) (number : ℕ → ℕ) (before g : ℕ) : Type 0 where
  pub output : is_input js (number g) ≡ false
  pub seen : observable js (number g) ≡ observable ws g
  pub many : size js (number g) ≡ size ws g
  pub start : first js (number g) ≡ before + first ws g
  pub read : (k : ℕ) → k < size ws g → reads js (number g) k ≡ number (reads ws g k)
  pub exit : (k d : ℕ) → k < size ws g → exits js (number g) k d ≡ exits ws g k d
  pub decide : (k r : ℕ) → k < size ws g → decides js (number g) k r ≡ decides ws g k r
