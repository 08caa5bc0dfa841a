-- How the words of one graph come into the buffer that tells what is caught. No contract of a call cites it. Assumes nothing.
use Rattle.std.specs.Prelude.{ℕ, ◌+◌, ◌<◌, ◌≤◌, ◌≡◌, List, length, get_or}
use Rattle.answers.specs.declared.Counts.{Counts}
use Rattle.layout.specs.Layout.{first, size}
use Rattle.catches.specs.Caught.{caught_at}

-- the words from a up to b become 2, and the others stay
pub record Cleared (a b : ℕ) (xs ys : List ℕ) : Type 0 where
  pub long : length ys ≡ length xs
  pub inside : (j : ℕ) → a ≤ j → j < b → get_or ys j 0 ≡ 2
  pub outside : (j : ℕ) → (a ≤ j → j < b → ⊥) → get_or ys j 0 ≡ get_or xs j 0

-- of the nodes of graph g those below local node k have what is caught there, and the others 2; all other words stay
pub record Along (ws : List ℕ) (c : Counts) (x : List ℕ) (g k : ℕ) (xs ys : List ℕ) : Type 0 where
  pub long : length ys ≡ length xs
  pub below : (i : ℕ) → i < k → i < size ws g → get_or ys (first ws g + i) 0 ≡ caught_at ws c x (first ws g + i)
  pub onward : (i : ℕ) → k ≤ i → i < size ws g → get_or ys (first ws g + i) 0 ≡ 2
  pub outside : (j : ℕ) → ((i : ℕ) → i < size ws g → j ≡ first ws g + i → ⊥) → get_or ys j 0 ≡ get_or xs j 0
