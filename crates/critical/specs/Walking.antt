-- The change walk that stops: what is so of its buffer on the way, and at the end. The buffer has the graphs' values, then the walk's list, and then the
-- set of the graphs that are due. No contract of a call cites it. Assumes nothing.
use Rattle.std.specs.Prelude.{ℕ, ◌+◌, ◌-◌, ◌<◌, ◌≤◌, ◌≡◌, List, Bool, true, false, not, ◌&&◌, length, get_or, eqb}
use Rattle.lists.specs.Counting.{choose, count}
use Rattle.bitset.specs.Members.{member}
use Rattle.answers.specs.Limits.{max_graphs}
use Rattle.answers.specs.declared.Counts.{Counts}
use Rattle.layout.specs.Layout.{size, reads, observable}
use Rattle.cardtables.specs.Tables.{readers_of}
use Rattle.value.specs.Settings.{good}
use Rattle.value.specs.Values.{value}
use Rattle.rules.specs.Rules.{flipped, listed}
use Rattle.rules.specs.Stopped.{stopped}
use Rattle.change.specs.Flips.{Between}

abbrev pub list_from : ℕ
list_from = max_graphs

abbrev pub due_from : ℕ
due_from = list_from + max_graphs

abbrev pub walk_length : ℕ
walk_length = due_from + 32

-- n numbers are listed, at least one, each below G
pub record Entries (G n : ℕ) (xs : List ℕ) : Type 0 where
  pub some : 0 < n
  pub inside : (e : ℕ) → e < n → get_or xs (list_from + e) 0 < G

-- none of the n listed graphs is observable
pub record Hidden (ws : List ℕ) (n : ℕ) (xs : List ℕ) : Type 0 where
  pub hidden : (e : ℕ) → e < n → observable ws (get_or xs (list_from + e) 0) ≡ false

-- xs becomes ys: graph h has the value v, is number n of the list, and its readers are due
pub record Lists (c : Counts) (tables : List ℕ) (h v n : ℕ) (xs ys : List ℕ) : Type 0 where
  pub here : get_or ys h 0 ≡ v
  pub off : (i : ℕ) → i < max_graphs → (i ≡ h → ⊥) → get_or ys i 0 ≡ get_or xs i 0
  pub entry : get_or ys (list_from + n) 0 ≡ h
  pub entries : (e : ℕ) → e < max_graphs → (e ≡ n → ⊥) → get_or ys (list_from + e) 0 ≡ get_or xs (list_from + e) 0
  pub kept : (j : ℕ) → member xs due_from j ≤ member ys due_from j
  pub due : (j : ℕ) → h ≤ j → j < c.graphs → member tables (readers_of h) j ≤ member ys due_from j

-- THE STOPPED WALK of graph g has ended: the graphs of its stopped list are flipped and no others, and the n of them are listed, rising: the one that has
-- k of them below it at place k.
pub record Stops (ws : List ℕ) (c : Counts) (x : List ℕ) (g n : ℕ) (xs : List ℕ) : Type 0 where
  pub flips : (h : ℕ) → h < c.graphs → get_or xs h 0 ≡ choose (stopped ws c x g h) (1 - value ws c good x h) (value ws c good x h)
  pub number : n ≡ count (stopped ws c x g) c.graphs
  pub entry : (h : ℕ) → h < c.graphs → stopped ws c x g h ≡ true → get_or xs (list_from + count (stopped ws c x g) h) 0 ≡ h

-- the same of the change list below h
pub record Upto (ws : List ℕ) (c : Counts) (x : List ℕ) (g h n : ℕ) (xs : List ℕ) : Type 0 where
  pub between : Between (flipped ws c x g) (value ws c good x) c.graphs h xs
  pub number : n ≡ count (listed ws c x g) h
  pub entry : (i : ℕ) → i < h → listed ws c x g i ≡ true → get_or xs (list_from + count (listed ws c x g) i) 0 ≡ i

-- The walk of g has come to h: no observable graph below h is listed, and a graph from h on that reads a listed one below h is due.
pub record Walking (ws : List ℕ) (c : Counts) (x : List ℕ) (g h n : ℕ) (xs : List ℕ) : Type 0 where
  pub upto : Upto ws c x g h n xs
  pub above : g < h
  pub inside : h ≤ c.graphs
  pub silent : (i : ℕ) → i < h → observable ws i ≡ true → flipped ws c x g i ≡ value ws c good x i
  pub due : (j k : ℕ) → h ≤ j → j < c.graphs → k < size ws j → reads ws j k < h → member xs due_from j ≡ 0
      → flipped ws c x g (reads ws j k) ≡ value ws c good x (reads ws j k)

-- the walk ends with graph h, after which r graphs are listed and before which n were: it is listed, and observable
abbrev pub walk_ends : List ℕ → ℕ → ℕ → ℕ → Bool
walk_ends ws h n r = not (eqb n r) && observable ws h

-- what a step at h leaves
pub record Stepped (ws : List ℕ) (c : Counts) (x : List ℕ) (g h n r : ℕ) (xs : List ℕ) : Type 0 where
  pub seen : walk_ends ws h n r ≡ true → Stops ws c x g r xs
  pub goes : walk_ends ws h n r ≡ false → Walking ws c x g (h + 1) r xs

-- each of the first G words is v's, or is that of one of the numbers listed from place e on
pub record But (v : ℕ → ℕ) (G e n : ℕ) (xs : List ℕ) : Type 0 where
  pub long : G ≤ length xs
  pub word : (i : ℕ) → i < G → ((k : ℕ) → e ≤ k → k < n → get_or xs (list_from + k) 0 ≡ i → ⊥) → get_or xs i 0 ≡ v i
