-- The tables of an accepted card, made once: which graphs read a graph, its only reader, and what counts in the grade. No contract of a call cites these.
-- Assumes nothing.
use Rattle.std.specs.Prelude.{ℕ, zero, suc, ◌+◌, ◌-◌, ◌*◌, ◌<◌, ◌≤◌, ◌≡◌, List, Bool, cond, ◌&&◌, Option, Some, None, length, get_or, ltb, eqb}
use Rattle.lists.specs.Counting.{choose}
use Rattle.bitset.specs.Members.{member}
use Rattle.answers.specs.Limits.{max_graphs, max_nodes, max_sites}
use Rattle.answers.specs.declared.Counts.{Counts}
use Rattle.layout.specs.Layout.{first, size, reads}
use Rattle.layout.specs.Tables.{Ready}
use Rattle.cardtables.specs.Stems.{read_by, site_in_grade}

-- where the words of the only readers begin, after the first nodes; the sets of readers, of 32 words each; the words of the sites; and their end
abbrev pub sole_from : ℕ
sole_from = max_graphs + 32

abbrev pub readers_from : ℕ
readers_from = sole_from + max_graphs

abbrev pub grade_from : ℕ
grade_from = readers_from + 32 * max_graphs

abbrev pub tables_length : ℕ
tables_length = grade_from + max_sites

-- where the word that tells the only reader of graph r stands in the tables, where the set of its readers does, and where the word of site p does
abbrev pub sole_of : ℕ → ℕ
sole_of r = sole_from + r

abbrev pub readers_of : ℕ → ℕ
readers_of r = readers_from + 32 * r

abbrev pub grade_of : ℕ → ℕ
grade_of p = grade_from + p

-- what the word of a graph is that several nodes read: over every node's number plus 1
abbrev pub several_readers : ℕ
several_readers = max_nodes + 1

-- Which of the first m numbers alone passes: its number plus 1, or 0 where none passes, or `several_readers` where several do; and whether such a word
-- tells a number.
unfoldable pub only_of : (ℕ → Bool) → ℕ → ℕ
only_of p zero = 0
only_of p (suc m) = choose (p m) (choose (eqb (only_of p m) 0) (m + 1) several_readers) (only_of p m)

abbrev pub is_only : ℕ → Bool
is_only w = ltb 0 w && ltb w several_readers

-- the number that such a word tells, or none
abbrev pub only_in : ℕ → Option ℕ
only_in w = cond (is_only w) (Some (w - 1)) None

-- of the nodes of graph h: node j reads graph q j
abbrev pub ReadIn : List ℕ → (ℕ → ℕ) → ℕ → Type 0
ReadIn ws q h = (k : ℕ) → k < size ws h → q (first ws h + k) ≡ reads ws h k

-- The tables have the first m nodes, where node j reads graph q j. The graph of each is in the set of the graph that it reads; what else is in a set is
-- left open. The word of each graph tells its only reader among them.
pub record Noted (ws : List ℕ) (q : ℕ → ℕ) (m : ℕ) (t : List ℕ) : Type 0 where
  pub few : (h k : ℕ) → k < size ws h → first ws h + k < m → (h < max_graphs) × (reads ws h k < max_graphs)
  pub readers : (h k : ℕ) → k < size ws h → first ws h + k < m → 0 < member t (readers_of (reads ws h k)) h
  pub sole : (r : ℕ) → r < max_graphs → get_or t (sole_of r) 0 ≡ only_of (λ j. eqb (q j) r) m

-- all tables, one after the other: for each graph its first node, its only reader, and a set that has its readers; for each site whether it counts in
-- the grade
pub record Tabled (ws : List ℕ) (c : Counts) (t : List ℕ) : Type 0 where
  pub ready : Ready ws c t
  pub long : tables_length ≤ length t
  pub noted : Noted ws (read_by ws c) c.nodes t
  pub sites : (p : ℕ) → p < c.nodes + c.graphs → get_or t (grade_of p) 0 ≡ choose (site_in_grade ws c p) 1 0
