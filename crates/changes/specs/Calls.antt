-- The calls on one vector that tell what changes: document 01, 'Calls'. By faults and values alone. Assumes nothing.
use Rattle.std.specs.Prelude.{ℕ, List, [], ◌∷◌, ltb, leb}
use Rattle.lists.specs.Counting.{choose, count}
use Rattle.lists.specs.Tables.{tab, chosen}
use Rattle.answers.specs.declared.Counts.{Counts}
use Rattle.answers.specs.declared.Rule.TheVariants.{NumberTooHigh, BufferTooShort}
use Rattle.answers.specs.Tests.{Test, test}
use Rattle.detect.specs.Detects.{changes, critical_at}
use Rattle.answers.specs.Calls.{Lent, Outcome, Work, work, outcome}
use Rattle.opening.specs.Opened.{opened_vector}

-- a change list's own tests: the graph's number, and a buffer with a word for each graph
unfoldable pub change_tests : ℕ → ℕ → Counts → List Test
change_tests g room c =
    test (leb c.graphs g) NumberTooHigh 0
    ∷ test (ltb room c.graphs) BufferTooShort 0
    ∷ []

-- THE CHANGE LIST of graph g: its length, and the numbers, rising, of the graphs that differ when g alone is held at the opposite of its good value
abbrev pub change_work : ℕ → ℕ → List ℕ → List ℕ → Counts → Work
change_work g room ws x c =
    work (change_tests g room c) (count (changes ws c x g) c.graphs) (chosen (changes ws c x g) c.graphs)

abbrev pub change_outcome : Lent → Lent → ℕ → ℕ → Outcome
change_outcome card v g room = outcome (opened_vector card v) (change_work g room card.words v.words)

-- the own tests of critical nodes: a buffer with a word for each node
unfoldable pub critical_tests : ℕ → Counts → List Test
critical_tests room c = test (ltb room c.nodes) BufferTooShort 0 ∷ []

-- CRITICAL NODES: one word for each node, 1 where forcing its other exit alters an observable graph, else 0
abbrev pub critical_work : ℕ → List ℕ → List ℕ → Counts → Work
critical_work room ws x c = work (critical_tests room c) 0 (tab (λ j. choose (critical_at ws c x j) 1 0) c.nodes)

abbrev pub critical_outcome : Lent → Lent → ℕ → Outcome
critical_outcome card v room = outcome (opened_vector card v) (critical_work room card.words v.words)
