-- A card that is worked out under a vector, with faults in. No contract of a call cites these. Assumes nothing.
use Rattle.std.specs.Prelude.{ℕ, List}
use Rattle.answers.specs.declared.Counts.{Counts}
use Rattle.value.specs.Settings.{faulty}
use Rattle.value.specs.Values.{value, node_value}

-- a card with its counts, the faults that are in it, and a vector
pub record Run : Type 0 where
  pub card : List ℕ
  pub counts : Counts
  pub faults : List ℕ
  pub vector : List ℕ

abbrev pub run : List ℕ → Counts → List ℕ → List ℕ → Run
run ws c fs x = record { card = ws; counts = c; faults = fs; vector = x }

-- the values of its graphs and of their local nodes
abbrev pub graph_of : Run → ℕ → ℕ
graph_of t g = value t.card t.counts (faulty t.faults) t.vector g

abbrev pub node_of : Run → ℕ → ℕ → ℕ
node_of t g k = node_value t.card t.counts (faulty t.faults) t.vector g k
