-- The calls that work a card out afresh: document 01, 'Calls', and document 02, 'Several faults at once'. Assumes nothing.
use Rattle.std.specs.Prelude.{ℕ, List, [], ◌∷◌, ltb}
use Rattle.lists.specs.Tables.{tab}
use Rattle.answers.specs.declared.Counts.{Counts}
use Rattle.answers.specs.declared.Rule.TheVariants.{BufferTooShort}
use Rattle.answers.specs.Tests.{Test, test}
use Rattle.value.specs.Settings.{Setting, good, faulty}
use Rattle.value.specs.Values.{value}
use Rattle.faultlist.specs.Faults.{fault_tests}
use Rattle.answers.specs.Calls.{Lent, Outcome, Work, work, outcome}
use Rattle.opening.specs.Opened.{opened_vector}

-- a call with its own tests, under a setting: a word for each graph, its value
abbrev pub values_work : (Counts → List Test) → Setting → List ℕ → List ℕ → Counts → Work
values_work own s ws x c = work (own c) 0 (tab (value ws c s x) c.graphs)

abbrev pub values_outcome : (Counts → List Test) → Setting → Lent → Lent → Outcome
values_outcome own s card v = outcome (opened_vector card v) (values_work own s card.words v.words)

-- GOOD VALUES: no fault is in, and a buffer of `room` words has to be long enough
unfoldable pub good_tests : ℕ → Counts → List Test
good_tests room c = test (ltb room c.graphs) BufferTooShort 0 ∷ []

abbrev pub good_outcome : Lent → Lent → ℕ → Outcome
good_outcome card v room = values_outcome (good_tests room) good card v

-- VALUES WITH THE FAULTS fs, all holding together
abbrev pub fault_outcome : Lent → Lent → Lent → ℕ → Outcome
fault_outcome card v fs room = values_outcome (fault_tests fs.extra fs.words room) (faulty fs.words) card v
