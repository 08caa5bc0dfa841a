-- The check of a card: document 01, 'Calls'. By words it answers the counts; in bytes they stand in a buffer. Assumes nothing.
use Rattle.std.specs.Prelude.{ℕ, [], ◌∷◌, ltb}
use Rattle.answers.specs.declared.Rule.TheVariants.{BufferTooShort}
use Rattle.answers.specs.declared.Counts.{Counts}
use Rattle.answers.specs.Answers.{values_of}
use Rattle.answers.specs.Tests.{test}
use Rattle.answers.specs.Calls.{Lent, Outcome, Work, work, outcome}
use Rattle.form.specs.Check.{lent_check}

-- CHECK: the numbers of inputs, graphs, nodes, observable graphs and faults, in a buffer of at least five words
abbrev pub check_work : ℕ → Counts → Work
check_work room c = work (test (ltb room 5) BufferTooShort 0 ∷ []) 0 (values_of c)

abbrev pub check_outcome : Lent → ℕ → Outcome
check_outcome card room = outcome (lent_check card) (check_work room)
