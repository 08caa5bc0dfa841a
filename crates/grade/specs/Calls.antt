-- The grading: document 01, 'Calls', with both columns in one call (document 02). By faults, values, and which faults count. Assumes nothing.
use Rattle.std.specs.Prelude.{ℕ, List, [], ◌∷◌, ltb}
use Rattle.lists.specs.Tables.{tab}
use Rattle.answers.specs.declared.Counts.{Counts}
use Rattle.answers.specs.declared.Rule.TheVariants.{BufferTooShort}
use Rattle.answers.specs.Tests.{Test, test}
use Rattle.answers.specs.Calls.{Lent, Outcome, Work, outcome}
use Rattle.opening.specs.Opened.{opened_list}
use Rattle.detect.specs.Grading.{tally, mark, marked}

-- its own tests, for buffers of so many words: the marks want a word for each fault, and then the tallies do
unfoldable pub grade_tests : ℕ → ℕ → Counts → List Test
grade_tests marks tallies c = test (ltb marks c.faults) BufferTooShort 0 ∷ test (ltb tallies c.faults) BufferTooShort 1 ∷ []

-- THE GRADING: the marked count; the marks, one word for each fault, C0000000 if no vector of the list catches it, else E0000000 plus the number of the
-- earliest that does; and in the second buffer the tallies, the number of vectors of the list that catch it
abbrev pub grade_work : ℕ → ℕ → List ℕ → List ℕ → Counts → Work
grade_work marks tallies ws xs c =
    record { tests = grade_tests marks tallies c; number = marked ws c xs; words = tab (mark ws c xs) c.faults; more = tab (tally ws c xs) c.faults }

abbrev pub grade_outcome : Lent → Lent → ℕ → ℕ → Outcome
grade_outcome card v marks tallies = outcome (opened_list card v) (grade_work marks tallies card.words v.words)
