-- Values with one fault, as the call that took one number had them. No contract of a call cites these: a law says that a list of one gives what this call
-- gave. Assumes nothing.
use Rattle.std.specs.Prelude.{ℕ, List, [], ◌∷◌, ltb, leb}
use Rattle.answers.specs.declared.Counts.{Counts}
use Rattle.answers.specs.declared.Rule.TheVariants.{NumberTooHigh, BufferTooShort}
use Rattle.answers.specs.Tests.{Test, test}
use Rattle.value.specs.Settings.{good, stuck}
use Rattle.answers.specs.Calls.{Lent, Outcome}
use Rattle.plain.specs.Calls.{values_outcome}

-- the fault's number, the buffer's length
unfoldable pub single_tests : ℕ → ℕ → Counts → List Test
single_tests f room c = test (leb c.faults f) NumberTooHigh 0 ∷ test (ltb room c.graphs) BufferTooShort 0 ∷ []

abbrev pub single_outcome : Lent → Lent → ℕ → ℕ → Outcome
single_outcome card v f room = values_outcome (single_tests f room) (stuck f good) card v
