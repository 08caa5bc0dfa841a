-- The call that wires two cards together: document 02, change 1. Assumes nothing.
use Rattle.std.specs.Prelude.{ℕ, List, ◌∷◌, length, ltb}
use Rattle.answers.specs.declared.Rule.TheVariants.{WireForm}
use Rattle.answers.specs.declared.Counts.{Counts}
use Rattle.answers.specs.Tests.{Test, test}
use Rattle.answers.specs.Calls.{Lent, Outcome, Work, work, following, outcome}
use Rattle.form.specs.Check.{lent_check}
use Rattle.wiring.specs.Joined.{joined, join_tests}
use Rattle.wiring.specs.Calls.{counted_on}

-- bytes left over after the wires are a wrong number of wire words, rule 13 at 0; then the tests on their words, for a joined card of n words
abbrev pub wire_tests : Counts → Counts → Lent → ℕ → ℕ → List Test
wire_tests A B wires n room = test (ltb 0 wires.extra) WireForm 0 ∷ join_tests A B wires.words n room

module _ (a b wires : Lent) where
  -- the words of the joined card
  abbrev pub joined_words : Counts → Counts → List ℕ
  joined_words A B = joined A B wires.words a.words b.words

  -- with both cards accepted: the tests, for a buffer of `room` words, and the joined card
  abbrev pub join_work : ℕ → Counts → Counts → Work
  join_work room A B = work (wire_tests A B wires (length (joined_words A B)) room) (length (joined_words A B)) (joined_words A B)

  -- JOIN: A is checked, then B, whose positions follow A's words. The number is that of the joined card's words
  abbrev pub join_outcome : ℕ → Outcome
  join_outcome room = following (lent_check a) (λ A. outcome (counted_on (length a.words) (lent_check b)) (join_work room A))
