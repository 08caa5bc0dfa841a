-- The call that turns a gate list into a card: document 02, 'Gate lists above the engine'. Assumes nothing.
use Rattle.std.specs.Prelude.{ℕ, List, [], ◌∷◌, length, ltb}
use Rattle.answers.specs.declared.Rule.TheVariants.{BufferTooShort}
use Rattle.answers.specs.declared.Counts.{Counts}
use Rattle.answers.specs.Answers.{Answer}
use Rattle.answers.specs.Tests.{Test, test}
use Rattle.answers.specs.Calls.{Lent, Outcome, Work, work, outcome}
use Rattle.gatelist.specs.Form.{gates_checked_with}
use Rattle.gatelist.specs.Drawn.{drawn}

-- room for the n words of a gate list's card
abbrev pub room_tests : ℕ → ℕ → List Test
room_tests n room = test (ltb room n) BufferTooShort 0 ∷ []

module _ (gs : Lent) where
  -- the check of a gate list: bytes left over are rule 4 at the word count, just before rule 9
  abbrev pub lent_listed : Answer
  lent_listed = gates_checked_with gs.words gs.extra

  -- the words of its card
  abbrev pub card_words : Counts → List ℕ
  card_words c = drawn gs.words c.graphs

  -- these, where they fit a buffer of `room` words
  abbrev pub to_card_work : ℕ → Counts → Work
  to_card_work room c = work (room_tests (length (card_words c)) room) (length (card_words c)) (card_words c)

  -- TO CARD: the number is that of the card's words
  abbrev pub to_card_outcome : ℕ → Outcome
  to_card_outcome room = outcome lent_listed (to_card_work room)
