-- What a call that is done has made: its outcome and the theorem together. No contract of a call cites it. Assumes nothing.
use Rattle.std.specs.Prelude.{ℕ, ◌≡◌, length, Ok}
use Rattle.answers.specs.declared.Counts.{Counts}
use Rattle.answers.specs.Calls.{Lent}
use Rattle.gatelist.specs.Same.{AsGates}
use Rattle.gates.specs.Calls.{lent_listed, card_words, to_card_outcome}

-- done with the number n: the gate list is accepted, the buffer gets n words, and they are a card that is the gate list
pub record Made (gs : Lent) (room n : ℕ) : Type 0 where
  pub counted : Counts
  pub accepted : lent_listed gs ≡ Ok counted
  pub as-gates : AsGates gs.words counted
  pub number : n ≡ length (card_words gs counted)
  pub words : (to_card_outcome gs room).words ≡ card_words gs counted
