-- What a joining that is done has made: its outcome and the theorem together. No contract of a call cites it. Assumes nothing.
use Rattle.std.specs.Prelude.{ℕ, ◌≡◌, length, Ok}
use Rattle.answers.specs.declared.Counts.{Counts}
use Rattle.answers.specs.Calls.{Lent}
use Rattle.form.specs.Check.{checked}
use Rattle.wiring.specs.Both.{Both}
use Rattle.join.specs.Calls.{joined_words, join_outcome}

-- done with the number n: both cards are accepted, the buffer gets n words, and they are a card that is both cards
pub record Made (a b wires : Lent) (room n : ℕ) : Type 0 where
  pub first : Counts
  pub second : Counts
  pub first-accepted : checked a.words ≡ Ok first
  pub second-accepted : checked b.words ≡ Ok second
  pub both : Both a.words b.words first second wires.words
  pub number : n ≡ length (joined_words a b wires first second)
  pub words : (join_outcome a b wires room).words ≡ joined_words a b wires first second
