-- The check of the second card of a call on two: its positions count on after the first card's words. Assumes nothing.
use Rattle.std.specs.Prelude.{ℕ, ◌+◌, Ok, Err}
use Rattle.answers.specs.Answers.{Answer, refused, broken_rule, stands_at}

-- the check of a card whose words follow n others
unfoldable pub counted_on : ℕ → Answer → Answer
counted_on n (Ok c) = Ok c
counted_on n (Err r) = Err (refused (broken_rule r) (n + stands_at r))
