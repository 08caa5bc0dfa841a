-- What answers and replies tell in document 01's numbers, for tables of cases. No contract of a call cites these. Assumes nothing.
use Rattle.std.specs.Prelude.{ℕ, List, [], ◌∷◌, Ok, Err}
use Rattle.answers.specs.Answers.{Answer, Reply, broken_rule, stands_at}
use Rattle.answers.specs.Answers.{number_of, values_of}

-- a refusal's number and position and no values, or values and both numbers 0
pub record Told : Type 0 where
  pub number : ℕ
  pub position : ℕ
  pub values : List ℕ

abbrev pub refusal : ℕ → ℕ → Told
refusal number position = record { number = number; position = position; values = [] }

abbrev pub result : List ℕ → Told
result values = record { number = 0; position = 0; values = values }

-- a check tells these, or its refusal
unfoldable pub answer_told : Answer → Told
unfolding number_of
answer_told (Ok c) = result (values_of c)
answer_told (Err r) = refusal (number_of (broken_rule r)) (stands_at r)

-- any other call tells one number, or its refusal: the length of a change list, the marked count of a grading, the number of words of a joined card
-- or of the card of a gate list, else 0
unfoldable pub reply_told : Reply → Told
unfolding number_of
reply_told (Ok number) = result (number ∷ [])
reply_told (Err r) = refusal (number_of (broken_rule r)) (stands_at r)
