-- Tests in document 01's order, of which the first broken one counts. Assumes nothing.
use Rattle.std.specs.Prelude.{ℕ, List, [], ◌∷◌, Bool, true, false, ltb, Ok, Err}
use Rattle.answers.specs.declared.Rule.{Rule}
use Rattle.answers.specs.declared.Rule.TheVariants.{BufferTooShort}
use Rattle.answers.specs.Answers.{Verdict, Answer, refused}

-- a rule in its place: where `broken` holds, the card is refused by `rule` at `position`
pub record Test : Type 0 where
  pub broken : Bool
  pub rule : Rule
  pub position : ℕ

abbrev pub test : Bool → Rule → ℕ → Test
test b r p = record { broken = b; rule = r; position = p }

-- the first broken test of a list
abbrev pub unless : Bool → Verdict → Verdict → Verdict
unless true a b = a
unless false a b = b

abbrev pub first_broken : List Test → Verdict
first_broken [] = Ok tt
first_broken (t ∷ ts) = unless t.broken (Err (refused t.rule t.position)) (first_broken ts)

-- a verdict, and where it is sound, another; or an answer
abbrev pub and_then : Verdict → Verdict → Verdict
and_then (Ok tt) v = v
and_then (Err r) v = Err r

abbrev pub onward : Verdict → Answer → Answer
onward (Ok tt) a = a
onward (Err r) a = Err r

-- the room of a buffer of so many words, which wants n
abbrev pub room_test : ℕ → ℕ → List Test
room_test n room = test (ltb room n) BufferTooShort 0 ∷ []

-- THE ROOM OF TWO BUFFERS of so many words, each of which wants n: the first is tested before the second
unfoldable pub room_tests : ℕ → ℕ → ℕ → List Test
room_tests n first second = test (ltb first n) BufferTooShort 0 ∷ test (ltb second n) BufferTooShort 1 ∷ []
