-- EVERY CALL is defined once, whether it is made by words or in bytes: what is lent to it gives its reply and the words that go to its buffers. And what
-- a call by words promises of that. Assumes nothing.
use Rattle.std.specs.Prelude.{ℕ, ◌≡◌, List, [], length, Ok, Err}
use Rattle.lists.specs.Tables.{front}
use Rattle.answers.specs.declared.Refusal.{Refusal}
use Rattle.answers.specs.declared.Counts.{Counts}
use Rattle.answers.specs.declared.Lent as code
use Rattle.answers.specs.Answers.{Verdict, Answer, Reply}
use Rattle.answers.specs.Tests.{Test, first_broken, onward}

-- WHAT IS LENT: whole words, and so many bytes after them that make no word; by words there are none
pub record Lent : Type 0 where
  pub words : List ℕ
  pub extra : ℕ

abbrev pub lent : List ℕ → ℕ → Lent
lent ws extra = record { words = ws; extra = extra }

-- what a struct of the code lends
abbrev pub lends : code.Lent → Lent
lends l = lent l.words.now l.extra

abbrev pub whole : List ℕ → Lent
whole ws = lent ws 0

-- WHAT A CALL COMES TO: its reply, the words that go to the front of its buffer, and those that go to the front of a second one
pub record Outcome : Type 0 where
  pub reply : Reply
  pub words : List ℕ
  pub more : List ℕ

-- a refusal writes nothing
abbrev pub refused_by : Refusal → Outcome
refused_by r = record { reply = Err r; words = []; more = [] }

-- what a call does with what was accepted: its own tests, in their order, and where none is broken its number and its words
pub record Work : Type 0 where
  pub tests : List Test
  pub number : ℕ
  pub words : List ℕ
  pub more : List ℕ

abbrev pub work : List Test → ℕ → List ℕ → Work
work tests number words = record { tests = tests; number = number; words = words; more = [] }

abbrev pub outcome_by : Verdict → Work → Outcome
outcome_by (Ok tt) w = record { reply = Ok w.number; words = w.words; more = w.more }
outcome_by (Err r) w = refused_by r

-- HOW A CALL OPENS: the check of its card, and then the form of its vectors
abbrev pub opened : Answer → (Counts → Verdict) → Answer
opened (Ok c) form = onward (form c) (Ok c)
opened (Err r) form = Err r

-- what follows where something is accepted; a refusal ends the call
unfoldable pub following : Answer → (Counts → Outcome) → Outcome
following (Ok c) f = f c
following (Err r) f = refused_by r

-- THE OUTCOME of a call, from how it opens and its work on what was accepted
unfoldable pub outcome : Answer → (Counts → Work) → Outcome
unfolding following
outcome a f = following a (λ c. outcome_by (first_broken (f c).tests) (f c))

-- BY WORDS: a call, which goes by the length of its buffer, has the outcome's reply r and leaves the outcome's words at the front of the buffer, whose
-- rest stays; so a refusal alters nothing
abbrev pub ByWords : (ℕ → Outcome) → Reply → List ℕ → List ℕ → Type 0
ByWords call r before after = (r ≡ (call (length before)).reply) × (after ≡ front (call (length before)).words before)

-- the same with two buffers, b and d before and b' and d' after
abbrev pub ByWordsBoth : (ℕ → ℕ → Outcome) → Reply → List ℕ → List ℕ → List ℕ → List ℕ → Type 0
ByWordsBoth call r b d b' d' =
    (r ≡ (call (length b) (length d)).reply) × (b' ≡ front (call (length b) (length d)).words b) × (d' ≡ front (call (length b) (length d)).more d)
