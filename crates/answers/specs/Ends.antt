-- That a worker ends as the outcome of the call says. No contract of a call cites these. Assumes nothing.
use Rattle.std.specs.Prelude.{ℕ, ◌≤◌, ◌<◌, ◌≡◌, List, length, take, Result, Ok, Err}
use Rattle.lists.specs.Tables.{front}
use Rattle.answers.specs.declared.Refusal.{Refusal}
use Rattle.answers.specs.Answers.{Reply, stands_at}
use Rattle.answers.specs.declared.Done.{Done}
use Rattle.answers.specs.declared.Ending.{Ending}
use Rattle.answers.specs.Calls.{Lent, lent, Outcome}

-- how a worker ends: done, or refused
abbrev pub Ended : Type 0
Ended = Result Done Refusal

abbrev pub end_done : ℕ → ℕ → ℕ → Ended
end_done number words more = Ok (record { number = number; words = words; more = more })

-- the same part by part: the reply, and how many words went to the buffer and to a second one. A refusal writes none
abbrev pub reply_of : Ended → Reply
reply_of (Ok d) = Ok d.number
reply_of (Err r) = Err r

abbrev pub written : Ended → ℕ
written (Ok d) = d.words
written (Err r) = 0

abbrev pub written_more : Ended → ℕ
written_more (Ok d) = d.more
written_more (Err r) = 0

abbrev pub ending : Ended → Ending
ending r = record { reply = reply_of r; words = written r; more = written_more r }

-- n words, which fit a buffer of `room`, stand at the front of a buffer
pub record Filled (words : List ℕ) (room n : ℕ) (before after : List ℕ) : Type 0 where
  pub count : n ≡ length words
  pub fits : length words ≤ room
  pub buffer : after ≡ front words before

-- the worker ended with the outcome's reply and words; and with two buffers
pub record EndsAs (o : Outcome) (room : ℕ) (r : Ending) (before after : List ℕ) : Type 0 where
  pub reply : r.reply ≡ o.reply
  pub filled : Filled o.words room r.words before after

pub record EndsBoth (o : Outcome) (room room' : ℕ) (r : Ending) (b d b' d' : List ℕ) : Type 0 where
  pub first : EndsAs o room r b b'
  pub second : Filled o.more room' r.more d d'

-- a refusal's position has a place in 64 bits beside the rule's number
abbrev pub Stands : Reply → Type 0
Stands (Ok n) = Unit {0}
Stands (Err r) = stands_at r < 4294967296

-- the first n words of what is lent
abbrev pub clip : ℕ → Lent → Lent
clip n l = lent (take n l.words) l.extra
