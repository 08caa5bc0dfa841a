-- What the calls of the fixture's host share: document 01, 'Calls'. Cards, vectors and buffers are bytes, each word four of them, highest byte first; the
-- answer is one 64-bit number. Assumes nothing.
use Rattle.std.specs.Prelude.{ℕ, ◌+◌, ◌*◌, ◌/◌, ◌%◌, ◌≡◌, List, length, Ok, Err}
use Rattle.lists.specs.Tables.{over}
use Rattle.word32.specs.Bytes.{words_of, byte_of}
use Rattle.answers.specs.Answers.{number_of, broken_rule, stands_at, Reply}
use Rattle.answers.specs.Calls.{Lent, lent, Outcome}

-- WHAT IS LENT in bytes: the whole words that they hold, and the one to three bytes left over, if there are any
abbrev pub of_bytes : List ℕ → Lent
of_bytes b = lent (words_of b) (length b % 4)

-- the words that a buffer has room for
abbrev pub room : List ℕ → ℕ
room buffer = length buffer / 4

-- THE ONE NUMBER that a call returns: for a refusal its number × 4,294,967,296 plus the position, else the number that the call tells
abbrev pub host_answer : Reply → ℕ
host_answer (Ok n) = n
host_answer (Err r) = number_of (broken_rule r) * 4294967296 + stands_at r

-- A LENT BUFFER with words written into it from its start, each as four bytes; its other bytes, and so a leftover, are as they were
unfoldable pub as_bytes : List ℕ → List ℕ → List ℕ
as_bytes ws buffer = over (length ws * 4) (byte_of ws) buffer

-- IN BYTES: a call, which goes by the room of its buffer, returns the one number r of the outcome's reply and leaves the outcome's words in the buffer; so a
-- refusal alters nothing
abbrev pub InBytes : (ℕ → Outcome) → ℕ → List ℕ → List ℕ → Type 0
InBytes call r before after = (r ≡ host_answer (call (room before)).reply) × (after ≡ as_bytes (call (room before)).words before)

-- the same with two buffers, b and d before and b' and d' after
abbrev pub InBytesBoth : (ℕ → ℕ → Outcome) → ℕ → List ℕ → List ℕ → List ℕ → List ℕ → Type 0
InBytesBoth call r b d b' d' =
    (r ≡ host_answer (call (room b) (room d)).reply) × (b' ≡ as_bytes (call (room b) (room d)).words b) × (d' ≡ as_bytes (call (room b) (room d)).more d)
