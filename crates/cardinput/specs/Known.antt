-- What reads do to a reader whose bytes are known. Assumes nothing.
use Rattle.std.specs.Prelude.{ℕ, ◌≤◌, ◌≡◌, List, length, take, Option, Result, Ok, Err}
use Rattle.std.specs.Io.KnownBytes.{Consumes, IsAtEnd}
use Rattle.cardinput.specs.declared.reads.Answer.TheVariants.{End}
use Rattle.cardinput.specs.declared.reads.Source.{Source}
use Rattle.cardinput.specs.declared.Unread.{Unread}

-- THE BYTES HANDED OUT ARE THE FIRST THAT THE READER HAD: they stand at the front of the buffer b, and the reader has the others left, in their
-- order. The end is told only where none is left.
abbrev pub FrontOf : Option (List ℕ) → Option (List ℕ) → Source → List ℕ → Type 0
FrontOf known left s b = (s.handed ≤ length b) × Consumes known left (take s.handed b) × (s.last ≡ End → IsAtEnd left)

-- what the reads told, whether the last of them failed or not
abbrev pub told_in : Result Source Unread → Source
told_in (Ok s) = s
told_in (Err u) = u.source
