-- What reading the input came to. Assumes nothing.
use Rattle.std.specs.Prelude.{ℕ, ◌<◌, ◌≤◌, ◌≡◌, false, Result, Ok, Err}
use Rattle.cardinput.specs.declared.reads.Answer.TheVariants.{End, Failed}
use Rattle.cardinput.specs.declared.reads.Source.{Source}
use Rattle.cardinput.specs.declared.Unread.{Unread}
use Rattle.cardinput.specs.Reads.{failed}

-- THE BYTES ARE ALL THAT WERE WANTED, OR ALL THAT THERE WERE: there are fewer only where the last read answered that the input ends, and it did not
-- fail. An error is told only where the last read failed, and it is that read's.
abbrev pub Came : ℕ → Result Source Unread → Type 0
Came wanted (Ok s) = (s.handed ≤ wanted) × (s.handed < wanted → s.last ≡ End) × (failed s.last ≡ false)
Came wanted (Err u) = u.source.last ≡ Failed u.error
