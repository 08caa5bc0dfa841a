-- That the bytes read are the whole input, as far as it decides what is printed. Assumes nothing.
use Rattle.std.specs.Prelude.{ℕ, ◌<◌, ◌≤◌, ◌≡◌, false, List, length, take, Result, Ok, Err}
use Rattle.report.specs.Report.{bytes_wanted, max_input}
use Rattle.cardinput.specs.declared.reads.Source.{Source}
use Rattle.cardinput.specs.declared.reads.Answer.TheVariants.{End, Failed}
use Rattle.cardinput.specs.declared.Unread.{Unread}
use Rattle.cardinput.specs.Reads.{failed}

-- ALL THAT DECIDES WAS READ: as `Came` (`cardinput`, specs/Reading.antt), where the bytes wanted are those that decide what is printed, by the first
-- four of the buffer b that was read into
abbrev pub CameAll : List ℕ → Result Source Unread → Type 0
CameAll b (Ok s) = (s.handed ≤ max_input) × (s.handed < bytes_wanted (take 4 b) → s.last ≡ End) × (failed s.last ≡ false)
CameAll b (Err u) = u.source.last ≡ Failed u.error

-- WHAT IS TRUSTED OF THE READS, since the contract of the C library's read does not say it: the bytes in b that they handed out are the first of the
-- input w, and the end is answered only where it has no more. Where this is so, the text for the bytes read is the text for the whole input: the law
-- `whole-input` (proofs/Whole.antt).
pub record FirstOf (w b : List ℕ) (s : Source) : Type 0 where
  pub bytes : take s.handed b ≡ take s.handed w
  pub end : s.last ≡ End → length w ≤ s.handed
