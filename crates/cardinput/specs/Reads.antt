-- What reads of an input tell. These speak of a read's answer alone. Assumes nothing.
use Rattle.std.specs.Prelude.{ℕ, zero, suc, ◌+◌, ◌<◌, ◌≡◌, Bool, true, false, Result, Ok, Err}
use Rattle.std.specs.declared.io.Error.{Error}
use Rattle.cardinput.specs.declared.reads.Answer.{Answer}
use Rattle.cardinput.specs.declared.reads.Answer.TheVariants.{Bytes, End, Failed}
use Rattle.cardinput.specs.declared.reads.Source.{Source}

-- WHAT A READ'S ANSWER TELLS, after `handed` bytes: the end at 0 and only there, and that it failed where it did
abbrev pub told_by : ℕ → Result ℕ Error → Source
told_by handed (Ok zero) = record { handed = handed; last = End }
told_by handed (Ok (suc k)) = record { handed = handed + suc k; last = Bytes (suc k) }
told_by handed (Err e) = record { handed = handed; last = Failed e }

-- ONE READ MORE: from n bytes to m, by what the read answered
abbrev pub Grown : ℕ → ℕ → Answer → Type 0
Grown n m (Bytes k) = (m ≡ n + k) × (0 < k)
Grown n m End = m ≡ n
Grown n m (Failed e) = m ≡ n

-- the read failed
abbrev pub failed : Answer → Bool
failed (Bytes k) = false
failed End = false
failed (Failed e) = true
