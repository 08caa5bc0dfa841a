-- A list of faults read from bytes. No contract of a call cites it. Assumes nothing.
use Rattle.std.specs.Prelude.{ℕ, ◌%◌, ◌≤◌, ◌≡◌, List, ◌||◌, length, take, drop, leb, Ok}
use Rattle.word32.specs.Bytes.{words_of}
use Rattle.answers.specs.declared.Counts.{Counts}
use Rattle.answers.specs.Calls.{Lent}
use Rattle.answers.specs.Tests.{first_broken}
use Rattle.faultlist.specs.Faults.{too_high, fault_tests}

-- the tests say of the r numbers at the front of `out` what they say of the list in the bytes b; and where that list passes, the numbers are the list
pub record FaultsRead (b : List ℕ) (r : ℕ) (out : List ℕ) : Type 0 where
  pub fits : r ≤ length out
  pub tested : (extra room : ℕ) (c : Counts) → first_broken (fault_tests extra (take r out) room c) ≡ first_broken (fault_tests extra (words_of b) room c)
  pub passed : (extra room : ℕ) (c : Counts) → first_broken (fault_tests extra (words_of b) room c) ≡ Ok tt → take r out ≡ words_of b

-- nine numbers are lent at most; the tests say of them what they say of the list in the bytes b; and where that list passes, the numbers are the list
pub record FaultsLent (b : List ℕ) (l : Lent) : Type 0 where
  pub fits : length l.words ≤ 9
  pub left : l.extra ≡ length b % 4
  pub tested : (extra room : ℕ) (c : Counts) → first_broken (fault_tests extra l.words room c) ≡ first_broken (fault_tests extra (words_of b) room c)
  pub passed : (extra room : ℕ) (c : Counts) → first_broken (fault_tests extra (words_of b) room c) ≡ Ok tt → l.words ≡ words_of b

-- r is the highest of a number and those of the list from its tenth on
pub record Highest (b : List ℕ) (start r : ℕ) : Type 0 where
  pub tells : (F : ℕ) → leb F r ≡ leb F start || too_high F (drop 9 (words_of b))
