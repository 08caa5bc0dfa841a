-- `hostfaults::highest` meets its contract. The invariant: the highest so far and the numbers from i on tell what all do. Assumes nothing.
use Prim.Native.Nat.{ℕ}
use mathlib.Core.Path.{◌≡◌}
use mathlib.Core.Bool.{◌||◌}
use lib.ListN.{drop}
use lib.Dec.{leb}
use Rattle.word32.specs.Bytes.{words_of}
use Rattle.faultlist.specs.Faults.{too_high}
use Rattle.hostfaults.proofs.highest.Given as goal

abbrev pub invariant-loop-i : goal.invariant-loop-i
invariant-loop-i l = (F : ℕ) → leb F l.high || too_high F (drop l.i (words_of l.faults)) ≡ leb F l.start || too_high F (drop 9 (words_of l.faults))
