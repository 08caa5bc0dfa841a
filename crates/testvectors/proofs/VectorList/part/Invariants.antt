-- The first i words are those of the list, and the others as they were.
use Prim.Native.Nat.{◌+◌}
use mathlib.Core.Path.{◌≡◌}
use lib.ListN.{get_or}
use Rattle.lists.specs.Tables.{over}
use Rattle.testvectors.specs.Lists.{list_words}
use Rattle.testvectors.proofs.VectorList.part.Given as goal

abbrev pub invariant-loop-i : goal.invariant-loop-i
invariant-loop-i l = l.out ≡ over l.i (λ k. get_or (list_words l.self) (l.start + k) 0) l.initial.out
