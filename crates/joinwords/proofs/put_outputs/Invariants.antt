-- `joinwords::put_outputs` meets its contract. The invariant: k words under the new numbers follow the buffer's first n words. Assumes nothing.
use mathlib.Core.Path.{◌≡◌}
use mathlib.Core.List.{◌++◌}
use lib.ListN.{length, get_or, take}
use Rattle.lists.specs.Tables.{at, tab, front}
use Rattle.wiring.specs.Joined.{renumbered, moved}
use Rattle.joinwords.proofs.put_outputs.Given as goal

abbrev pub invariant-loop-k : goal.invariant-loop-k
invariant-loop-k l =
    l.out ≡ front (take l.n l.initial.out ++ tab (λ i. moved (renumbered (length l.inputs) (at l.inputs) l.start) (get_or l.words i 0)) l.k) l.initial.out
