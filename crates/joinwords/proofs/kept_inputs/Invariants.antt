-- `joinwords::kept_inputs` meets its contract. The invariant: the first i words are their own places, and the others as they were. Assumes nothing.
use mathlib.Core.Path.{◌≡◌}
use Rattle.lists.specs.Tables.{over}
use Rattle.joinwords.proofs.kept_inputs.Given as goal

abbrev pub invariant-loop-i : goal.invariant-loop-i
invariant-loop-i l = l.number-items ≡ over l.i (λ j. j) l.initial.number-items
