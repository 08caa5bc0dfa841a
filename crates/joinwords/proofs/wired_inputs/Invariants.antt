-- `joinwords::wired_inputs` meets its contract. The invariant: the first i words are the numbers of B's inputs, and `due` is that of the next free one.
-- Assumes nothing.
use Prim.Native.Nat.{◌+◌}
use mathlib.Core.Path.{◌≡◌}
use lib.ListN.{length}
use Rattle.lists.specs.Tables.{over}
use Rattle.wiring.specs.Joined.{free_below}
use Rattle.joinwords.specs.Numbers.{wired_input}
use Rattle.joinwords.proofs.wired_inputs.Given as goal

abbrev pub invariant-loop-i : goal.invariant-loop-i
invariant-loop-i l =
    (l.due ≡ length l.inputs + free_below l.wires l.i) × (l.table ≡ over l.i (wired_input l.wires l.inputs l.start) l.initial.table)
