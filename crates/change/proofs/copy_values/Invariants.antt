-- `change::copy_values` meets its contract. The invariant: the words below h are the graphs' values, and the others as they were. Assumes nothing.
use Prim.Native.Nat.{◌+◌}
use mathlib.Core.Path.{◌≡◌}
use lib.ListN.{length, get_or}
use Rattle.lists.specs.Tables.{over}
use Rattle.change.proofs.copy_values.Given as goal

abbrev pub invariant-loop-h : goal.invariant-loop-h
invariant-loop-h l = (length l.flips ≡ length l.initial.flips) × (l.flips ≡ over l.h (λ i. get_or l.values (l.c.nodes + i) 0) l.initial.flips)
