-- `changes::list_changes` meets its contract. The invariant: of the graphs below h those that differ are in the front of the list, n of them. Assumes nothing.
use Prim.Native.Nat.{◌+◌}
use mathlib.Core.Path.{◌≡◌}
use mathlib.Core.Bool.{not}
use lib.ListN.{get_or}
use lib.Dec.{eqb}
use Rattle.lists.specs.Counting.{count}
use Rattle.lists.specs.Tables.{chosen, front}
use Rattle.changes.proofs.list_changes.Given as goal

abbrev pub invariant-loop-h : goal.invariant-loop-h
invariant-loop-h l = (l.n ≡ count (λ i. not (eqb (get_or l.flips i 0) (get_or l.values (l.c.nodes + i) 0))) l.h)
    × (l.list ≡ front (chosen (λ i. not (eqb (get_or l.flips i 0) (get_or l.values (l.c.nodes + i) 0))) l.h) l.initial.list)
