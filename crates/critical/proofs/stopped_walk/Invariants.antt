-- `critical::stopped_walk` meets its contract. The invariant: the walk has come to p with n graphs listed, where it had come to g + 1 with one. Assumes nothing.
use Prim.Native.Nat.{ℕ, ◌≤◌, ◌+◌, ◌-◌}
use mathlib.Core.Path.{◌≡◌}
use mathlib.Core.List.{List}
use lib.ListN.{length}
use Rattle.critical.specs.Walking.{Hidden, Entries, Walking}
use Rattle.critical.proofs.stopped_walk.Given as goal

abbrev pub invariant-loop-c : goal.invariant-loop-c
invariant-loop-c l = (l.n ≤ l.p) × (l.p ≤ l.c.graphs) × (length l.walk ≡ length l.initial.walk) × Entries l.c.graphs l.n l.walk × Hidden l.card l.n l.walk
    × ((x : List ℕ) → Walking l.card l.c x l.g (l.g + 1) 1 l.initial.walk → Walking l.card l.c x l.g l.p l.n l.walk)

abbrev pub decreases-loop-c : goal.decreases-loop-c
decreases-loop-c l = l.c.graphs - l.p
