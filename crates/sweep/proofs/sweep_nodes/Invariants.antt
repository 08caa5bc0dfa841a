-- `sweep::sweep_nodes` meets its contract. The invariant: under each vector whose lower graphs were done, the nodes from k on have their values.
-- Assumes nothing.
use Prim.Native.Nat.{ℕ}
use mathlib.Core.List.{List}
use Rattle.sweep.specs.Swept.{Swept, Partly}
use Rattle.sweep.proofs.sweep_nodes.Given as goal

abbrev pub invariant-loop-k : goal.invariant-loop-k
invariant-loop-k l = (x : List ℕ) → Swept l.card l.c x l.g l.initial.values → Partly l.card l.c x l.g l.k l.values
