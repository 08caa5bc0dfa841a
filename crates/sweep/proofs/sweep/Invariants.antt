-- `sweep::sweep` meets its contract. The invariant: the graphs below g and their nodes have their values. Assumes nothing.
use Rattle.sweep.specs.Swept.{Swept}
use Rattle.sweep.proofs.sweep.Given as goal

abbrev pub invariant-loop-g : goal.invariant-loop-g
invariant-loop-g l = Swept l.card l.c l.vector l.g l.values
