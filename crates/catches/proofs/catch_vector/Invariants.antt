-- `catches::catch_vector` meets its contract. The invariant: the graphs above g and their nodes are told, and the buffer of walks has the good values.
-- Assumes nothing.
use Rattle.catches.specs.Good.{Caught}
use Rattle.catches.proofs.catch_vector.Given as goal

abbrev pub invariant-loop-g : goal.invariant-loop-g
invariant-loop-g l = Caught l.card l.c l.vector l.g l.walk l.caught
