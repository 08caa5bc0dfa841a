-- The reader goes on over the same words, and stands where the nodes before k leave it; the table has what their exits name.
use Rattle.std.proofs.Common.{◌≡◌, ◌-◌}
use Rattle.nodecheck.proofs.Nodes.{Going}
use Rattle.nodecheck.proofs.check_nodes.Given as goal

abbrev pub invariant-loop-k : goal.invariant-loop-k
invariant-loop-k l = (l.r.words ≡ l.initial.r.words) × Going l.initial.r.words.now (l.initial.r.at - 1) l.g l.n l.k l.r.at l.table
