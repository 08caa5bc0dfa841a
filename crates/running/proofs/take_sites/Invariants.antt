-- `running::take_sites` meets its contract. Assumes nothing.
-- The invariant: the words of the sites below p are taken in and the others as they were, and m is the marked count of the tallies.
use Rattle.std.proofs.Common.{◌≡◌, ◌*◌}
use Rattle.running.specs.Running.{in_grade_by, found, Folded}
use Rattle.running.proofs.take_sites.Given as goal

abbrev pub invariant-loop-p : goal.invariant-loop-p
invariant-loop-p l = record {
  number : l.m ≡ found (in_grade_by l.graded) l.tallies (2 * l.n);
  folded : Folded l.t l.p l.caught l.initial.marks l.initial.tallies l.marks l.tallies;
}
