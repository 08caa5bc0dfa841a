-- `grade::take_list` meets its contract. Assumes nothing.
-- The invariant: the vectors below t are taken in, as far as there are any, so marks and tallies are those of these, and the result counts them.
use Rattle.std.proofs.Common.{◌≡◌, ◌-◌, min, length}
use Rattle.grade.specs.Graded.{Graded}
use Rattle.cardtables.specs.Stems.{in_grade}
use Rattle.running.specs.Running.{Counted}
use Rattle.testvectors.specs.Lists.{list_words}
use Rattle.grade.proofs.take_list.Given as goal

abbrev pub invariant-loop-t : goal.invariant-loop-t
invariant-loop-t l = record {
  room : 4096 ≡ length l.buffer;
  vector : l.r.vector ≡ min l.t l.n;
  counted : Counted (in_grade l.card l.c) l.c.faults l.marks l.tallies l.r;
  graded : Graded l.card l.c (list_words l.list) (min l.t l.n) l.initial.marks l.initial.tallies l.marks l.tallies;
}

abbrev pub decreases-loop-t : goal.decreases-loop-t
decreases-loop-t l = l.n - l.t
