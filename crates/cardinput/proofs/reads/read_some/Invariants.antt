-- What the loop of `cardinput::reads::read_some` keeps: an interrupted read takes nothing from a reader whose bytes are known, the room keeps its length
-- from try to try, and the tries left fall. Assumes nothing.
use Rattle.std.proofs.Common.{◌-◌, ◌≡◌, ◌≤◌, length}
use Rattle.std.specs.Io.KnownBytes.{Keeps}
use Rattle.cardinput.proofs.reads.read_some.Given as goal

abbrev pub invariant-loop-tries : goal.invariant-loop-tries
invariant-loop-tries g l = record {
  few : l.tries ≤ 99;
  same_length : length l.room ≡ length l.fn.room;
  kept : Keeps (g.R.Read.remaining l.fn.reader) (g.R.Read.remaining l.reader);
}

abbrev pub decreases-loop-tries : goal.decreases-loop-tries
decreases-loop-tries g l = 99 - l.tries
