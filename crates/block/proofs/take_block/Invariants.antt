-- `block::take_block` meets its contract. Assumes nothing.
-- The invariant: the vectors of the block below i are taken in, and the rooms for one vector keep their lengths.
use Rattle.std.proofs.Common.{◌≡◌, length}
use Rattle.block.specs.Block.{TookIn}
use Rattle.block.proofs.take_block.Given as goal

abbrev pub invariant-loop-i : goal.invariant-loop-i
invariant-loop-i l = record {
  values : 5120 ≡ length l.values;
  walk : 2080 ≡ length l.walk;
  caught : 5120 ≡ length l.caught;
  took : TookIn l.card l.c l.vectors l.i l.initial.marks l.initial.tallies l.marks l.tallies l.initial.q l.q;
}
