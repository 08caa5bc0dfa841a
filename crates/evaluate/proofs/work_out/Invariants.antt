-- `evaluate::work_out` meets its contract. The invariant: the values of the graphs below g are in, and each word below 2 in `saved` is its site's value.
-- Assumes nothing.
use mathlib.Core.Path.{◌≡◌}
use Rattle.lists.specs.Tables.{over}
use Rattle.value.specs.Settings.{faulty}
use Rattle.value.specs.Values.{value}
use Rattle.value.specs.Run.{run}
use Rattle.evaluate.specs.Saved.{Saved}
use Rattle.evaluate.proofs.work_out.Given as goal

abbrev pub invariant-loop-g : goal.invariant-loop-g
invariant-loop-g l = (l.v-items ≡ over l.g (value l.card l.c (faulty l.faults) l.vector) l.initial.v-items) × Saved (run l.card l.c l.faults l.vector) l.saved
