-- `pathlengths::path_lengths` meets its contract. The invariant: where the values are good ones, the lengths of the graphs below g are in. Assumes nothing.
use Prim.Native.Nat.{ℕ}
use mathlib.Core.Path.{◌≡◌}
use mathlib.Core.List.{List}
use Rattle.lists.specs.Tables.{over}
use Rattle.value.specs.Settings.{good}
use Rattle.value.specs.Values.{path_length}
use Rattle.pathlengths.specs.GoodValues.{GoodIn}
use Rattle.pathlengths.proofs.path_lengths.Given as goal

abbrev pub invariant-loop-g : goal.invariant-loop-g
invariant-loop-g l = (x : List ℕ) → GoodIn l.card l.c x l.values → l.length-items ≡ over l.g (path_length l.card l.c good x) l.initial.length-items
