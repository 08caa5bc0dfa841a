-- `change::change` meets its contract. The invariant: where the loop began with graph g flipped and the others good, the words below h are flipped, and
-- those from h on good. Assumes nothing.
use Prim.Native.Nat.{ℕ}
use mathlib.Core.List.{List}
use Rattle.value.specs.Settings.{good}
use Rattle.value.specs.Values.{value}
use Rattle.rules.specs.Rules.{flipped}
use Rattle.change.specs.Flips.{Between}
use Rattle.change.proofs.change.Given as goal

abbrev pub invariant-loop-h : goal.invariant-loop-h
invariant-loop-h l =
    (x : List ℕ) → Between (flipped l.card l.c x l.g) (value l.card l.c good x) l.c.graphs l.initial.h l.initial.flips
    → Between (flipped l.card l.c x l.g) (value l.card l.c good x) l.c.graphs l.h l.flips
