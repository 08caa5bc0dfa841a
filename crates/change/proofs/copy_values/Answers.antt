use mathlib.Core.Path.{refl, sym, ◌∙◌}
use native.Mathlib.Omega.{arith}
use Rattle.lists.proofs.Tables.{over_none, over-store}
use borrow.Author.Rules.{rules}
use Rattle.change.proofs.copy_values.Goals as goal

pub loop-h-init : goal.loop-h-init
loop-h-init c = (refl, sym (over_none _ _))

pub loop-h-preserved : goal.loop-h-preserved
loop-h-preserved c =
    (search rules, c.put.ensures ∙ rw c.loop-h.invariant.1 (over-store _ _ c.loop-h.h _ (omega (arith, c.requires.1)) c.get-own.ensures))
