use Prim.Native.Nat.{ℕ}
use mathlib.Core.Path.{sym, ap, ◌∙◌}
use native.Mathlib.Omega.{arith}
use lib.Dec.{ltb}
use Rattle.lists.specs.Counting.{choose}
use Rattle.lists.proofs.Tables.{over_none, over-store}
use Rattle.cardtables.proofs.Stems.{flag-word}
use Rattle.changes.proofs.flag_sites.Goals as goal

pub loop-j-init : goal.loop-j-init
loop-j-init c = sym (over_none _ _)

pub loop-j-preserved : goal.loop-j-preserved
loop-j-preserved c =
    let l = c.loop-j in
    rw l.invariant (over-store _ _ l.j _ (omega arith) (c.from.ensures ∙ flag-word _ ∙ ap (λ (w : ℕ). choose (ltb w 2) 1 0) c.get.ensures))
