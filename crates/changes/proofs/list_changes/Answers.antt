use Prim.Native.Nat.{ℕ, ◌+◌}
use mathlib.Core.Path.{◌≡◌, refl, ◌∙◌}
use mathlib.Core.Bool.{Bool, not}
use native.Mathlib.Omega.{arith}
use lib.ListN.{get_or}
use lib.Dec.{eqb}
use Rattle.lists.specs.Counting.{count}
use Rattle.lists.proofs.Counting.{count-le, count-more}
use Rattle.changes.proofs.Laws.{chosen_none, chosen_more}
use Rattle.changes.proofs.list_changes.Goals as goal

pub loop-h-init : goal.loop-h-init
unfolding count
loop-h-init c = (refl, chosen_none _ _)

pub append-n-requires : goal.append-n-requires
append-n-requires c =
    let p : ℕ → Bool = λ i. not (eqb (get_or c.args.flips.now i 0) (get_or c.args.values.now (c.args.c.nodes + i) 0)) in
    omega (arith, count-le p c.loop-h.h, c.requires.3, c.requires.0)

pub loop-h-preserved : goal.loop-h-preserved
loop-h-preserved c =
    let p : ℕ → Bool = λ i. not (eqb (get_or c.args.flips.now i 0) (get_or c.args.values.now (c.args.c.nodes + i) 0)) in
    let b = not (eqb c.get.result c.get-in-loop-h.result) in
    let e : p c.loop-h.h ≡ b = rw (c.get.ensures, c.get-in-loop-h.ensures) in
    let o = c.append-n.ensures in (
      o.number ∙ rw c.loop-h.invariant.0 (count-more p c.loop-h.h b e),
      o.words ∙ rw (c.loop-h.invariant.1, c.loop-h.invariant.0) (chosen_more p c.args.list.now c.loop-h.h b e (omega (arith, c.requires.3))),
    )
