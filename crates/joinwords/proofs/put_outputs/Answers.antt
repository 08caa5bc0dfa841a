use mathlib.Core.Path.{◌≡◌}
use native.Mathlib.Omega.{arith}
use lib.ListN.{length}
use Rattle.lists.specs.Tables.{at}
use Rattle.wiring.specs.Joined.{renumbered, moved}
use Rattle.lists.proofs.Front.{front-none, front-next}
use Rattle.joinwords.proofs.Laws.{moved-zero}
use Rattle.joinwords.proofs.Written.{later, length-later, outputs-moved}
use Rattle.joinwords.proofs.put_outputs.Goals as goal

pub loop-k-init : goal.loop-k-init
loop-k-init c = front-none _ _ c.args.n (omega (arith, c.requires.2))

pub loop-k-preserved : goal.loop-k-preserved
loop-k-preserved c =
    rw c.loop-k.invariant (front-next _ _ c.args.n c.loop-k.k _ (omega (arith, c.requires.2, c.loop-k-test.true, length-later c.args.card.now (length c.args.inputs.now))) c.move_word.ensures)

pub returns : goal.returns
returns c =
    let a = c.args in
    let m = length a.inputs.now in
    let words = later a.card.now m in
    let e : c.loop-k.k ≡ length words = omega arith in (
      rw (length-later a.card.now m),
      rw (e, outputs-moved a.card.now m (moved (renumbered m (at a.inputs.now) a.start)) (moved-zero _)) at c.loop-k.invariant,
    )
