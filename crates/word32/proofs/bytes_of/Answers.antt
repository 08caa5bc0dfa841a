use mathlib.Core.Path.{sym, ◌∙◌}
use native.Mathlib.Omega.{arith}
use Rattle.lists.proofs.Tables.{over_none}
use Rattle.word32.proofs.Bytes.{over_word}
use Rattle.word32.proofs.bytes_of.Goals as goal

pub loop-i-init : goal.loop-i-init
loop-i-init c = sym (over_none _ _)

pub loop-i-preserved : goal.loop-i-preserved
loop-i-preserved c =
    let l = c.loop-i in
    let fits = c.type_inv.words l.i in
    c.put_word.ensures ∙ (rw l.invariant (over_word _ _ l.i (omega arith) (omega (arith, fits))))
