use Prim.Native.Nat.{◌/◌, ◌<◌}
use mathlib.Core.Path.{sym, ◌∙◌}
use native.Mathlib.Omega.{arith}
use lib.ListN.{length}
use Rattle.lists.proofs.Tables.{length-tab, tab-at}
use Rattle.word32.specs.Bytes.{word_at, words_of}
use Rattle.hostfaults.proofs.Laws.{high-next, high-over}
use Rattle.hostfaults.proofs.highest.Goals as goal

pub loop-i-preserved : goal.loop-i-preserved
loop-i-preserved c F =
    let l = c.loop-i in
    let b = c.args.faults.now in
    let inside : l.i < length b / 4 = omega (arith, c.loop-i-test.true) in
    let w = c.word_at.ensures ∙ sym (tab-at (word_at b) (length b / 4) l.i inside) in
    rw c.max-high.ensures (high-next F l.high (words_of b) l.i (rw (length-tab (word_at b) (length b / 4)) inside) w ∙ l.invariant F)

pub returns : goal.returns
returns c =
    let l = c.loop-i in
    let b = c.args.faults.now in
    record { tells = λ F. high-over F l.high (words_of b) l.i (rw (length-tab (word_at b) (length b / 4)) (omega arith)) ∙ l.invariant F }
