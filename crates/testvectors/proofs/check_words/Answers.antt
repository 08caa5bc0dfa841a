use Prim.Native.Nat.{◌-◌}
use mathlib.Core.Path.{◌≡◌, sym, ◌∙◌}
use Rattle.std.specs.Prelude.{Err}
use Rattle.std.proofs.Common.{rules}
use native.Mathlib.Nat.{mod-lt}
use native.Mathlib.Omega.{arith}
use Rattle.testvectors.proofs.Laws.{width_some, word-used}
use Rattle.testvectors.proofs.Turns.{words-end, words-go, words-stop}
use Rattle.testvectors.proofs.check_words.Goals as goal

pub loop-p-init : goal.loop-p-init
loop-p-init c =
    let n = c.length-n.result in
    let e : n - 0 ≡ n = omega arith in
    (omega arith, rw e)

pub nonzero_rem-p : goal.nonzero_rem-p
nonzero_rem-p c =
    rw c.width-w.ensures (width_some _ c.requires.0)

pub check_word-requires : goal.check_word-requires
check_word-requires c =
    let h = rw (← c.width-w.ensures) at (width_some _ c.requires.0) in
    (c.requires.1, word-used _ _ (rw (← c.width-w.ensures) (mod-lt _ h)))

pub returns-in_err-check_word : goal.returns-in_err-check_word
returns-in_err-check_word c =
    let up : c.from_residual.result ≡ Err c.in_err-check_word.field-0.0 = search rules in
    let q = sym c.check_word.ensures ∙ c.in_err-check_word.was in
    up ∙ rw (← c.length-n.ensures)
    (sym (c.loop-p.invariant.1 ∙ words-stop _ _ _ _ c.loop-p-test.true _ (rw (c.width-w.ensures, c.word.ensures) at q)))

pub loop-p-preserved : goal.loop-p-preserved
loop-p-preserved c =
    let q = sym c.check_word.ensures ∙ c.in_ok-check_word.was in
    (omega arith, c.loop-p.invariant.1 ∙ words-go _ _ _ _ c.loop-p-test.true (rw (c.width-w.ensures, c.word.ensures) at q))

pub returns : goal.returns
returns c =
    rw (← c.length-n.ensures) (sym (c.loop-p.invariant.1 ∙ words-end _ _ _ _ (omega arith)))
