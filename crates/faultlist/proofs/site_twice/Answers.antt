use mathlib.Core.Path.{sym, ◌∙◌}
use native.Mathlib.Omega.{arith}
use Rattle.faultlist.proofs.Tested.{twice-over, twice-hit, twice-next}
use Rattle.faultlist.proofs.site_twice.Goals as goal

pub returns-then-at_site : goal.returns-then-at_site
returns-then-at_site c =
    let l = c.loop-i in
    sym (l.invariant ∙ twice-hit c.args.faults.now l.i c.loop-i-test.true (sym c.at_site.ensures ∙ c.if-at_site.true))

pub loop-i-preserved : goal.loop-i-preserved
loop-i-preserved c =
    let l = c.loop-i in
    l.invariant ∙ twice-next c.args.faults.now l.i c.loop-i-test.true (sym c.at_site.ensures ∙ c.if-at_site.false)

pub returns : goal.returns
returns c =
    let l = c.loop-i in
    sym (l.invariant ∙ twice-over _ l.i (omega arith))
