use mathlib.Core.Path.{◌≡◌, sym, ◌∙◌}
use Rattle.std.specs.Prelude.{Err}
use Rattle.std.proofs.Common.{rules}
use native.Mathlib.Omega.{arith}
use Rattle.gatecheck.proofs.Turns.{leads-start, leads-go, leads-stop, leads-end}
use Rattle.gatecheck.proofs.check_leads.Goals as goal

pub loop-k-init : goal.loop-k-init
loop-k-init c = (omega arith, leads-start _ _ _ _)

pub returns-in_err-check_lead : goal.returns-in_err-check_lead
returns-in_err-check_lead c =
    let up : c.from_residual.result ≡ Err c.in_err-check_lead.field-0.0 = search rules in
    let l = c.loop-k in
    let e = c.check_lead.ensures in
    let q = c.in_err-check_lead.was in
    up ∙ sym q ∙ e ∙ leads-stop _ _ _ _ l.k c.loop-k-test.true (sym e ∙ q) ∙ sym l.invariant.1

pub loop-k-preserved : goal.loop-k-preserved
loop-k-preserved c =
    let l = c.loop-k in
    (omega arith, l.invariant.1 ∙ leads-go _ _ _ _ l.k c.loop-k-test.true (sym c.check_lead.ensures ∙ c.in_ok-check_lead.was))

pub returns : goal.returns
returns c = let l = c.loop-k in sym (l.invariant.1 ∙ leads-end _ _ _ _ l.k (omega arith))
