-- `join::join_with` meets its contract. Assumes nothing.
use mathlib.Core.Path.{◌≡◌, sym, ◌∙◌}
use native.Mathlib.Omega.{arith}
use Rattle.std.specs.Prelude.{Err}
use Rattle.std.proofs.Common.{rules}
use Rattle.answers.proofs.Ends.{stops, first_stops, first_goes}
use Rattle.form.proofs.Checked.{check-accepts}
use Rattle.wiring.proofs.Calls.{on-accepted}
use Rattle.join.proofs.join_with.Goals as goal

pub returns-in_err-ca : goal.returns-in_err-ca
returns-in_err-ca c =
    let up : c.from_residual.result ≡ Err c.in_err-ca.field-0.0 = search rules in
    rw up (first_stops _ _ _ _ (sym c.check_lent.ensures ∙ c.in_err-ca.was))

pub check_second-requires : goal.check_second-requires
check_second-requires c =
    let x = check-accepts _ _ _ (sym c.check_lent.ensures ∙ c.in_ok-ca.was) in
    omega (arith, x.long, x.shape.few-graphs, x.shape.few-nodes)

pub returns-in_err-cb : goal.returns-in_err-cb
returns-in_err-cb c =
    let up : c.from_residual-in_err-cb.result ≡ Err c.in_err-cb.field-0.0 = search rules in
    rw up (first_goes _ _ _ _ (sym c.check_lent.ensures ∙ c.in_ok-ca.was)
    (stops _ _ _ _ (sym c.check_second.ensures ∙ c.in_err-cb.was)))

pub join_accepted-requires : goal.join_accepted-requires
join_accepted-requires c = (
  check-accepts _ _ _ (sym c.check_lent.ensures ∙ c.in_ok-ca.was),
  check-accepts _ _ _ (on-accepted _ _ (sym c.check_second.ensures ∙ c.in_ok-cb.was)),
  c.requires,
)

pub returns : goal.returns
returns c =
    first_goes _ _ _ _ (sym c.check_lent.ensures ∙ c.in_ok-ca.was)
    (rw (sym c.check_second.ensures ∙ c.in_ok-cb.was) c.join_accepted.ensures)
