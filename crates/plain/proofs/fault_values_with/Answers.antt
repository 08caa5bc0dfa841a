-- `plain::fault_values_with` meets its contract. Assumes nothing.
use mathlib.Core.Path.{◌≡◌, refl, sym, ◌∙◌}
use native.Mathlib.Omega.{arith}
use Rattle.std.specs.Prelude.{Err}
use Rattle.std.proofs.Common.{rules}
use Rattle.answers.proofs.Ends.{stops, breaks, finishes, tab-filled}
use Rattle.faultlist.specs.Faults.{fault_tests}
use Rattle.faultlist.proofs.Tested.{values-room}
use Rattle.opening.proofs.Laws.{vector-asks}
use Rattle.plain.specs.Calls.{values_work}
use Rattle.plain.proofs.fault_values_with.Goals as goal

pub returns-in_err-c : goal.returns-in_err-c
returns-in_err-c c =
    let up : c.from_residual.result ≡ Err c.in_err-c.field-0.0 = search rules in
    rw up (stops _ (values_work (fault_tests _ _ _) _ _ _) _ _ (sym c.open_vector.ensures ∙ c.in_err-c.was))

pub returns-in_err-test_faults : goal.returns-in_err-test_faults
returns-in_err-test_faults c =
    let up : c.from_residual-in_err-test_faults.result ≡ Err c.in_err-test_faults.field-0.0 = search rules in
    rw up (breaks _ (values_work (fault_tests _ _ _) _ _ _) _ _ (sym c.open_vector.ensures ∙ c.in_ok-c.was)
    (sym c.test_faults.ensures ∙ c.in_err-test_faults.was))

pub work_out-requires : goal.work_out-requires
work_out-requires c =
    let w = vector-asks _ _ (sym c.open_vector.ensures ∙ c.in_ok-c.was) in
    let p = values-room _ _ _ _ (sym c.test_faults.ensures ∙ c.in_ok-test_faults.was) in
    (w.0, w.1, omega (arith, p, w.0.few-graphs, c.requires))

pub returns : goal.returns
returns c =
    let q = sym c.test_faults.ensures ∙ c.in_ok-test_faults.was in
    finishes _ (values_work (fault_tests _ _ _) _ _ _) _ _ (sym c.open_vector.ensures ∙ c.in_ok-c.was) q refl
    (tab-filled _ _ _ _ (values-room _ _ _ _ q) c.work_out.ensures)
