-- `changes::critical_nodes_with` meets its contract. Assumes nothing.
use mathlib.Core.Path.{◌≡◌, refl, sym, ◌∙◌}
use Rattle.std.specs.Prelude.{Err}
use Rattle.std.proofs.Common.{rules}
use native.Mathlib.Omega.{arith}
use Rattle.answers.proofs.Ends.{stops, breaks, finishes, tab-filled}
use Rattle.opening.proofs.Laws.{vector-asks}
use Rattle.changes.specs.Calls.{critical_work}
use Rattle.changes.proofs.Laws.{critical-room}
use Rattle.changes.proofs.critical_nodes_with.Goals as goal

pub returns-in_err-test_critical : goal.returns-in_err-test_critical
returns-in_err-test_critical c =
    let up : c.from_residual-in_err-test_critical.result ≡ Err c.in_err-test_critical.field-0.0 = search rules in
    rw up (breaks _ (critical_work _ _ _) _ _ (sym c.open_vector.ensures ∙ c.in_ok-c.was)
    (sym c.test_critical.ensures ∙ c.in_err-test_critical.was))

pub work_out_critical-requires : goal.work_out_critical-requires
work_out_critical-requires c =
    let w = vector-asks _ _ (sym c.open_vector.ensures ∙ c.in_ok-c.was) in
    let p = critical-room _ _ (sym c.test_critical.ensures ∙ c.in_ok-test_critical.was) in
    (w.0, w.1, omega (arith, p, w.0.few-nodes, c.requires))

pub returns-in_err-c : goal.returns-in_err-c
returns-in_err-c c =
    let up : c.from_residual.result ≡ Err c.in_err-c.field-0.0 = search rules in
    rw up (stops _ (critical_work _ _ _) _ _ (sym c.open_vector.ensures ∙ c.in_err-c.was))

pub returns : goal.returns
returns c =
    let q = sym c.test_critical.ensures ∙ c.in_ok-test_critical.was in
    finishes _ (critical_work _ _ _) _ _ (sym c.open_vector.ensures ∙ c.in_ok-c.was) q refl
    (tab-filled _ _ _ _ (critical-room _ _ q) c.work_out_critical.ensures)
