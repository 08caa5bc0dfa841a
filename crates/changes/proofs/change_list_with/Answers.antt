-- `changes::change_list_with` meets its contract. Assumes nothing.
use mathlib.Core.Path.{◌≡◌, sym, ◌∙◌}
use Rattle.std.specs.Prelude.{Err}
use Rattle.std.proofs.Common.{rules}
use native.Mathlib.Omega.{arith}
use Rattle.answers.proofs.Ends.{stops, breaks, finishes, chosen-filled}
use Rattle.opening.proofs.Laws.{vector-asks}
use Rattle.changes.specs.Calls.{change_work}
use Rattle.changes.proofs.Laws.{change-room}
use Rattle.changes.proofs.change_list_with.Goals as goal

pub returns-in_err-test_change : goal.returns-in_err-test_change
returns-in_err-test_change c =
    let up : c.from_residual-in_err-test_change.result ≡ Err c.in_err-test_change.field-0.0 = search rules in
    rw up (breaks _ (change_work _ _ _ _) _ _ (sym c.open_vector.ensures ∙ c.in_ok-c.was)
    (sym c.test_change.ensures ∙ c.in_err-test_change.was))

pub work_out_changes-n-requires : goal.work_out_changes-n-requires
work_out_changes-n-requires c =
    let w = vector-asks _ _ (sym c.open_vector.ensures ∙ c.in_ok-c.was) in
    let p = change-room _ _ _ (sym c.test_change.ensures ∙ c.in_ok-test_change.was) in
    (w.0, w.1, p.0, omega (arith, p.1, w.0.few-graphs, c.requires))

pub returns-in_err-c : goal.returns-in_err-c
returns-in_err-c c =
    let up : c.from_residual.result ≡ Err c.in_err-c.field-0.0 = search rules in
    rw up (stops _ (change_work _ _ _ _) _ _ (sym c.open_vector.ensures ∙ c.in_err-c.was))

pub returns : goal.returns
returns c =
    let q = sym c.test_change.ensures ∙ c.in_ok-test_change.was in
    let o = c.work_out_changes-n.ensures in
    finishes _ (change_work _ _ _ _) _ _ (sym c.open_vector.ensures ∙ c.in_ok-c.was) q o.0 (chosen-filled _ _ _ _ (change-room _ _ _ q).1 o)
