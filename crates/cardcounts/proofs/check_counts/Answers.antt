-- `cardcounts::check_counts` meets its contract. Assumes nothing.
use mathlib.Core.Path.{◌≡◌, refl, sym, ◌∙◌}
use native.Mathlib.Omega.{arith}
use Rattle.std.specs.Prelude.{Err}
use Rattle.std.proofs.Common.{rules}
use Rattle.answers.proofs.Ends.{stops, breaks, finishes}
use Rattle.answers.proofs.Tests.{room-enough}
use Rattle.form.proofs.Checked.{check-accepts, few-observable}
use Rattle.cardcounts.specs.Calls.{check_work}
use Rattle.cardcounts.proofs.check_counts.Goals as goal

pub returns-in_err-c : goal.returns-in_err-c
returns-in_err-c c =
    let up : c.from_residual.result ≡ Err c.in_err-c.field-0.0 = search rules in
    rw up (stops _ (check_work c.args.room) _ _ (sym c.check_lent.ensures ∙ c.in_err-c.was))

pub returns-in_err-test_room : goal.returns-in_err-test_room
returns-in_err-test_room c =
    let up : c.from_residual-in_err-test_room.result ≡ Err c.in_err-test_room.field-0.0 = search rules in
    rw up (breaks _ (check_work c.args.room) _ _ (sym c.check_lent.ensures ∙ c.in_ok-c.was) (sym c.test_room.ensures ∙ c.in_err-test_room.was))

pub put_counts-requires : goal.put_counts-requires
put_counts-requires c =
    let s = (check-accepts _ _ _ (sym c.check_lent.ensures ∙ c.in_ok-c.was)).shape in
    let room = room-enough 5 c.args.room (sym c.test_room.ensures ∙ c.in_ok-test_room.was) in
    omega (arith, s.inputs_in, s.few-graphs, s.few-nodes, s.all-faults, few-observable s, room, c.requires)

pub returns : goal.returns
returns c =
    let sound = sym c.test_room.ensures ∙ c.in_ok-test_room.was in
    finishes _ (check_work c.args.room) _ _ (sym c.check_lent.ensures ∙ c.in_ok-c.was) sound refl
    (record { count = refl; fits = room-enough 5 c.args.room sound; buffer = c.put_counts.ensures })
