-- `gates::to_card_with` meets its contract. Assumes nothing.
use mathlib.Core.Path.{◌≡◌, sym, ◌∙◌}
use Rattle.std.specs.Prelude.{Err}
use Rattle.std.proofs.Common.{rules}
use native.Mathlib.Omega.{arith}
use Rattle.answers.proofs.Ends.{stops, breaks, finishes}
use Rattle.answers.proofs.Tests.{room-enough}
use Rattle.gatelist.proofs.Sound.{gates-check-accepts}
use Rattle.gatelist.proofs.Lines.{card-long}
use Rattle.gates.proofs.to_card_with.Goals as goal

pub overflow_mul-c : goal.overflow_mul-c
overflow_mul-c c =
    omega (arith, (gates-check-accepts _ _ (sym c.check_lent.ensures ∙ c.in_ok-c.was)).few-leads)

pub overflow_add-c : goal.overflow_add-c
overflow_add-c c =
    let l = gates-check-accepts _ _ (sym c.check_lent.ensures ∙ c.in_ok-c.was) in
    omega (arith, l.few-lines, l.few-leads)

pub returns-in_err-test_room : goal.returns-in_err-test_room
returns-in_err-test_room c =
    let e = sym c.check_lent.ensures ∙ c.in_ok-c.was in
    let up : c.from_residual-in_err-test_room.result ≡ Err c.in_err-test_room.field-0.0 = search rules in
    rw up (breaks _ _ _ _ e (rw (card-long (gates-check-accepts _ _ e)) (sym c.test_room.ensures ∙ c.in_err-test_room.was)))

pub write_card-n-requires : goal.write_card-n-requires
write_card-n-requires c =
    let l = gates-check-accepts _ _ (sym c.check_lent.ensures ∙ c.in_ok-c.was) in
    let room = room-enough _ _ (sym c.test_room.ensures ∙ c.in_ok-test_room.was) in
    (l, omega (arith, l.few-lines, l.few-leads, room, c.requires))

pub returns-in_err-c : goal.returns-in_err-c
returns-in_err-c c =
    let up : c.from_residual.result ≡ Err c.in_err-c.field-0.0 = search rules in
    rw up (stops _ _ _ _ (sym c.check_lent.ensures ∙ c.in_err-c.was))

pub returns : goal.returns
returns c =
    let e = sym c.check_lent.ensures ∙ c.in_ok-c.was in
    let long = card-long (gates-check-accepts _ _ e) in
    let o = c.write_card-n.ensures in
    let sound = sym c.test_room.ensures ∙ c.in_ok-test_room.was in
    finishes _ _ _ _ e (rw long sound) o.0 (record { count = o.0; fits = rw long (room-enough _ _ sound); buffer = o.1 })
