-- `faultlist::test_faults` meets its contract. Assumes nothing.
use mathlib.Core.Path.{sym, ◌∙◌}
use native.Mathlib.Omega.{arith}
use Rattle.faultlist.proofs.Tested.{high-told, odd-told, many-told, twice-told, room-told}
use Rattle.faultlist.proofs.test_faults.Goals as goal

pub returns-then-too_high : goal.returns-then-too_high
returns-then-too_high c = high-told _ _ _ _ (sym c.too_high.ensures ∙ c.if-too_high.true)

pub returns-then-faults-gt0 : goal.returns-then-faults-gt0
returns-then-faults-gt0 c =
    odd-told _ _ _ _ (sym c.too_high.ensures ∙ c.if-too_high.false) (omega (arith, c.if-faults-gt0.true))

pub returns-then-faults-gt8 : goal.returns-then-faults-gt8
returns-then-faults-gt8 c =
    let low = sym c.too_high.ensures ∙ c.if-too_high.false in
    many-told _ _ _ _ low c.if-faults-gt0.false (omega (arith, c.if-faults-gt8.true))

pub returns-then-site_twice : goal.returns-then-site_twice
returns-then-site_twice c =
    let low = sym c.too_high.ensures ∙ c.if-too_high.false in
    twice-told _ _ _ _ low c.if-faults-gt0.false (omega (arith, c.if-faults-gt8.false)) (sym c.site_twice.ensures ∙ c.if-site_twice.true)

pub returns : goal.returns
returns c =
    let low = sym c.too_high.ensures ∙ c.if-too_high.false in
    let apart = sym c.site_twice.ensures ∙ c.if-site_twice.false in
    c.test_room.ensures ∙ room-told _ _ _ _ low c.if-faults-gt0.false (omega (arith, c.if-faults-gt8.false)) apart
