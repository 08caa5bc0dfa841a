-- `join::check_second` meets its contract. Assumes nothing.
use mathlib.Core.Path.{sym, ◌∙◌}
use native.Mathlib.Omega.{arith}
use Rattle.form.proofs.Positions.{check-position}
use Rattle.wiring.proofs.Calls.{refused-on, accepted-on}
use Rattle.join.proofs.check_second.Goals as goal

-- a refusal stands far below 2 ^ 32
pub overflow_add-result : goal.overflow_add-result
overflow_add-result c =
    let b = c.args.b in
    omega (arith, check-position b.words.now b.extra (sym c.check_lent.ensures ∙ c.in-Err.is), c.requires)

pub returns-in-Err : goal.returns-in-Err
returns-in-Err c = sym (refused-on _ _ (sym c.check_lent.ensures ∙ c.in-Err.is))

pub returns-in-Ok : goal.returns-in-Ok
returns-in-Ok c = sym (accepted-on _ _ (sym c.check_lent.ensures ∙ c.in-Ok.is))
