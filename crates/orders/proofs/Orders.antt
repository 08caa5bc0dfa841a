-- The rows of the order of refusals, by computing: row by row, one `refl` for each equation of `Holds`. Assumes nothing.
use mathlib.Core.Path.{refl}
use mathlib.Mathlib.Data.List.Defs.{Forall}
use Rattle.form.specs.Check.{checked_with}
use Rattle.answers.specs.Calls.{following, outcome}
use Rattle.answers.specs.Told.{reply_told}
use Rattle.testvectors.specs.Vectors.{vector_verdict, list_verdict, lent_form}
use Rattle.plain.specs.Calls.{good_tests}
use Rattle.faultlist.specs.Faults.{fault_tests}
use Rattle.changes.specs.Calls.{change_tests, critical_tests}
use Rattle.grade.specs.Calls.{grade_tests}
use Rattle.wiring.specs.Calls.{counted_on}
use Rattle.wiring.specs.Joined.{join_tests}
use Rattle.gatelist.specs.Form.{gates_checked_with}
use Rattle.orders.specs.Orders.{Orders}

-- one row, and those after it
infixr 20 ◌also◌
abbrev ◌also◌ : {A B : Type 0} → A → B → A × B
a also b = (a, b)

pub orders-hold : Orders
unfolding checked_with outcome following counted_on join_tests gates_checked_with lent_form reply_told good_tests fault_tests change_tests critical_tests grade_tests
    vector_verdict list_verdict Forall
orders-hold =
    (refl, refl, refl) also (refl, refl, refl) also (refl, refl, refl) also (refl, refl, refl) also (refl, refl, refl) also (refl, refl, refl)
    also (refl, refl, refl) also (refl, refl, refl) also (refl, refl, refl) also (refl, refl, refl) also (refl, refl, refl) also (refl, refl, refl)
    also (refl, refl, refl) also (refl, refl, refl) also (refl, refl, refl) also (refl, refl, refl) also (refl, refl, refl) also (refl, refl, refl)
    also (refl, refl, refl) also (refl, refl, refl) also (refl, refl, refl) also (refl, refl, refl) also (refl, refl, refl) also (refl, refl, refl)
