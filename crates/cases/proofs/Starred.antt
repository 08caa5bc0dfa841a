-- The rows of cases, by computing: row by row, one `refl` for each equation of `Holds`. Assumes nothing.
use mathlib.Core.Path.{refl}
use mathlib.Mathlib.Data.List.Defs.{Forall}
use Rattle.lists.specs.Tables.{chosen}
use Rattle.form.specs.Check.{checked_with}
use Rattle.answers.specs.Calls.{following, outcome}
use Rattle.answers.specs.Told.{reply_told}
use Rattle.layout.specs.Layout.{is_input, observable, size, reads, exits, decides}
use Rattle.cardtables.specs.Stems.{total}
use Rattle.testvectors.specs.Vectors.{bit, vector_verdict, list_verdict, lent_form}
use Rattle.value.specs.Settings.{faulty}
use Rattle.value.specs.Values.{value}
use Rattle.detect.specs.Detects.{changes, critical_at}
use Rattle.detect.specs.Grading.{mark, marked}
use Rattle.rules.specs.Rules.{critical_node}
use Rattle.plain.specs.Calls.{good_tests}
use Rattle.faultlist.specs.Faults.{fault_tests}
use Rattle.changes.specs.Calls.{change_tests, critical_tests}
use Rattle.grade.specs.Calls.{grade_tests}
use Rattle.cases.specs.Starred.{Starred}
use Rattle.cases.specs.Leads.{Leads}
use Rattle.cases.specs.Several.{Several}

-- one row, and those after it
infixr 20 ◌also◌
abbrev ◌also◌ : {A B : Type 0} → A → B → A × B
a also b = (a, b)

pub starred-hold : Starred
unfolding checked_with outcome following lent_form good_tests change_tests critical_tests grade_tests vector_verdict list_verdict
    is_input observable size reads exits decides bit faulty chosen changes critical_at total mark marked critical_node Forall
starred-hold =
    (refl, refl, refl, refl, refl, refl, refl, refl)
    also (refl, refl, refl, refl, refl, refl, refl, refl)
    also (refl, refl, refl)
    also (refl, refl, refl, refl, refl, refl, refl, refl)
    also (refl, refl, refl, refl, refl, refl, refl)
    also (refl, refl, refl, refl, refl, refl, refl)
    also (refl, refl, refl)
    also (refl, refl, refl, refl, refl, refl, refl, refl)
    also (refl, refl, refl, refl, refl, refl, refl)

pub leads-hold : Leads
unfolding checked_with outcome following lent_form good_tests change_tests critical_tests grade_tests vector_verdict list_verdict
    is_input observable size reads exits decides bit faulty chosen changes critical_at total mark marked critical_node Forall
leads-hold =
    (refl, refl, refl, refl, refl, refl, refl)
    also (refl, refl, refl, refl, refl, refl, refl)
    also (refl, refl, refl, refl, refl, refl, refl)
    also (refl, refl, refl, refl, refl, refl, refl)
    also (refl, refl, refl, refl, refl, refl, refl)

pub several-hold : Several
unfolding checked_with outcome following lent_form reply_told fault_tests vector_verdict is_input observable size reads exits decides bit faulty value Forall
several-hold =
    (refl, refl) also (refl, refl) also (refl, refl) also (refl, refl) also (refl, refl) also (refl, refl) also (refl, refl) also (refl, refl) also (refl, refl)
    also (refl, refl) also (refl, refl, refl) also (refl, refl, refl) also (refl, refl, refl) also (refl, refl, refl) also (refl, refl, refl)
    also (refl, refl, refl) also (refl, refl, refl) also (refl, refl, refl) also (refl, refl, refl)
