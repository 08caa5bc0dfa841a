-- `grade::grade_with` meets its contract. Assumes nothing.
use mathlib.Core.Path.{◌≡◌, sym, ◌∙◌}
use Rattle.std.specs.Prelude.{Err}
use Rattle.std.proofs.Common.{rules}
use native.Mathlib.Omega.{arith}
use Rattle.answers.proofs.Ends.{both-stop, both-break, both_end, tab-filled}
use Rattle.grade.specs.Calls.{grade_work}
use Rattle.grade.proofs.Tests.{card-with-list, few-faults, grade-room}
use Rattle.grade.proofs.grade_with.Goals as goal

pub returns-in_err-test_grade : goal.returns-in_err-test_grade
returns-in_err-test_grade c =
    let up : c.from_residual-in_err-test_grade.result ≡ Err c.in_err-test_grade.field-0.0 = search rules in
    rw up (both-break _ (grade_work _ _ _ _) _ _ _ _ (sym c.open_list.ensures ∙ c.in_ok-c.was)
    (sym c.test_grade.ensures ∙ c.in_err-test_grade.was))

pub make_tables-tables-requires : goal.make_tables-tables-requires
make_tables-tables-requires c =
    (card-with-list _ _ (sym c.open_list.ensures ∙ c.in_ok-c.was)).shape

pub grade_list-marked-requires : goal.grade_list-marked-requires
grade_list-marked-requires c =
    let y = card-with-list _ _ (sym c.open_list.ensures ∙ c.in_ok-c.was) in
    let room = grade-room _ _ _ (sym c.test_grade.ensures ∙ c.in_ok-test_grade.was) in
    (y, c.make_tables-tables.ensures, omega (arith, room, few-faults y, c.requires), omega (arith, room, few-faults y, c.requires))

pub returns-in_err-c : goal.returns-in_err-c
returns-in_err-c c =
    let up : c.from_residual.result ≡ Err c.in_err-c.field-0.0 = search rules in
    rw up (both-stop _ (grade_work _ _ _ _) _ _ _ _ (sym c.open_list.ensures ∙ c.in_err-c.was))

pub returns : goal.returns
returns c =
    let sound = sym c.test_grade.ensures ∙ c.in_ok-test_grade.was in
    let room = grade-room _ _ _ sound in
    let graded = c.grade_list-marked.ensures in
    both_end _ (grade_work _ _ _ _) _ _ _ _ (sym c.open_list.ensures ∙ c.in_ok-c.was) sound graded.number
    (tab-filled _ _ _ _ room.0 graded.marks-put) (tab-filled _ _ _ _ room.1 graded.tallies-put)
