-- `report::report_accepted` meets its contract. Assumes nothing.
use Rattle.report.proofs.Cases.{grading-told}
use mathlib.Core.Path.{sym}
use Rattle.report.proofs.report_accepted.Goals as goal

pub returns : goal.returns
returns c =
    let t = c.total-total.ensures c.args.card.now c.make_tables-tables.ensures in
    rw (sym (grading-told c.grade_list-marked.ensures t)) c.put_grading.ensures
