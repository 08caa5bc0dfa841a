-- `report::report_words` meets its contract. Assumes nothing.
use mathlib.Core.Path.{◌≡◌, sym, ap, ◌∙◌}
use native.Mathlib.Omega.{arith}
use Rattle.std.proofs.Common.{rules}
use Rattle.answers.specs.Calls.{Lent, lends, whole}
use Rattle.opening.specs.Opened.{opened_list}
use Rattle.grade.proofs.Tests.{card-with-list}
use Rattle.report.proofs.Cases.{list_in_bytes, graded-refused, graded-done}
use Rattle.report.proofs.report_words.Goals as goal

pub report_accepted-requires : goal.report_accepted-requires
report_accepted-requires c =
    let same : lends c.whole.result ≡ whole c.args.card.now = search rules in
    let e = c.open_list.ensures ∙ ap (λ (w : Lent). opened_list w (list_in_bytes c.args.card.now c.args.vectors.now c.requires.0)) same in
    (card-with-list _ _ (sym e ∙ c.in-Ok.is), omega arith)

pub returns-in-Err : goal.returns-in-Err
returns-in-Err c =
    let same : lends c.whole.result ≡ whole c.args.card.now = search rules in
    let e = c.open_list.ensures ∙ ap (λ (w : Lent). opened_list w (list_in_bytes c.args.card.now c.args.vectors.now c.requires.0)) same in
    rw (graded-refused _ _ c.requires.0 (sym e ∙ c.in-Err.is), ← c.from.ensures) c.put_refused.ensures

pub returns-in-Ok : goal.returns-in-Ok
returns-in-Ok c =
    let same : lends c.whole.result ≡ whole c.args.card.now = search rules in
    let e = c.open_list.ensures ∙ ap (λ (w : Lent). opened_list w (list_in_bytes c.args.card.now c.args.vectors.now c.requires.0)) same in
    rw (graded-done _ _ c.requires.0 (sym e ∙ c.in-Ok.is)) c.report_accepted.ensures
