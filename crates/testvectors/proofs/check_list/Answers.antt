-- `testvectors::check_list` meets its contract. Assumes nothing.
use mathlib.Core.Path.{◌≡◌, sym, ◌∙◌}
use Rattle.std.specs.Prelude.{Err}
use Rattle.std.proofs.Common.{rules}
use Rattle.testvectors.specs.Vectors.{list_verdict}
use Rattle.testvectors.proofs.Laws.{list-stops, list-goes}
use Rattle.testvectors.proofs.Lists.{form-extra, form-whole}
use Rattle.testvectors.specs.Lists.{lent_list}
use Rattle.testvectors.proofs.check_list.Goals as goal

pub returns-then-extra-gt0 : goal.returns-then-extra-gt0
returns-then-extra-gt0 c = form-extra _ _ (lent_list c.args.list) (rw c.extra.ensures at c.if-extra-gt0.true)

pub returns-in_err-test_list : goal.returns-in_err-test_list
returns-in_err-test_list c =
    let up : c.from_residual.result ≡ Err c.in_err-test_list.field-0.0 = search rules in
    up ∙ list-stops _ _ (rw (← c.length.ensures) (sym c.test_list.ensures ∙ c.in_err-test_list.was))
    ∙ form-whole list_verdict _ (lent_list c.args.list) (rw c.extra.ensures at c.if-extra-gt0.false)

pub returns : goal.returns
returns c =
    c.check_words.ensures
    ∙ list-goes _ _ (rw (← c.length.ensures) (sym c.test_list.ensures ∙ c.in_ok-test_list.was))
    ∙ form-whole list_verdict _ (lent_list c.args.list) (rw c.extra.ensures at c.if-extra-gt0.false)
