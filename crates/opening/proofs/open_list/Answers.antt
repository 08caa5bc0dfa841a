-- `opening::open_list` meets its contract. Assumes nothing.
use mathlib.Core.Path.{sym, ◌∙◌}
use Rattle.form.proofs.Checked.{check-accepts, some-inputs}
use Rattle.opening.proofs.open_list.Goals as goal

pub check_list-requires : goal.check_list-requires
check_list-requires c =
    some-inputs (check-accepts _ _ _ (sym c.check_lent.ensures ∙ c.in_ok-c.was))
