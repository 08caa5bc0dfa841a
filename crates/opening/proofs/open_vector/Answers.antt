-- `opening::open_vector` meets its contract. Assumes nothing.
use mathlib.Core.Path.{sym, ◌∙◌}
use Rattle.form.proofs.Checked.{check-accepts, some-inputs}
use Rattle.opening.proofs.open_vector.Goals as goal

pub check_vector-requires : goal.check_vector-requires
check_vector-requires c =
    some-inputs (check-accepts _ _ _ (sym c.check_lent.ensures ∙ c.in_ok-c.was))
