-- `value::exit_taken` meets its contract. Assumes nothing.
use mathlib.Core.Path.{◌∙◌}
use Rattle.value.proofs.exit_taken.Goals as goal

pub returns : goal.returns
returns c = c.exit_at.ensures ∙ rw c.set_at.ensures
