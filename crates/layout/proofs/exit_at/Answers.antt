-- `layout::exit_at` meets its contract. Assumes nothing.
use mathlib.Core.Path.{sym, ◌∙◌}
use Rattle.layout.proofs.NodeNumbers.{exit-one}
use Rattle.layout.proofs.exit_at.Goals as goal

pub returns-then-decision-eq0 : goal.returns-then-decision-eq0
returns-then-decision-eq0 c = c.exit0.ensures ∙ rw (c.get-w.ensures, c.if-decision-eq0.true)

pub returns : goal.returns
returns c = c.exit1.ensures ∙ rw c.get-w.ensures (sym (exit-one _ _ c.if-decision-eq0.false))
