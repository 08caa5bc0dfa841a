-- `textlines::Text::put_line` meets its contract. Assumes nothing.
use Rattle.textlines.proofs.Puts.{grew_then}
use Rattle.textlines.specs.Text.{line}
use Rattle.textlines.proofs.Text.put_line.Goals as goal

pub returns : goal.returns
unfolding line
returns c =
    grew_then (grew_then (grew_then c.put.ensures c.put_field.ensures) c.put_field-2.ensures) c.put-2.ensures
