-- `textlines::Text::put_field` meets its contract. Assumes nothing.
use Rattle.textlines.proofs.Puts.{grew_then}
use Rattle.textlines.proofs.Text.put_field.Goals as goal

pub returns : goal.returns
returns c = grew_then c.put.ensures c.put_decimal.ensures
