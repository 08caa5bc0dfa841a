-- `textlines::Text::put_card` meets its contract. Assumes nothing.
use Rattle.std.proofs.Common.{rules}
use Rattle.textlines.proofs.Puts.{grew_then}
use Rattle.textlines.specs.Text.{card_line}
use Rattle.textlines.proofs.Text.put_card.Goals as goal

pub returns : goal.returns
unfolding card_line
returns c = (grew_then (grew_then c.put.ensures c.put_counts.ensures.0) c.put-2.ensures, search rules)
