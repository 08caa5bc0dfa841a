-- `textlines::Text::put_counts` meets its contract. Assumes nothing.
use Rattle.std.proofs.Common.{rules}
use Rattle.textlines.proofs.Digits.{few_20}
use Rattle.textlines.proofs.Puts.{grew_then}
use Rattle.textlines.proofs.Text.put_counts.Goals as goal

pub returns : goal.returns
returns c =
    (grew_then (grew_then (grew_then c.put_field.ensures c.put_field-2.ensures) c.put_field-3.ensures) c.put_field-4.ensures, search (rules, few_20))
