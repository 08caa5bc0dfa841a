-- `textlines::Text::put_fault` meets its contract. Assumes nothing.
use Rattle.std.proofs.Common.{rules}
use Rattle.textlines.proofs.Digits.{few_5, few_10}
use Rattle.textlines.proofs.Puts.{grew_then}
use Rattle.textlines.specs.Text.{fault_line}
use Rattle.textlines.proofs.Text.put_fault.Goals as goal

pub returns : goal.returns
unfolding fault_line
returns c =
    (grew_then (grew_then (grew_then c.put_decimal.ensures c.put_mark.ensures.0) c.put_field.ensures) c.put.ensures, search (rules, few_5, few_10))
