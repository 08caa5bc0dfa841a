-- `report::report` meets its contract. Assumes nothing.
use Rattle.std.proofs.Common.{rules}
use Rattle.report.proofs.Cases.{text-none}
use Rattle.textlines.proofs.Puts.{puts-front}
use Rattle.report.proofs.report.Goals.{then-input-lt4, else-input-lt4}
use Rattle.report.proofs.report.Goals as goal

pub returns : goal.returns
returns c = elim c.if-input-lt4.branch [
  | then-input-lt4 w ↦ let g = puts-front w.put.ensures.puts in rw (text-none _ w.if-input-lt4.true) (search (rules, g))
  | else-input-lt4 w ↦ let g = puts-front w.report_counted.ensures.puts in search (rules, g)
]
