-- `report::report_parts` meets its contract. Assumes nothing.
use Rattle.report.proofs.Cases.{words-front}
use lib.Seq.{length-take-le}
use mathlib.Core.Path.{sym}
use native.Mathlib.Omega.{arith}
use Rattle.report.proofs.report_parts.Goals as goal

pub slice_bounds-report_words-end : goal.slice_bounds-report_words-end
slice_bounds-report_words-end c = sym (length-take-le _ _ (omega arith))

pub returns : goal.returns
returns c =
    let x = c.words_of-n.ensures in
    rw (← words-front _ _ _ _ x.0 x.1) c.report_words.ensures
