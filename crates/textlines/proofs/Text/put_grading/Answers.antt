-- `textlines::Text::put_grading` meets its contract. Assumes nothing.
use Rattle.textlines.proofs.Puts.{grew_then}
use Rattle.textlines.specs.Text.{grading_text}
use Rattle.textlines.proofs.Text.put_grading.Goals as goal

pub returns : goal.returns
unfolding grading_text
returns c = grew_then (grew_then c.put_card.ensures.0 c.put_faults.ensures.0) c.put_line.ensures
