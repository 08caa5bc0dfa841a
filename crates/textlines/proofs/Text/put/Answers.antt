-- `textlines::Text::put` meets its contract. Assumes nothing.
use Rattle.std.proofs.Common.{refl, arith}
use Rattle.textlines.proofs.Puts.{puts_part}
use Rattle.textlines.proofs.Text.put.Goals as goal

pub returns : goal.returns
returns c = record { same = refl; puts = puts_part _ _ _ c.requires (omega arith) c.copy_from_slice.ensures.after }
