-- `inbytes::answer` meets its contract. Assumes nothing.
use mathlib.Core.Path.{refl, ◌∙◌}
use Rattle.inbytes.proofs.Laws.{bytes_left}
use Rattle.inbytes.proofs.answer.Goals as goal

pub returns-in-Ok : goal.returns-in-Ok
returns-in-Ok c = (rw c.in-Ok.is, bytes_left _ _ _ _ refl c.bytes_of.ensures)

pub returns-in-Err : goal.returns-in-Err
returns-in-Err c = (c.refusal.ensures ∙ rw c.in-Err.is, bytes_left _ _ _ _ refl c.bytes_of.ensures)
