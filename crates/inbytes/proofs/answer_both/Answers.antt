-- `inbytes::answer_both` meets its contract. Assumes nothing.
use mathlib.Core.Path.{refl}
use Rattle.inbytes.proofs.Laws.{bytes_left}
use Rattle.inbytes.proofs.answer_both.Goals as goal

pub returns : goal.returns
returns c =
    let e = c.answer.ensures in
    (e.0, e.1, bytes_left _ _ _ _ refl c.bytes_of.ensures)
