-- `cardhost::card_from_gates` meets its contract. Assumes nothing.
use native.Mathlib.Omega.{arith}
use Rattle.answers.proofs.Ends.{filled-held, filled-room}
use Rattle.inbytes.proofs.Laws.{in_bytes}
use Rattle.gates.specs.Calls.{to_card_outcome}
use Rattle.gates.proofs.Clip.{to-card-stands}
use Rattle.cardhost.proofs.Laws.{gates-read}
use Rattle.cardhost.proofs.card_from_gates.Goals as goal

pub answer_of-requires : goal.answer_of-requires
answer_of-requires c =
    let e = c.to_card_with-end.ensures in
    (rw e.reply (to-card-stands _ _), filled-held e.filled, omega (arith, filled-room e.filled))

pub returns : goal.returns
returns c =
    in_bytes (to_card_outcome _) _ c.to_card_with-end.ensures (gates-read _ _ c.filled-ws.ensures.0 c.read-gates.ensures) c.answer_of.ensures
