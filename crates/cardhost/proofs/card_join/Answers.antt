-- `cardhost::card_join` meets its contract. Assumes nothing.
use native.Mathlib.Omega.{arith}
use Rattle.answers.proofs.Ends.{filled-held, filled-room}
use Rattle.inbytes.specs.Calls.{of_bytes, room}
use Rattle.inbytes.proofs.Laws.{in_bytes}
use Rattle.join.specs.Calls.{join_outcome}
use Rattle.join.proofs.Clip.{join_stands}
use Rattle.cardhost.proofs.Laws.{join-read}
use Rattle.cardhost.proofs.card_join.Goals as goal

pub answer_of-requires : goal.answer_of-requires
answer_of-requires c =
    let e = c.join_with-end.ensures in
    (rw e.reply (join_stands _ _ _ (room c.args.card.now)), filled-held e.filled, omega (arith, filled-room e.filled))

pub returns : goal.returns
returns c =
    let same = join-read _ _ _ (room c.args.card.now) c.filled-wa.ensures.0 c.filled-wb.ensures.0 c.filled-ws.ensures.0
    c.read-a.ensures c.read-b.ensures c.read-wires.ensures in
    in_bytes (join_outcome (of_bytes c.args.a.now) (of_bytes c.args.b.now) (of_bytes c.args.wires.now)) _ c.join_with-end.ensures same c.answer_of.ensures
