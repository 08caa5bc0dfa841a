-- `cardhost::card_change_list` meets its contract. Assumes nothing.
use native.Mathlib.Omega.{arith}
use borrow.Author.Rules.{rules}
use Rattle.answers.proofs.Ends.{filled-held, filled-room}
use Rattle.opening.proofs.Laws.{vector-stands}
use Rattle.inbytes.proofs.Laws.{vector-read, in_bytes}
use Rattle.changes.specs.Calls.{change_tests, change_work, change_outcome}
use Rattle.cardhost.proofs.card_change_list.Goals as goal

pub answer_of-requires : goal.answer_of-requires
unfolding change_tests
answer_of-requires c =
    let e = c.change_list_with-end.ensures in
    (rw e.reply (vector-stands _ _ (change_work _ _ _ _) (λ c. search rules)), filled-held e.filled, omega (arith, filled-room e.filled))

pub returns : goal.returns
returns c =
    let same = vector-read _ _ c.filled-ws.ensures.0 c.filled-x.ensures.0 c.read-card.ensures c.read-vector.ensures (change_work _ _) in
    in_bytes (change_outcome _ _ _) _ c.change_list_with-end.ensures same c.answer_of.ensures
