-- `cardhost::card_critical_nodes` meets its contract. Assumes nothing.
use native.Mathlib.Omega.{arith}
use borrow.Author.Rules.{rules}
use Rattle.answers.proofs.Ends.{filled-held, filled-room}
use Rattle.opening.proofs.Laws.{vector-stands}
use Rattle.inbytes.proofs.Laws.{vector-read, in_bytes}
use Rattle.changes.specs.Calls.{critical_tests, critical_work, critical_outcome}
use Rattle.cardhost.proofs.card_critical_nodes.Goals as goal

pub answer_of-requires : goal.answer_of-requires
unfolding critical_tests
answer_of-requires c =
    let e = c.critical_nodes_with-end.ensures in
    (rw e.reply (vector-stands _ _ (critical_work _ _ _) (λ c. search rules)), filled-held e.filled, omega (arith, filled-room e.filled))

pub returns : goal.returns
returns c =
    let same = vector-read _ _ c.filled-ws.ensures.0 c.filled-x.ensures.0 c.read-card.ensures c.read-vector.ensures (critical_work _) in
    in_bytes (critical_outcome _ _) _ c.critical_nodes_with-end.ensures same c.answer_of.ensures
