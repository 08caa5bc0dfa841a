-- `cardhost::card_check` meets its contract. Assumes nothing.
use native.Mathlib.Omega.{arith}
use borrow.Author.Rules.{rules}
use Rattle.answers.proofs.Ends.{filled-held, filled-room}
use Rattle.answers.proofs.Positions.{outcome-stands}
use Rattle.form.proofs.Positions.{check-low}
use Rattle.inbytes.specs.Calls.{room}
use Rattle.inbytes.proofs.Laws.{check-read, in_bytes}
use Rattle.cardcounts.specs.Calls.{check_work, check_outcome}
use Rattle.cardhost.proofs.card_check.Goals as goal

pub answer_of-requires : goal.answer_of-requires
answer_of-requires c =
    let e = c.check_counts-end.ensures in
    (rw e.reply (outcome-stands _ (check_work (room c.args.numbers.now)) (check-low _ _) (λ c. search rules)), filled-held e.filled, omega (arith, filled-room e.filled))

pub returns : goal.returns
returns c =
    in_bytes (check_outcome _) _ c.check_counts-end.ensures (check-read _ c.filled-ws.ensures.0 c.read-card.ensures (check_work (room c.args.numbers.now))) c.answer_of.ensures
