-- `cardhost::card_grade` meets its contract. Assumes nothing.
use native.Mathlib.Omega.{arith}
use borrow.Author.Rules.{rules}
use Rattle.answers.proofs.Ends.{filled-held, filled-room}
use Rattle.opening.proofs.Laws.{list-stands}
use Rattle.inbytes.proofs.Laws.{list_read, in-bytes-both}
use Rattle.grade.specs.Calls.{grade_tests, grade_work, grade_outcome}
use Rattle.cardhost.proofs.card_grade.Goals as goal

pub answer_both_of-requires : goal.answer_both_of-requires
unfolding grade_tests
answer_both_of-requires c =
    let e = c.grade_with-end.ensures in (
      rw e.first.reply (list-stands _ _ (grade_work _ _ _ _) (λ c. search rules)),
      filled-held e.first.filled,
      omega (arith, filled-room e.first.filled),
      filled-held e.second,
      omega (arith, filled-room e.second),
    )

pub returns : goal.returns
returns c =
    let same = list_read _ _ c.filled-ws.ensures.0 c.read-card.ensures (grade_work _ _) in
    in-bytes-both (grade_outcome _ _) _ _ c.grade_with-end.ensures same c.answer_both_of.ensures
