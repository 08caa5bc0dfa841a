-- `cardhost::card_fault_values` meets its contract. Assumes nothing.
use mathlib.Core.Path.{ap, ◌∙◌}
use native.Mathlib.Omega.{arith}
use Rattle.answers.proofs.Ends.{filled-held, filled-room}
use Rattle.value.specs.Settings.{faulty}
use Rattle.faultlist.specs.Faults.{fault_tests}
use Rattle.opening.proofs.Laws.{vector-stands}
use Rattle.inbytes.proofs.Laws.{vector-read, in_bytes}
use Rattle.hostfaults.proofs.Laws.{fault-low}
use Rattle.plain.specs.Calls.{values_work, fault_outcome}
use Rattle.plain.proofs.Lists.{one-call}
use Rattle.cardhost.proofs.card_fault_values.Goals as goal

pub answer_of-requires : goal.answer_of-requires
answer_of-requires c =
    let e = c.fault_values_with-end.ensures in
    (rw e.reply (vector-stands _ _ (values_work (fault_tests _ _ _) _ _ _) (fault-low _ _ _)), filled-held e.filled, omega (arith, filled-room e.filled))

pub returns : goal.returns
returns c =
    let f = c.lend_faults-list.ensures in
    let same = vector-read _ _ c.filled-ws.ensures.0 c.filled-x.ensures.0 c.read-card.ensures c.read-vector.ensures (values_work (fault_tests _ _ _) (faulty _))
    ∙ one-call _ _ (fault_tests _ _ _) (fault_tests _ _ _) _ _ (λ c. rw f.left (f.tested _ _ c)) (λ c s. ap faulty (f.passed _ _ c s)) in
    in_bytes (fault_outcome _ _ _) _ c.fault_values_with-end.ensures same c.answer_of.ensures
