-- FROM THE CALL TO THE THEOREM: where the call is done, by words or in bytes, what the buffer gets is both cards. Assumes nothing.
use Prim.Native.Nat.{ℕ}
use mathlib.Core.Path.{◌≡◌, ap, ◌∙◌}
use lib.ListN.{length}
use Rattle.std.specs.Prelude.{Ok}
use Rattle.answers.specs.Calls.{Lent, Outcome, outcome}
use Rattle.answers.proofs.Calls.{call-went, call-followed}
use Rattle.form.specs.Check.{lent_check}
use Rattle.form.proofs.Checked.{whole-accepted}
use Rattle.wiring.specs.Calls.{counted_on}
use Rattle.wiring.proofs.Calls.{on-accepted}
use Rattle.wiring.proofs.Both.{joined-both}
use Rattle.join.specs.Calls.{joined_words, join_work, join_outcome}
use Rattle.join.specs.Done.{Made}
use Rattle.join.proofs.Laws.{wires-sound}

pub join-done : (a b wires : Lent) (room n : ℕ) → (join_outcome a b wires room).reply ≡ Ok n → Made a b wires room n
join-done a b wires room n e =
    let second = counted_on (length a.words) (lent_check b) in
    let w = call-followed (lent_check a) (λ A. outcome second (join_work a b wires room A)) e in
    let A = w.counted in
    let v = call-went second (join_work a b wires room A) w.done in
    let B = v.counted in
    let ea = whole-accepted a.words a.extra A w.accepted in
    let eb = whole-accepted b.words b.extra B (on-accepted (length a.words) (lent_check b) v.accepted) in
    let long = length (joined_words a b wires A B) in
    let came = ap (λ (o : Outcome). o.reply) v.came in
    record {
      first = A;
      second = B;
      first-accepted = ea;
      second-accepted = eb;
      both = joined-both a.words b.words wires.words long room ea eb (wires-sound A B wires long room v.passed);
      number = cc (w.done, came);
      words = ap (λ (o : Outcome). o.words) (w.came ∙ v.came);
    }
