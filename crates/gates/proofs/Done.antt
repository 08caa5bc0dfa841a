-- FROM THE CALL TO THE THEOREM: where the call is done, by words or in bytes, what the buffer gets is a card that is the gate list. Assumes nothing.
use Prim.Native.Nat.{ℕ}
use mathlib.Core.Path.{◌≡◌, ap}
use Rattle.std.specs.Prelude.{Ok}
use Rattle.answers.specs.Calls.{Lent, Outcome}
use Rattle.answers.proofs.Calls.{call-went}
use Rattle.gatelist.proofs.Same.{drawn-as-gates}
use Rattle.gates.specs.Calls.{lent_listed, to_card_work, to_card_outcome}
use Rattle.gates.specs.Done.{Made}

pub to-card-done : (gs : Lent) (room n : ℕ) → (to_card_outcome gs room).reply ≡ Ok n → Made gs room n
to-card-done gs room n e =
    let w = call-went (lent_listed gs) (to_card_work gs room) e in
    let came = ap (λ (o : Outcome). o.reply) w.came in
    record {
      counted = w.counted;
      accepted = w.accepted;
      as-gates = drawn-as-gates gs.words gs.extra w.accepted;
      number = cc (e, came);
      words = ap (λ (o : Outcome). o.words) w.came;
    }
