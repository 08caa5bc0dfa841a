-- A reader of a gate list may stop after 9,217 words: they tell the call all. And where its refusals stand. Assumes nothing.
use Prim.Native.Nat.{ℕ, ◌<◌}
use mathlib.Core.Path.{◌≡◌}
use mathlib.Core.List.{List}
use native.Mathlib.Omega.{arith}
use lib.ListN.{length, take}
use borrow.Author.Tests.{lt-ltb}
use Rattle.answers.specs.declared.Rule.TheVariants.{CardTooLong}
use Rattle.answers.specs.declared.Counts.{Counts}
use Rattle.std.specs.Prelude.{Ok, Err}
use Rattle.answers.specs.Answers.{refused}
use Rattle.answers.specs.Calls.{Lent}
use Rattle.answers.specs.Ends.{Stands, clip}
use Rattle.answers.proofs.Calls.{outcome-same}
use Rattle.answers.proofs.Positions.{outcome-stands}
use Rattle.form.proofs.Clip.{limit-clip, limit-accepted}
use Rattle.gatelist.specs.Form.{gates_checked_with}
use Rattle.gatelist.proofs.Positions.{gates-checked-low}
use Rattle.gates.specs.Calls.{lent_listed, to_card_work, to_card_outcome}

long-listed : (extra : ℕ) (gs : List ℕ) → 9216 < length gs → gates_checked_with gs extra ≡ Err (refused CardTooLong 0)
unfolding gates_checked_with
long-listed extra gs h = rw (lt-ltb _ _ h)

all_read : (gs : Lent) {c : Counts} → lent_listed gs ≡ Ok c → take 9217 gs.words ≡ gs.words
all_read gs e = limit-accepted (λ ws. gates_checked_with ws gs.extra) (long-listed gs.extra) gs.words e

pub to-card-clip : (gs : Lent) (room : ℕ) → to_card_outcome (clip 9217 gs) room ≡ to_card_outcome gs room
to-card-clip gs room =
    rw (limit-clip (λ ws. gates_checked_with ws gs.extra) (long-listed gs.extra) gs.words)
    (outcome-same (lent_listed gs) (to_card_work (clip 9217 gs) room) (to_card_work gs room) (λ c e. rw (all_read gs e)) (λ c e s. rw (all_read gs e)))

pub to-card-stands : (gs : Lent) (room : ℕ) → Stands (to_card_outcome gs room).reply
to-card-stands gs room = outcome-stands (lent_listed gs) (to_card_work gs room) (gates-checked-low gs.words gs.extra) (λ c. (omega arith, tt))
