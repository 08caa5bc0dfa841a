-- A check that counts on after n words accepts what it accepted, and refuses n words later. Assumes nothing.
use Prim.Native.Nat.{ℕ, ◌+◌, ◌≤◌}
use mathlib.Core.Path.{◌≡◌, refl}
use Rattle.answers.specs.declared.Rule.{Rule}
use Rattle.answers.specs.declared.Counts.{Counts}
use Rattle.std.specs.Prelude.{Ok, Err}
use Rattle.answers.specs.Answers.{Answer, refused, broken_rule, stands_at}
use Rattle.answers.specs.declared.Refusal.{Refusal}
use Rattle.answers.proofs.Positions.{LowAnswer}
use Rattle.wiring.specs.Calls.{counted_on}

module _ (n : ℕ) (a : Answer) where
  pub refused-on : {r : Refusal} → a ≡ Err r → counted_on n a ≡ Err (refused (broken_rule r) (n + stands_at r))
  unfolding counted_on
  refused-on e = rw e

  pub accepted-on : {c : Counts} → a ≡ Ok c → counted_on n a ≡ Ok c
  unfolding counted_on
  accepted-on e = rw e

pub on-accepted : (n : ℕ) (a : Answer) {c : Counts} → counted_on n a ≡ Ok c → a ≡ Ok c
unfolding counted_on
on-accepted n (Ok d) e = e
on-accepted n (Err r) e = cc

pub on-low : (n m : ℕ) (a : Answer) → ((r : Refusal) → a ≡ Err r → n + stands_at r ≤ m) → LowAnswer m (counted_on n a)
unfolding counted_on
on-low n m (Ok c) h = tt
on-low n m (Err r) h = h r refl
