-- Where refusals stand: the position of a refusal is below 2 ^ 32, so that it has a place beside the rule's number in 64 bits, where those of the tests
-- are. Assumes nothing.
use Prim.Native.Nat.{ℕ, ◌≤◌}
use mathlib.Core.Path.{◌≡◌, refl}
use mathlib.Core.List.{List, [], ◌∷◌}
use mathlib.Core.Bool.{Bool, true, false}
use native.Mathlib.Omega.{arith}
use Rattle.answers.specs.declared.Counts.{Counts}
use Rattle.std.specs.Prelude.{Ok, Err}
use Rattle.answers.specs.Answers.{Verdict, Answer, refused, stands_at}
use Rattle.answers.specs.Tests.{Test, unless, first_broken, and_then, onward}
use Rattle.answers.specs.Calls.{Outcome, Work, outcome_by, following, outcome}
use Rattle.answers.specs.Ends.{Stands}

-- a refusal stands at n or before
module _ (n : ℕ) where
  abbrev pub Low : Verdict → Type 0
  Low (Ok tt) = Unit {0}
  Low (Err r) = stands_at r ≤ n

  abbrev pub LowAnswer : Answer → Type 0
  LowAnswer (Ok c) = Unit {0}
  LowAnswer (Err r) = stands_at r ≤ n

  abbrev pub LowTests : List Test → Type 0
  LowTests [] = Unit {0}
  LowTests (t ∷ ts) = (t.position ≤ n) × LowTests ts

  pub unless-low : (b : Bool) (u v : Verdict) → Low u → (b ≡ false → Low v) → Low (unless b u v)
  unless-low true u v p q = p
  unless-low false u v p q = q refl

  pub tests-low : (ts : List Test) → LowTests ts → Low (first_broken ts)
  tests-low [] h = tt
  tests-low (t ∷ ts) h = unless-low t.broken (Err (refused t.rule t.position)) (first_broken ts) h.0 (λ e. tests-low ts h.1)

  pub then-low : (u v : Verdict) → Low u → (u ≡ Ok tt → Low v) → Low (and_then u v)
  then-low (Ok tt) v p q = q refl
  then-low (Err r) v p q = p

  pub onward-low : (v : Verdict) (a : Answer) → Low v → (v ≡ Ok tt → LowAnswer a) → LowAnswer (onward v a)
  onward-low (Ok tt) a p q = q refl
  onward-low (Err r) a p q = p

-- the reply of a call whose opening and own tests stand below 2 ^ 32, and of one that follows another check
pub outcome-stands : (a : Answer) (f : Counts → Work) → LowAnswer 4294967295 a → ((c : Counts) → LowTests 4294967295 (f c).tests) → Stands (outcome a f).reply
unfolding outcome following
outcome-stands (Err r) f h t = omega (arith, h)
outcome-stands (Ok c) f h t = go (first_broken (f c).tests) (tests-low 4294967295 (f c).tests (t c))
  where
    go : (v : Verdict) → Low 4294967295 v → Stands (outcome_by v (f c)).reply
    go (Ok tt) l = tt
    go (Err r) l = omega (arith, l)

pub following-stands : (a : Answer) (f : Counts → Outcome) → LowAnswer 4294967295 a → ((c : Counts) → a ≡ Ok c → Stands (f c).reply) → Stands (following a f).reply
unfolding following
following-stands (Err r) f h s = omega (arith, h)
following-stands (Ok c) f h s = s c refl
