-- How a call opens, and what it comes to, by words or in bytes. Assumes nothing.
use Prim.Native.Nat.{ℕ}
use mathlib.Core.Path.{◌≡◌, refl, ap}
use native.Mathlib.Omega.{arith}
use Rattle.answers.specs.declared.Counts.{Counts}
use Rattle.std.specs.Prelude.{Ok, Err}
use Rattle.answers.specs.Answers.{Verdict, Answer, Reply}
use Rattle.answers.specs.declared.Refusal.{Refusal}
use Rattle.answers.specs.Tests.{first_broken, onward}
use Rattle.answers.specs.Calls.{Outcome, Work, outcome_by, opened, following, outcome}

onward-goes : (u : Verdict) (c : Counts) {d : Counts} → onward u (Ok c) ≡ Ok d → (c ≡ d) × (u ≡ Ok tt)
onward-goes (Ok tt) c e = (cc, refl)
onward-goes (Err r) c e = (cc, cc)

-- how a call opens: its card is refused, or its vectors, or it goes on
module _ (a : Answer) (form : Counts → Verdict) where
  pub open-refused : {r : Refusal} → a ≡ Err r → Err r ≡ opened a form
  open-refused e = rw e

  pub open-breaks : {c : Counts} {r : Refusal} → a ≡ Ok c → form c ≡ Err r → Err r ≡ opened a form
  open-breaks e q = rw (e, q)

  pub open-goes : {c : Counts} → a ≡ Ok c → form c ≡ Ok tt → Ok c ≡ opened a form
  open-goes e q = rw (e, q)

pub opened-accepted : (a : Answer) (form : Counts → Verdict) {c : Counts} → opened a form ≡ Ok c → (a ≡ Ok c) × (form c ≡ Ok tt)
opened-accepted (Ok d) form e = let (i, s) = onward-goes (form d) d e in (rw i, rw (← i) s)
opened-accepted (Err r) form e = (cc, cc)

-- TWO CALLS on one opening, whose own tests have one verdict and whose work is one where it is sound, are one call
pub outcome-same : (a : Answer) (f g : Counts → Work) → ((c : Counts) → a ≡ Ok c → first_broken (f c).tests ≡ first_broken (g c).tests)
    → ((c : Counts) → a ≡ Ok c → first_broken (g c).tests ≡ Ok tt → outcome_by (Ok tt) (f c) ≡ outcome_by (Ok tt) (g c)) → outcome a f ≡ outcome a g
unfolding outcome following
outcome-same (Err r) f g same e = refl
outcome-same (Ok c) f g same e = rw (same c refl) (by (first_broken (g c).tests) (e c refl))
  where
    by : (v : Verdict) → (v ≡ Ok tt → outcome_by (Ok tt) (f c) ≡ outcome_by (Ok tt) (g c)) → outcome_by v (f c) ≡ outcome_by v (g c)
    by (Ok tt) h = h refl
    by (Err r) h = refl

-- and where that holds but for the words of a second buffer, they have one reply and one first buffer
pub outcome-first : (a : Answer) (f g : Counts → Work) → ((c : Counts) → a ≡ Ok c → first_broken (f c).tests ≡ first_broken (g c).tests)
    → ((c : Counts) → a ≡ Ok c → ((f c).number ≡ (g c).number) × ((f c).words ≡ (g c).words))
    → ((outcome a f).reply ≡ (outcome a g).reply) × ((outcome a f).words ≡ (outcome a g).words)
unfolding outcome following
outcome-first (Err r) f g same e = (refl, refl)
outcome-first (Ok c) f g same e = rw (same c refl) (by (first_broken (g c).tests))
  where
    by : (v : Verdict) → ((outcome_by v (f c)).reply ≡ (outcome_by v (g c)).reply) × ((outcome_by v (f c)).words ≡ (outcome_by v (g c)).words)
    by (Ok tt) = (ap Ok (e c refl).0, (e c refl).1)
    by (Err r) = (refl, refl)

-- two calls that go on alike where one thing is accepted are one call
pub following-same : (a : Answer) (f g : Counts → Outcome) → ((c : Counts) → a ≡ Ok c → f c ≡ g c) → following a f ≡ following a g
unfolding following
following-same (Err r) f g same = refl
following-same (Ok c) f g same = same c refl

-- A CALL THAT IS DONE: what was accepted, that its tests passed, and what it came to
pub not_done : {r : Refusal} {n : ℕ} → ◌≡◌ {A = Reply} (Err r) (Ok n) → ⊥
not_done e = let z : ◌≡◌ {A = ℕ} 0 1 = cc in omega arith

pub record Went (a : Answer) (f : Counts → Work) : Type 0 where
  pub counted : Counts
  pub accepted : a ≡ Ok counted
  pub passed : first_broken (f counted).tests ≡ Ok tt
  pub came : outcome a f ≡ outcome_by (Ok tt) (f counted)

pub call-went : (a : Answer) (f : Counts → Work) {n : ℕ} → (outcome a f).reply ≡ Ok n → Went a f
unfolding outcome following
call-went (Err r) f e = absurd (not_done e)
call-went (Ok c) f {n} e = go (first_broken (f c).tests) refl
  where
    go : (v : Verdict) → first_broken (f c).tests ≡ v → Went (Ok c) f
    go (Ok tt) q = record { counted = c; accepted = refl; passed = q; came = rw q }
    go (Err r) q = let z : ◌≡◌ {A = Reply} (Err r) (Ok n) = rw q at e in absurd (not_done z)

-- and one that follows another check: that was accepted too
pub record Followed (a : Answer) (f : Counts → Outcome) (n : ℕ) : Type 0 where
  pub counted : Counts
  pub accepted : a ≡ Ok counted
  pub came : following a f ≡ f counted
  pub done : (f counted).reply ≡ Ok n

pub call-followed : (a : Answer) (f : Counts → Outcome) {n : ℕ} → (following a f).reply ≡ Ok n → Followed a f n
unfolding following
call-followed (Err r) f e = absurd (not_done e)
call-followed (Ok c) f e = record { counted = c; accepted = refl; came = refl; done = e }
