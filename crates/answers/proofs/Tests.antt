-- What a sound verdict tells of its tests. Assumes nothing.
use Prim.Native.Nat.{ℕ, ◌≤◌}
use mathlib.Core.Path.{◌≡◌, refl}
use mathlib.Core.List.{List, [], ◌∷◌}
use mathlib.Core.Bool.{Bool, true, false}
use native.Mathlib.Omega.{arith}
use borrow.Author.Tests.{ltb-false}
use Rattle.answers.specs.declared.Counts.{Counts}
use Rattle.std.specs.Prelude.{Ok, Err}
use Rattle.answers.specs.Answers.{Verdict, Answer, refused}
use Rattle.answers.specs.declared.Refusal.{Refusal}
use Rattle.answers.specs.Tests.{Test, unless, first_broken, and_then, onward, room_test, room_tests}

pub not_sound : (r : Refusal) → ◌≡◌ {A = Verdict} (Err r) (Ok tt) → ⊥
not_sound r e = let z : ◌≡◌ {A = ℕ} 0 1 = cc in omega arith

-- no test of the list is broken
abbrev pub Passed : List Test → Type 0
Passed [] = Unit {0}
Passed (t ∷ ts) = (t.broken ≡ false) × Passed ts

-- a sound verdict has sound parts, and an accepting answer sound verdicts
pub then-sound : (u v : Verdict) → and_then u v ≡ Ok tt → (u ≡ Ok tt) × (v ≡ Ok tt)
then-sound (Ok tt) v e = (refl, e)
then-sound (Err r) v e = (e, cc)

test-sound : (b : Bool) (r : Refusal) (v : Verdict) → unless b (Err r) v ≡ Ok tt → (b ≡ false) × (v ≡ Ok tt)
test-sound true r v e = (cc, cc)
test-sound false r v e = (refl, e)

pub all-passed : (ts : List Test) → first_broken ts ≡ Ok tt → Passed ts
all-passed [] e = tt
all-passed (t ∷ ts) e =
    let (b, e') = test-sound t.broken (refused t.rule t.position) (first_broken ts) e in
    (b, all-passed ts e')

pub onward-accepts : (v : Verdict) (a : Answer) (c : Counts) → onward v a ≡ Ok c → (v ≡ Ok tt) × (a ≡ Ok c)
onward-accepts (Ok tt) a c e = (refl, e)
onward-accepts (Err r) a c e = (cc, cc)

-- and the other way: sound parts make a sound verdict, passed tests too, and sound verdicts let an answer through
pub sound-then : {u v : Verdict} → u ≡ Ok tt → v ≡ Ok tt → and_then u v ≡ Ok tt
sound-then e e' = rw (e, e')

pub passed-sound : (ts : List Test) → Passed ts → first_broken ts ≡ Ok tt
passed-sound [] p = refl
passed-sound (t ∷ ts) p = rw (p.0, passed-sound ts p.1)

pub accepts-onward : {v : Verdict} {a : Answer} {c : Counts} → v ≡ Ok tt → a ≡ Ok c → onward v a ≡ Ok c
accepts-onward e e' = rw (e, e')

-- a buffer that passes has the room, and so have two
pub room-enough : (n room : ℕ) → first_broken (room_test n room) ≡ Ok tt → n ≤ room
room-enough n room e = ltb-false room n (all-passed (room_test n room) e).0

pub rooms-enough : (n first second : ℕ) → first_broken (room_tests n first second) ≡ Ok tt → (n ≤ first) × (n ≤ second)
unfolding room_tests
rooms-enough n first second e =
    let p = all-passed (room_tests n first second) e in
    (ltb-false first n p.0, ltb-false second n p.1.0)
