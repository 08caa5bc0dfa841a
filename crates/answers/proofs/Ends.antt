-- How a worker ends: refused as it opens, or at one of the call's own tests, or done. Assumes nothing.
use Prim.Native.Nat.{ℕ, ◌≤◌}
use mathlib.Core.Path.{◌≡◌, refl, sym, ap, ◌∙◌}
use mathlib.Core.List.{List, []}
use mathlib.Core.Bool.{Bool}
use native.Mathlib.Omega.{arith}
use lib.ListN.{length, take, drop, length-append}
use Rattle.lists.specs.Counting.{count}
use Rattle.lists.specs.Tables.{tab, over, chosen, front}
use Rattle.lists.proofs.Counting.{count-le}
use Rattle.lists.proofs.Tables.{length-tab, length-chosen}
use Rattle.lists.proofs.Front.{front-taken, over-put}
use Rattle.answers.specs.declared.Counts.{Counts}
use Rattle.std.specs.Prelude.{Ok, Err}
use Rattle.answers.specs.Answers.{Answer}
use Rattle.answers.specs.declared.Refusal.{Refusal}
use Rattle.answers.specs.Tests.{first_broken}
use Rattle.answers.specs.Calls.{Outcome, Work, following, outcome}
use Rattle.answers.specs.declared.Ending.{Ending}
use Rattle.answers.specs.Ends.{ending, end_done, Filled, EndsAs, EndsBoth}

-- no words
filled_none : (room : ℕ) (b : List ℕ) → Filled [] room 0 b b
filled_none room b = record { count = refl; fits = omega arith; buffer = refl }

-- a table that was written, and a list of chosen numbers
pub tab-filled : (f : ℕ → ℕ) (n : ℕ) (b d : List ℕ) {room : ℕ} → n ≤ room → d ≡ over n f b → Filled (tab f n) room n b d
tab-filled f n b d h e = record { count = sym (length-tab f n); fits = rw (length-tab f n) h; buffer = e ∙ over-put f n b }

pub chosen-filled : (p : ℕ → Bool) (m : ℕ) (b d : List ℕ) {n room : ℕ} → m ≤ room → (n ≡ count p m) × (d ≡ front (chosen p m) b) → Filled (chosen p m) room n b d
chosen-filled p m b d h (e, q) = record { count = e ∙ sym (length-chosen p m); fits = omega (arith, length-chosen p m, count-le p m); buffer = q }

-- so many words at the front of a buffer
pub filled-front : {ws before out : List ℕ} {room n : ℕ} → Filled ws room n before out → take n out ≡ ws
filled-front {ws} {before} w = front-taken ws before w.count w.buffer

pub filled-held : {ws before out : List ℕ} {room n : ℕ} → Filled ws room n before out → n ≤ length out
filled-held {ws} {before} w = omega (arith, w.count, ap length w.buffer, length-append ws (drop (length ws) before))

pub filled-room : {ws before out : List ℕ} {room n : ℕ} → Filled ws room n before out → n ≤ room
filled-room w = omega (arith, w.count, w.fits)

module _ (a : Answer) (f : Counts → Work) (room : ℕ) (b : List ℕ) where
  pub stops : {r : Refusal} → a ≡ Err r → EndsAs (outcome a f) room (ending (Err r)) b b
  unfolding outcome following
  stops e = rw e (record { reply = refl; filled = filled_none room b })

  module _ {c : Counts} (e : a ≡ Ok c) where
    pub breaks : {r : Refusal} → first_broken (f c).tests ≡ Err r → EndsAs (outcome a f) room (ending (Err r)) b b
    unfolding outcome following
    breaks q = rw (e, q) (record { reply = refl; filled = filled_none room b })

    pub finishes : first_broken (f c).tests ≡ Ok tt → {n k m : ℕ} {d : List ℕ} → n ≡ (f c).number → Filled (f c).words room k b d
        → EndsAs (outcome a f) room (ending (end_done n k m)) b d
    unfolding outcome following
    finishes q n w = rw (e, q, n) (record { reply = refl; filled = w })

  -- with a second buffer
  module _ (room' : ℕ) (d : List ℕ) where
    pub both-stop : {r : Refusal} → a ≡ Err r → EndsBoth (outcome a f) room room' (ending (Err r)) b d b d
    unfolding outcome following
    both-stop e = record { first = stops e; second = rw e (filled_none room' d) }

    module _ {c : Counts} (e : a ≡ Ok c) where
      pub both-break : {r : Refusal} → first_broken (f c).tests ≡ Err r → EndsBoth (outcome a f) room room' (ending (Err r)) b d b d
      unfolding outcome following
      both-break q = record { first = breaks e q; second = rw (e, q) (filled_none room' d) }

      pub both_end : first_broken (f c).tests ≡ Ok tt → {n k m : ℕ} {b' d' : List ℕ} → n ≡ (f c).number → Filled (f c).words room k b b'
          → Filled (f c).more room' m d d' → EndsBoth (outcome a f) room room' (ending (end_done n k m)) b d b' d'
      unfolding outcome following
      both_end q n w v = record { first = finishes e q n w; second = rw (e, q) v }

-- a call that follows another check, which is refused or goes on
module _ (a : Answer) (f : Counts → Outcome) (room : ℕ) (b : List ℕ) where
  pub first_stops : {r : Refusal} → a ≡ Err r → EndsAs (following a f) room (ending (Err r)) b b
  unfolding following
  first_stops e = rw e (record { reply = refl; filled = filled_none room b })

  pub first_goes : {c : Counts} {r : Ending} {d : List ℕ} → a ≡ Ok c → EndsAs (f c) room r b d → EndsAs (following a f) room r b d
  unfolding following
  first_goes e w = rw e w
