-- What an opened call knows of its card and its vectors, where its refusals stand, and how much of a card and a vector tells it all. Assumes nothing.
use Prim.Native.Nat.{ℕ, ◌≤◌}
use mathlib.Core.Path.{◌≡◌, refl}
use mathlib.Core.List.{List, [], ◌∷◌}
use native.Mathlib.Omega.{arith}
use lib.ListN.{length, take}
use lib.Dec.{ltb}
use Rattle.answers.specs.declared.Counts.{Counts}
use Rattle.answers.specs.declared.Rule.TheVariants.{VectorForm}
use Rattle.std.specs.Prelude.{Ok, Err}
use Rattle.answers.specs.Answers.{Verdict, Answer}
use Rattle.answers.specs.Tests.{test, first_broken}
use Rattle.answers.specs.Calls.{Lent, Work, opened, following, outcome}
use Rattle.answers.specs.Ends.{Stands, clip}
use Rattle.answers.proofs.Tests.{then-sound}
use Rattle.answers.proofs.Calls.{opened-accepted}
use Rattle.answers.proofs.Positions.{Low, LowAnswer, LowTests, onward-low, outcome-stands}
use Rattle.layout.specs.Shape.{Shape, Accepts}
use Rattle.form.specs.Check.{lent_check}
use Rattle.form.proofs.Checked.{check-accepts, some-inputs}
use Rattle.form.proofs.Positions.{check-low}
use Rattle.form.proofs.Clip.{check-clip, accepted-clip}
use Rattle.testvectors.specs.Vectors.{width, vector_verdict, list_verdict, lent_form}
use Rattle.testvectors.proofs.Laws.{vector-long}
use Rattle.testvectors.proofs.Positions.{vector-low, list-low, form-low}
use Rattle.testvectors.proofs.Clip.{vector-clip, sound-clip}
use Rattle.opening.specs.Opened.{opened_vector, opened_list}

-- an opened call has an accepted card, and vectors of the form
module _ (verdict : ℕ → List ℕ → Verdict) (card v : Lent) {c : Counts} (e : opened (lent_check card) (λ c. lent_form verdict c.inputs v) ≡ Ok c) where
  pub lent-checked : lent_check card ≡ Ok c
  lent-checked = (opened-accepted (lent_check card) (λ c. lent_form verdict c.inputs v) e).0

  pub lent-accepted : Accepts card.words c
  lent-accepted = check-accepts _ _ _ lent-checked

  pub lent-sound : verdict c.inputs v.words ≡ Ok tt
  unfolding lent_form
  lent-sound =
      (then-sound (first_broken (test (ltb 0 v.extra) VectorForm 0 ∷ [])) (verdict c.inputs v.words)
      (opened-accepted (lent_check card) (λ c. lent_form verdict c.inputs v) e).1).1

-- what the work on one vector asks
pub vector-asks : (card v : Lent) {c : Counts} → opened_vector card v ≡ Ok c → Shape card.words c × (width c.inputs ≤ length v.words)
vector-asks card v {c} e =
    ((lent-accepted vector_verdict card v e).shape, omega (arith, vector-long c.inputs v.words (lent-sound vector_verdict card v e)))

-- WHERE REFUSALS STAND: below 2 ^ 32, as those of the call's own tests do
module _ (verdict : ℕ → List ℕ → Verdict) (low : (m : ℕ) (xs : List ℕ) → m ≤ 1024 → Low 4294967295 (verdict m xs)) (card v : Lent) where
  open-low : LowAnswer 4294967295 (opened (lent_check card) (λ c. lent_form verdict c.inputs v))
  open-low = go (lent_check card) refl
    where
      go : (a : Answer) → lent_check card ≡ a → LowAnswer 4294967295 (opened a (λ c. lent_form verdict c.inputs v))
      go (Err r) q = rw q at (check-low card.words card.extra)
      go (Ok c) q =
          onward-low 4294967295 (lent_form verdict c.inputs v) (Ok c)
          (form-low verdict c.inputs v (low c.inputs v.words (some-inputs (check-accepts _ _ _ q)).1)) (λ s. tt)

module _ (card v : Lent) (f : Counts → Work) (t : (c : Counts) → LowTests 4294967295 (f c).tests) where
  pub vector-stands : Stands (outcome (opened_vector card v) f).reply
  vector-stands = outcome-stands (opened_vector card v) f (open-low vector_verdict vector-low card v) t

  pub list-stands : Stands (outcome (opened_list card v) f).reply
  list-stands = outcome-stands (opened_list card v) f (open-low list_verdict list-low card v) t

-- HOW MUCH IS READ: 9,217 words of a card and 65 of a vector tell a call all
module _ (card v : Lent) where
  open-clip : opened_vector (clip 9217 card) (clip 65 v) ≡ opened_vector card v
  unfolding lent_form
  open-clip = rw (check-clip card) (go (lent_check card) refl)
    where
      go : (a : Answer) → lent_check card ≡ a → opened a (λ c. lent_form vector_verdict c.inputs (clip 65 v)) ≡ opened a (λ c. lent_form vector_verdict c.inputs v)
      go (Err r) q = refl
      go (Ok c) q = rw (vector-clip c.inputs (some-inputs (check-accepts _ _ _ q)).1 v.words)

  pub vector-call-clip : (F : List ℕ → List ℕ → Counts → Work)
      → outcome (opened_vector (clip 9217 card) (clip 65 v)) (F (take 9217 card.words) (take 65 v.words)) ≡ outcome (opened_vector card v) (F card.words v.words)
  unfolding outcome following
  vector-call-clip F = rw open-clip (go (opened_vector card v) refl)
    where
      go : (a : Answer) → opened_vector card v ≡ a → outcome a (F (take 9217 card.words) (take 65 v.words)) ≡ outcome a (F card.words v.words)
      go (Err r) q = refl
      go (Ok c) q =
          let few = (some-inputs (lent-accepted vector_verdict card v q)).1 in
          rw (accepted-clip card (lent-checked vector_verdict card v q), sound-clip c.inputs few v.words (lent-sound vector_verdict card v q))

  -- of a card and a list, which is read in place, 9,217 words of the card
  pub list-call-clip : (F : List ℕ → Counts → Work)
      → outcome (opened_list (clip 9217 card) v) (F (take 9217 card.words)) ≡ outcome (opened_list card v) (F card.words)
  unfolding outcome following
  list-call-clip F = rw (check-clip card) (go (opened_list card v) refl)
    where
      go : (a : Answer) → opened_list card v ≡ a → outcome a (F (take 9217 card.words)) ≡ outcome a (F card.words)
      go (Err r) q = refl
      go (Ok c) q = rw (accepted-clip card (lent-checked list_verdict card v q))
