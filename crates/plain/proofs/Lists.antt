-- LISTS OF FAULTS, said of the whole call, refused or not, by words or in bytes: the empty list gives the good values, a list of one what the call with one
-- number gave, and two orders of a list give the same. Assumes nothing.
use Prim.Native.Nat.{ℕ}
use mathlib.Core.Path.{◌≡◌, refl, ap, ◌∙◌}
use mathlib.Core.List.{List, [], ◌∷◌, Perm}
use mathlib.Core.Bool.{or-false}
use lib.Dec.{leb}
use Rattle.answers.specs.declared.Counts.{Counts}
use Rattle.std.specs.Prelude.{Ok}
use Rattle.answers.specs.Tests.{Test, first_broken}
use Rattle.value.specs.Settings.{Setting}
use Rattle.value.proofs.Settings.{faulty-none, faulty-one}
use Rattle.faultlist.specs.Faults.{fault_tests}
use Rattle.faultlist.proofs.Tested.{faults-apart}
use Rattle.faultlist.proofs.Order.{tests_order, faulty-order}
use Rattle.answers.specs.Calls.{Lent, lent, whole, outcome_by}
use Rattle.answers.proofs.Calls.{outcome-same}
use Rattle.opening.specs.Opened.{opened_vector}
use Rattle.plain.specs.Calls.{values_work, values_outcome, good_tests, good_outcome, fault_outcome}
use Rattle.plain.specs.Single.{single_tests, single_outcome}

-- what no fault and one fault are tested for
none-tested : (room : ℕ) (c : Counts) → first_broken (fault_tests 0 [] room c) ≡ first_broken (good_tests room c)
unfolding fault_tests good_tests
none-tested room c = refl

one-tested : (f room : ℕ) (c : Counts) → first_broken (fault_tests 0 (f ∷ []) room c) ≡ first_broken (single_tests f room c)
unfolding fault_tests single_tests
one-tested f room c = rw (or-false (leb c.faults f))

module _ (card v : Lent) where
  -- two calls whose own tests have one verdict, and whose settings are one where it is sound
  pub one-call : (own other : Counts → List Test) (s t : Setting) → ((c : Counts) → first_broken (own c) ≡ first_broken (other c))
      → ((c : Counts) → first_broken (other c) ≡ Ok tt → s ≡ t) → values_outcome own s card v ≡ values_outcome other t card v
  one-call own other s t same e =
      outcome-same (opened_vector card v) (values_work own s card.words v.words) (values_work other t card.words v.words) (λ c a. same c)
      (λ c a h. ap (λ (u : Setting). outcome_by (Ok tt) (values_work own u card.words v.words c)) (e c h))

  -- THE EMPTY LIST
  pub none-good : (room : ℕ) → fault_outcome card v (whole []) room ≡ good_outcome card v room
  none-good room = one-call (fault_tests 0 [] room) (good_tests room) _ _ (none-tested room) (λ c h. faulty-none)

  -- A LIST OF ONE
  pub one_single : (f room : ℕ) → fault_outcome card v (whole (f ∷ [])) room ≡ single_outcome card v f room
  one_single f room = one-call (fault_tests 0 (f ∷ []) room) (single_tests f room) _ _ (one-tested f room) (λ c h. faulty-one f)

  -- TWO ORDERS OF A LIST, with or without bytes left over
  pub orders-agree : (extra room : ℕ) {fs gs : List ℕ} → Perm fs gs → fault_outcome card v (lent fs extra) room ≡ fault_outcome card v (lent gs extra) room
  orders-agree extra room {fs} {gs} d =
      let same = tests_order extra d room in
      one-call (fault_tests extra fs room) (fault_tests extra gs room) _ _ same (λ c h. faulty-order d (faults-apart extra fs room c (same c ∙ h)))
