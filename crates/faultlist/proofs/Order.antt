-- TWO ORDERS OF A LIST OF FAULTS: they pass the same tests, and where no two faults are of one site, they are one setting. Assumes nothing.
use Prim.Native.Nat.{ℕ, ◌/◌}
use mathlib.Core.Path.{◌≡◌, refl, sym, ap₂, ◌∙◌, fun_ext}
use mathlib.Core.List.Permᴰ
use mathlib.Core.List.{List, Perm, Permᴰ}
use mathlib.Core.Logic.{∥∥₁_elim}
use mathlib.Core.Bool.{Bool, true, false, ◌||◌, Bool-set}
use native.Mathlib.Nat.{ℕ_set}
use lib.Dec.{leb, eqb}
use Rattle.lists.proofs.Tests.{eqb-sym}
use Rattle.lists.proofs.Order.{order_same, each-order, length-order, some-order}
use Rattle.answers.specs.declared.Counts.{Counts}
use Rattle.answers.specs.Tests.{first_broken}
use Rattle.value.specs.Settings.{faulty}
use Rattle.faultlist.specs.Faults.{too_high, at_site, site_twice, fault_tests}
use Rattle.faultlist.proofs.Together.{faulty-together, together-one}

-- whether a number is too high, and whether one is of a site
high-order : (F : ℕ) {fs gs : List ℕ} → Perm fs gs → too_high F fs ≡ too_high F gs
unfolding too_high
high-order F = some-order (leb F)

site-order : (p : ℕ) {fs gs : List ℕ} → Perm fs gs → at_site p fs ≡ at_site p gs
unfolding at_site
site-order p = some-order (λ f. eqb (f / 2) p)

-- four tests of which the middle two change places
middle : (a b c d : Bool) → (a || b) || (c || d) ≡ (a || c) || (b || d)
middle true b c d = refl
middle false true true d = refl
middle false true false d = refl
middle false false c d = refl

-- whether two are of one site
pub twice-order : {fs gs : List ℕ} → Perm fs gs → site_twice fs ≡ site_twice gs
unfolding site_twice at_site
twice-order = order_same site_twice
    (λ f fs gs d e. ap₂ ◌||◌ (site-order (f / 2) d) e)
    (λ f g fs. rw (eqb-sym (g / 2) (f / 2)) (middle (eqb (f / 2) (g / 2)) (at_site (f / 2) fs) (at_site (g / 2) fs) (site_twice fs)))
    Bool-set

-- THE TESTS have one verdict
pub tests_order : (extra : ℕ) {fs gs : List ℕ} → Perm fs gs → (room : ℕ) (c : Counts)
    → first_broken (fault_tests extra fs room c) ≡ first_broken (fault_tests extra gs room c)
unfolding fault_tests
tests_order extra d room c = rw (high-order c.faults d, length-order d, twice-order d)

-- THE SETTING is one
module _ {fs gs : List ℕ} (d : Perm fs gs) (e : site_twice fs ≡ false) where
  by-steps : Permᴰ fs gs → (p v : ℕ) → faulty fs p v ≡ faulty gs p v
  by-steps k =
      let a = faulty-together fs e in
      together-one gs (record { each = each-order _ k a.each; rest = λ p v n. a.rest p v (each-order _ (Permᴰ.symm k) n) })
      (faulty-together gs (sym (twice-order d) ∙ e))

  pub faulty-order : faulty fs ≡ faulty gs
  faulty-order = fun_ext (λ p. fun_ext (λ v. ∥∥₁_elim d (ℕ_set (faulty fs p v) (faulty gs p v)) (λ k. by-steps k p v)))
