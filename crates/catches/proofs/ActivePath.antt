-- The active path of a graph, node by node. Assumes nothing.
use Prim.Native.Nat.{ℕ, zero, suc, ◌+◌, ◌<◌, ◌≤◌}
use mathlib.Core.Path.{◌≡◌, refl, ◌∙◌}
use mathlib.Core.List.{List}
use mathlib.Core.Bool.{Bool, true, false}
use native.Mathlib.Omega.{arith}
use borrow.Author.Tests.{ne_eqb}
use Rattle.answers.specs.declared.Counts.{Counts}
use Rattle.layout.specs.Layout.{size}
use Rattle.layout.specs.Shape.{Shape}
use Rattle.value.specs.Settings.{good}
use Rattle.value.specs.Values.{taken}
use Rattle.value.proofs.Values.{taken-later}
use Rattle.detect.specs.Detects.{good_value}
use Rattle.rules.specs.Rules.{beyond, meets, active}
use Rattle.rules.proofs.Meets.{meets-law, meets-between, meets-self}
use Rattle.rules.proofs.Changes.{active-start}
use Rattle.catches.specs.ActivePath.{ActivePath}

module _ {ws : List ℕ} {c : Counts} (a : Shape ws c) (x : List ℕ) (g : ℕ) (h : g < c.graphs) where
  abbrev t : ℕ → ℕ
  t = taken ws good (good_value ws c x) g

  -- the entrance is due first
  pub path-first : 0 < size ws g → ActivePath ws c x g 0 2
  path-first l = record { next = λ i p q. active-start a x g i; later = λ n e. (omega arith, omega arith) }

  -- the node that is due is active, and the path goes on by the exit that it takes
  module _ {k : ℕ} (i : k < size ws g) where
    pub path-active : ActivePath ws c x g k (k + 2) → active ws c x g k ≡ true
    path-active d =
        let e : k + 2 ≡ suc (suc k) = omega arith in
        d.next k (omega arith) i ∙ rw e (meets-self t (size ws g) k (omega arith))

    pub path-onward : ActivePath ws c x g k (k + 2) → ActivePath ws c x g (k + 1) (t k)
    path-onward d = record {
      next = λ j p q.
          let e : k + 2 ≡ suc (suc k) = omega arith in
          d.next j (omega arith) q ∙ rw e (meets-law t (size ws g) j (taken-later a good x (good_value ws c x) g h) k i ∙ rw (ne_eqb k j (λ z. omega arith)));
      later = λ l e. let r = taken-later a good x (good_value ws c x) g h k l i e in (omega arith, r.1);
    }

  -- those that the path passes by are not active
  not-met : (e i : ℕ) → ((l : ℕ) → e ≡ suc (suc l) → (i < l) × (l < size ws g)) → beyond (meets t i (size ws g)) e ≡ false
  not-met zero i r = refl
  not-met (suc zero) i r = refl
  not-met (suc (suc l)) i r = go (meets t i (size ws g) l) refl
    where
      go : (b : Bool) → meets t i (size ws g) l ≡ b → b ≡ false
      go true z = absurd (omega (arith, meets-between t (size ws g) (taken-later a good x (good_value ws c x) g h) i (size ws g) l (r l refl).1 z, r l refl))
      go false z = refl

  pub path-idle : {k e : ℕ} → ActivePath ws c x g k e → (i : ℕ) → k ≤ i → i < size ws g → ((l : ℕ) → e ≡ suc (suc l) → i < l) → active ws c x g i ≡ false
  path-idle {k} {e} d i p q r = d.next i p q ∙ not-met e i (λ l z. (r l z, (d.later l z).1))

  -- and the node that it comes to is due
  pub path-reached : {k e : ℕ} → ActivePath ws c x g k e → (l : ℕ) → e ≡ suc (suc l) → ActivePath ws c x g l (l + 2)
  path-reached {k} {e} d l z =
      let r = d.later l z in
      let z' : e ≡ l + 2 = omega arith in
      record {
        next = λ i p q. rw (← z') (d.next i (omega arith) q);
        later = λ m u. let s = d.later m (z' ∙ u) in (omega arith, s.1);
      }
