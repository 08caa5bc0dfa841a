-- The stopped list by laws: where it ends, and that its last graph tells whether the walked graph is critical. Assumes nothing.
use Prim.Native.Nat.{ℕ, zero, suc, ◌<◌, ◌≤◌}
use mathlib.Core.Path.{◌≡◌, refl, sym, ap, ◌∙◌}
use mathlib.Core.List.{List}
use mathlib.Core.Bool.{Bool, true, false, not, true≢false}
use mathlib.Mathlib.Data.Bool.Basic.{and_elim_left}
use native.Mathlib.Omega.{arith}
use native.Mathlib.Decide.{ℕ_discrete, dec_lt}
use borrow.Author.Tests.{eqb-true}
use lib.Dec.{eqb}
use Rattle.lists.proofs.Tests.{and-all, and_none, agree}
use Rattle.answers.specs.declared.Counts.{Counts}
use Rattle.layout.specs.Layout.{observable}
use Rattle.layout.specs.Shape.{Shape}
use Rattle.detect.specs.Detects.{good_value}
use Rattle.detect.proofs.Detects.{observed-has, observed-quiet}
use Rattle.rules.specs.Rules.{flipped, listed, critical}
use Rattle.rules.specs.Stopped.{stopped}
use Rattle.rules.proofs.Faults.{critical-early}

module _ (ws : List ℕ) (c : Counts) (x : List ℕ) (g : ℕ) where
  abbrev v : ℕ → ℕ
  v = good_value ws c x

  abbrev w : ℕ → ℕ
  w = flipped ws c x g

  abbrev on : ℕ → Bool
  on = stopped ws c x g

  -- where no observable graph below m is listed, the list is the change list up to m
  pub stopped-upto : (m h : ℕ) → h ≤ m → ((i : ℕ) → i < m → observable ws i ≡ true → w i ≡ v i) → on h ≡ listed ws c x g h
  unfolding stopped
  stopped-upto m h l s = and-all (listed ws c x g h) (ap not (observed-quiet ws h v w (λ i j. s i (omega arith))))

  -- beyond an observable graph that is listed it has none
  pub stopped-beyond : (m h : ℕ) → m < h → observable ws m ≡ true → (w m ≡ v m → ⊥) → on h ≡ false
  unfolding stopped
  stopped-beyond m h l o d = and_none (listed ws c x g h) (ap not (observed-has ws h v w m l o d))

  -- its last graph is observable exactly where g is critical
  module _ (a : Shape ws c) (m : ℕ) (l : m < c.graphs) (e : on m ≡ true) (last : (i : ℕ) → m < i → i < c.graphs → on i ≡ false) where
    -- where m is not observable and no graph below i is both observable and listed, i is not
    quiet_next : observable ws m ≡ false → (i : ℕ) → ((h : ℕ) → h < i → observable ws h ≡ true → w h ≡ v h) → i < c.graphs → observable ws i ≡ true
        → (q : Bool) → eqb (w i) (v i) ≡ q → w i ≡ v i
    quiet_next hidden i below j o true z = eqb-true _ _ z
    quiet_next hidden i below j o false z =
        let here : on i ≡ true = stopped-upto i i (omega arith) below ∙ ap not z in
        let apart : w i ≡ v i → ⊥ = λ r. true≢false (sym (ap not z) ∙ agree _ _ r) in
        elim (dec_lt i m) [
          | yes k ↦ absurd (true≢false (sym e ∙ stopped-beyond i m k o apart))
          | no k ↦ elim (ℕ_discrete i m) [
            | yes r ↦ absurd (true≢false (sym o ∙ ap (observable ws) r ∙ hidden))
            | no r ↦ absurd (true≢false (sym here ∙ last i (omega arith) j))
          ]
        ]

    -- so no graph is, by the graphs below n
    quiet : observable ws m ≡ false → (n i : ℕ) → i < n → i < c.graphs → observable ws i ≡ true → w i ≡ v i
    quiet hidden zero i b j o = absurd (omega arith)
    quiet hidden (suc n) i b j o = quiet_next hidden i (λ h k. quiet hidden n h (omega arith) (omega arith)) j o (eqb (w i) (v i)) refl

    pub stopped-last : observable ws m ≡ critical ws c x g
    unfolding stopped critical
    stopped-last = go (observable ws m) refl
      where
        go : (b : Bool) → observable ws m ≡ b → b ≡ critical ws c x g
        go true o = sym (critical-early a x g m l o (and_elim_left _ _ e))
        go false o = sym (observed-quiet ws c.graphs v w (λ i j. quiet o (suc i) i (omega arith) j))
