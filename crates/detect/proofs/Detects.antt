-- What is observed goes by the values alone. Assumes nothing.
use Prim.Native.Nat.{ℕ, ◌<◌}
use mathlib.Core.Path.{◌≡◌, refl, ap, ◌∙◌}
use mathlib.Core.List.{List}
use mathlib.Core.Bool.{Bool, true, false, not, ◌&&◌}
use lib.Dec.{eqb}
use Rattle.lists.proofs.Tests.{and_none, and-all, differ, agree, some_same, some-none, some-has}
use Rattle.lists.proofs.Net.{Same}
use Rattle.layout.specs.Layout.{observable}
use Rattle.detect.specs.Detects.{observed}

module _ (ws : List ℕ) (n : ℕ) (v : ℕ → ℕ) where
  pub observed-same : (w u : ℕ → ℕ) → Same n w u → observed ws n v w ≡ observed ws n v u
  unfolding observed
  observed-same w u s = some_same _ _ n (λ h l. ap (λ (r : ℕ). observable ws h && not (eqb r (v h))) (s h l))

  pub observed-none : (w : ℕ → ℕ) → Same n w v → observed ws n v w ≡ false
  unfolding observed
  observed-none w s = some-none _ n (λ h l. and_none (observable ws h) (agree _ _ (s h l)))

  pub observed-has : (w : ℕ → ℕ) (h : ℕ) → h < n → observable ws h ≡ true → (w h ≡ v h → ⊥) → observed ws n v w ≡ true
  unfolding observed
  observed-has w h l o d = some-has _ n h l (and-all (observable ws h) (differ _ _ d) ∙ o)

  -- where each observable graph has its value
  pub observed-quiet : (w : ℕ → ℕ) → ((h : ℕ) → h < n → observable ws h ≡ true → w h ≡ v h) → observed ws n v w ≡ false
  unfolding observed
  observed-quiet w s = some-none _ n (λ h l. go h l (observable ws h) refl)
    where
      go : (h : ℕ) → h < n → (b : Bool) → observable ws h ≡ b → b && not (eqb (w h) (v h)) ≡ false
      go h l true e = agree _ _ (s h l e)
      go h l false e = refl
