-- Nets: what a rule gives at g where the places before g have values v, and the list that grows along it. Assumes nothing.
use Prim.Native.Nat.{ℕ, zero, suc, ◌+◌, ◌-◌, ◌<◌}
use mathlib.Core.Path.{◌≡◌, refl, sym, ap, ◌∙◌}
use mathlib.Core.List.{[], ◌∷◌, ◌++◌}
use native.Mathlib.Omega.{arith}
use native.Mathlib.Nat.{add-zero, add-suc}
use native.Mathlib.Decide.{ℕ_discrete}
use lib.ListN.{length, length-append, get_or-append}
use lib.Seq.{get_or_at}
use lib.Dec.{eqb}
use borrow.Author.Tests.{eq-eqb, ne_eqb}
use Rattle.lists.specs.Counting.{choose}
use Rattle.lists.specs.Tables.{Net, at, one_more, grow}

abbrev pub Lower : ℕ → Net → Type 0
Lower G b = (v w : ℕ → ℕ) (g : ℕ) → g < G → ((h : ℕ) → h < g → v h ≡ w h) → b v g ≡ b w g

abbrev pub Solves : ℕ → Net → (ℕ → ℕ) → Type 0
Solves G b v = (g : ℕ) → g < G → v g ≡ b v g

abbrev pub Same : ℕ → (ℕ → ℕ) → (ℕ → ℕ) → Type 0
Same G v w = (g : ℕ) → g < G → v g ≡ w g

-- the values of a net are unique
pub unique : (G : ℕ) (b : Net) → Lower G b → (v w : ℕ → ℕ) → Solves G b v → Solves G b w → Same G v w
unique zero b lower v w p q g h = absurd (omega arith)
unique (suc G) b lower v w p q g h =
    p g h
    ∙ lower v w g h (λ i l. unique G b (λ v w g h. lower v w g (omega arith)) v w (λ g h. p g (omega arith)) (λ g h. q g (omega arith)) i (omega arith))
    ∙ sym (q g h)

-- the list that grows along a net has them
module _ (b : Net) where
  pub length-grow : (g : ℕ) → length (grow b g) ≡ g
  unfolding grow
  length-grow zero = refl
  length-grow (suc g) = simp length-append (rw (length-grow g) (omega arith))

  pub grow-more : (i g d : ℕ) → i < g → at (grow b (g + d)) i ≡ at (grow b g) i
  unfolding grow
  grow-more i g zero h = rw add-zero
  grow-more i g (suc d) h =
      rw (add-suc g d) (get_or-append (grow b (g + d)) _ 0 i (rw (length-grow (g + d)) (omega arith)) ∙ grow-more i g d h)

  pub grow-at : (g : ℕ) → at (grow b (suc g)) g ≡ b (at (grow b g)) g
  unfolding grow
  grow-at g = get_or_at (grow b g) (b (at (grow b g)) g) [] 0 g (length-grow g)

  pub grow-solves : (G : ℕ) → Lower G b → Solves G b (at (grow b G))
  grow-solves G lower g h =
      let e : suc g + (G - suc g) ≡ G = omega arith in
      let e' : g + (G - g) ≡ G = omega arith in
      sym (ap (λ (n : ℕ). at (grow b n) g) e)
      ∙ grow-more g (suc g) (G - suc g) (omega arith)
      ∙ grow-at g
      ∙ lower (at (grow b g)) (at (grow b G)) g h (λ i l. sym (grow-more i g (G - g) l) ∙ ap (λ (n : ℕ). at (grow b n) i) e')

-- two nets that give the same grow the same list
pub grow-same : (b b' : Net) (G : ℕ) → ((v : ℕ → ℕ) (g : ℕ) → g < G → b v g ≡ b' v g) → grow b G ≡ grow b' G
unfolding grow
grow-same b b' zero s = refl
grow-same b b' (suc G) s =
    ap (one_more b G) (grow-same b b' G (λ v g l. s v g (omega arith)))
    ∙ ap (λ (r : ℕ). grow b' G ++ (r ∷ [])) (s (at (grow b' G)) G (omega arith))

-- the net with graph g held at c
abbrev pub held : Net → ℕ → ℕ → Net
held b g c v h = choose (eqb h g) c (b v h)

module _ (G : ℕ) (b : Net) (lower : Lower G b) (g c : ℕ) where
  pub held-here : (v : ℕ → ℕ) → held b g c v g ≡ c
  held-here v = rw (eq-eqb g g refl)

  pub held-off : (v : ℕ → ℕ) (h : ℕ) → (h ≡ g → ⊥) → held b g c v h ≡ b v h
  held-off v h n = rw (ne_eqb h g n)

  pub held-lower : Lower G (held b g c)
  held-lower v w h l s = ap (choose (eqb h g) c) (lower v w h l s)

  -- what solves a net with one graph held
  pub held-solves : (v : ℕ → ℕ) → v g ≡ c → ((h : ℕ) → h < G → (h ≡ g → ⊥) → v h ≡ b v h) → Solves G (held b g c) v
  held-solves v e s h l = elim (ℕ_discrete h g) [
    | yes p ↦ rw p (e ∙ sym (held-here v))
    | no n ↦ s h l n ∙ sym (held-off v h n)
  ]

  -- nothing below the held graph is altered
  pub held_below : g < G → (v w : ℕ → ℕ) → Solves G b v → Solves G (held b g c) w → Same g w v
  held_below l v w p q =
      unique g b (λ v w h m. lower v w h (omega arith)) w v
      (λ h m. q h (omega arith) ∙ held-off w h (λ e. omega arith)) (λ h m. p h (omega arith))

-- One held graph: b and b' are two nets that differ at g alone, v and v' their values.
module _ (G : ℕ) (b b' : Net) (lower : Lower G b) (lower' : Lower G b') (g : ℕ) (inside : g < G)
    (off : (w : ℕ → ℕ) (h : ℕ) → h < G → (h ≡ g → ⊥) → b' w h ≡ b w h)
    (v v' : ℕ → ℕ) (good : Solves G b v) (bad : Solves G b' v') where
  pub below-same : Same g v' v
  below-same =
      unique g b (λ v w h l. lower v w h (omega arith)) v' v
      (λ h l. bad h (omega arith) ∙ off v' h (omega arith) (λ e. omega arith)) (λ h l. good h (omega arith))

  pub gives : v' g ≡ b' v g
  gives = bad g inside ∙ lower' v' v g inside below-same

  pub one-held : Solves G (held b g (b' v g)) v'
  one-held = held-solves G b lower g (b' v g) v' gives (λ h l n. bad h l ∙ off v' h l n)

  pub none-altered : b' v g ≡ v g → Same G v' v
  none-altered e =
      unique G (held b g (b' v g)) (held-lower G b lower g (b' v g)) v' v one-held
      (held-solves G b lower g (b' v g) v (sym e) (λ h l _. good h l))
