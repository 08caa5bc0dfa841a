-- The orders of a list, which are the library's `Perm`: what goes by neighbours exchanged. Assumes nothing.
use Prim.Native.Nat.{ℕ, suc}
use mathlib.Core.Path.{◌≡◌, refl, ap, ap₂, ◌∙◌}
use mathlib.Core.List.{List, ◌∷◌, Perm, Permᴰ}
use mathlib.Core.Logic.{∥∥₁_elim}
use mathlib.Core.Bool.{Bool, true, false, ◌||◌, Bool-set}
use native.Mathlib.Nat.{ℕ_set}
use lib.ListN.{length}
use Rattle.lists.specs.Counting.{some_of}
use Rattle.lists.specs.Each.{Each}

-- what is the same for equal heads before two orders, and for two neighbours exchanged, is the same for any two orders
module _ {A : Type 0} {X : Type 0} (what : List A → X)
    (head : (a : A) (l m : List A) → Perm l m → what l ≡ what m → what (a ∷ l) ≡ what (a ∷ m))
    (exchange : (a b : A) (l : List A) → what (a ∷ b ∷ l) ≡ what (b ∷ a ∷ l)) where
  by-steps : {l m : List A} → Permᴰ l m → what l ≡ what m
  by-steps Permᴰ.nil = refl
  by-steps (Permᴰ.cons {b = b} {l₁ = l₁} {l₂ = l₂} e d) = ap (λ (a : A). what (a ∷ l₁)) e ∙ head b l₁ l₂ ∣ d ∣₁ (by-steps d)
  by-steps (Permᴰ.swap {a = a} {b = b} {l = l} e₁ e₂) = exchange a b l ∙ ap₂ (λ (c d : A). what (c ∷ d ∷ l)) e₂ e₁
  by-steps (Permᴰ.trans d₁ d₂) = by-steps d₁ ∙ by-steps d₂

  pub order_same : IsSet X → {l m : List A} → Perm l m → what l ≡ what m
  order_same set {l} {m} p = ∥∥₁_elim p (set (what l) (what m)) by-steps

-- a fact of each number of a list is one of each number of its orders
pub each-order : (P : ℕ → Type 0) {l m : List ℕ} → Permᴰ l m → Each P l → Each P m
each-order P Permᴰ.nil e = e
each-order P (Permᴰ.cons q d) (p, e) = (rw q at p, each-order P d e)
each-order P (Permᴰ.swap q₁ q₂) (p, (r, e)) = (rw q₂ at r, (rw q₁ at p, e))
each-order P (Permᴰ.trans d₁ d₂) e = each-order P d₂ (each-order P d₁ e)

-- how long it is
pub length-order : {A : Type 0} {l m : List A} → Perm l m → length l ≡ length m
length-order = order_same length (λ a l m d e. ap suc e) (λ a b l. refl) ℕ_set

or-exchange : (a b c : Bool) → a || (b || c) ≡ b || (a || c)
or-exchange true true c = refl
or-exchange true false c = refl
or-exchange false b c = refl

-- whether some number passes
pub some-order : (p : ℕ → Bool) {l m : List ℕ} → Perm l m → some_of p l ≡ some_of p m
unfolding some_of
some-order p = order_same (some_of p) (λ a l m d e. ap (p a ||◌) e) (λ a b l. or-exchange (p a) (p b) (some_of p l)) Bool-set
