-- Tests: laws of Bool, of `eqb` and of `some_below`. Assumes nothing.
use Prim.Native.Nat.{ℕ, zero, suc, ◌+◌, ◌<◌}
use mathlib.Core.Path.{◌≡◌, refl, sym, ap, ap₂, ◌∙◌}
use mathlib.Core.Bool.{Bool, true, false, not, ◌&&◌, ◌||◌, true≢false, false≢true, or_assoc, or_comm}
use native.Mathlib.Omega.{arith}
use native.Mathlib.Nat.{add-zero, add-suc}
use native.Mathlib.Decide.{ℕ_discrete}
use lib.Dec.{eqb}
use borrow.Author.Tests.{eq-eqb, ne_eqb, eqb-true}
use Rattle.lists.specs.Counting.{choose, some_below}

pub and-false : (b : Bool) → b && false ≡ false
and-false true = refl
and-false false = refl

pub and-true : (b : Bool) → b && true ≡ b
and-true true = refl
and-true false = refl

pub or-true : (b : Bool) → b || true ≡ true
or-true true = refl
or-true false = refl

pub or-false : (a b : Bool) → a || b ≡ false → (a ≡ false) × (b ≡ false)
or-false true b e = absurd (true≢false e)
or-false false b e = (refl, e)

pub and_none : (a : Bool) {p : Bool} → p ≡ false → a && p ≡ false
and_none a e = ap (a &&◌) e ∙ and-false a

pub and-all : (a : Bool) {p : Bool} → p ≡ true → a && p ≡ a
and-all a e = ap (a &&◌) e ∙ and-true a

pub and-differ : (a : Bool) (m n : ℕ) → a && not (eqb m n) ≡ false → a ≡ true → m ≡ n
and-differ a m n e p = eqb-true m n (go a (eqb m n) e p)
  where
    go : (a b : Bool) → a && not b ≡ false → a ≡ true → b ≡ true
    go true true e p = refl
    go true false e p = absurd (true≢false e)
    go false b e p = absurd (false≢true p)

pub regroup : (c a e d : Bool) → c && (a && (e && d)) ≡ a && (c && e) && d
regroup true true e d = refl
regroup true false e d = refl
regroup false true e d = refl
regroup false false e d = refl

pub differ : (a b : ℕ) → (a ≡ b → ⊥) → not (eqb a b) ≡ true
differ a b n = ap not (ne_eqb a b n)

pub agree : (a b : ℕ) → a ≡ b → not (eqb a b) ≡ false
agree a b e = ap not (eq-eqb a b e)

pub eqb-sym : (a b : ℕ) → eqb a b ≡ eqb b a
eqb-sym a b = elim (ℕ_discrete a b) [
  | yes e ↦ eq-eqb a b e ∙ sym (eq-eqb b a (sym e))
  | no n ↦ ne_eqb a b n ∙ sym (ne_eqb b a (λ e. n (sym e)))
]

-- two of the two values of e
pub two-values : (e : ℕ → ℕ) (d i : ℕ) → d < 2 → i < 2 → not (eqb (e d) (e i)) ≡ not (eqb (e 0) (e 1)) && not (eqb d i)
two-values e zero zero p q = agree (e 0) (e 0) refl ∙ sym (and-false (not (eqb (e 0) (e 1))))
two-values e zero (suc zero) p q = sym (and-true (not (eqb (e 0) (e 1))))
two-values e zero (suc (suc i)) p q = absurd (omega arith)
two-values e (suc zero) zero p q = ap not (eqb-sym (e 1) (e 0)) ∙ sym (and-true (not (eqb (e 0) (e 1))))
two-values e (suc zero) (suc zero) p q = agree (e 1) (e 1) refl ∙ sym (and-false (not (eqb (e 0) (e 1))))
two-values e (suc zero) (suc (suc i)) p q = absurd (omega arith)
two-values e (suc (suc d)) i p q = absurd (omega arith)

pub choose-bit : (b : Bool) (x y : ℕ) → x < 2 → y < 2 → choose b x y < 2
choose-bit true x y p q = p
choose-bit false x y p q = q

-- a word that is 1 where a test holds, else 0, is 1 exactly there
pub choose-back : (b : Bool) → eqb (choose b 1 0) 1 ≡ b
choose-back true = refl
choose-back false = refl

pub some_same : (p q : ℕ → Bool) (n : ℕ) → ((k : ℕ) → k < n → p k ≡ q k) → some_below p n ≡ some_below q n
unfolding some_below
some_same p q zero h = refl
some_same p q (suc n) h = ap₂ ◌||◌ (some_same p q n (λ k l. h k (omega arith))) (h n (omega arith))

pub some-none : (p : ℕ → Bool) (n : ℕ) → ((k : ℕ) → k < n → p k ≡ false) → some_below p n ≡ false
unfolding some_below
some-none p zero h = refl
some-none p (suc n) h = ap₂ ◌||◌ (some-none p n (λ k l. h k (omega arith))) (h n (omega arith))

-- n numbers from a on pass one test as those from b on pass another, which none below b passes
pub some-shifted : (p q : ℕ → Bool) (a b n : ℕ) → ((i : ℕ) → i < n → p (a + i) ≡ q (b + i)) → ((k : ℕ) → k < b → q k ≡ false)
    → some_below p (a + n) ≡ some_below p a || some_below q (b + n)
unfolding some_below
some-shifted p q a b zero h none = rw (add-zero a, add-zero b, some-none q b none) (or_comm false (some_below p a))
some-shifted p q a b (suc n) h none =
    rw (add-suc a n, add-suc b n)
    (ap₂ ◌||◌ (some-shifted p q a b n (λ i l. h i (omega arith)) none) (h n (omega arith))
    ∙ or_assoc (some_below p a) (some_below q (b + n)) (q (b + n)))

pub some-has : (p : ℕ → Bool) (n k : ℕ) → k < n → p k ≡ true → some_below p n ≡ true
unfolding some_below
some-has p zero k h e = absurd (omega arith)
some-has p (suc n) k h e = elim (ℕ_discrete k n) [
  | yes i ↦ ap (some_below p n ||◌) (ap p (sym i) ∙ e) ∙ or-true (some_below p n)
  | no d ↦ ap (◌|| p n) (some-has p n k (omega arith) e)
]

pub none_has : (p : ℕ → Bool) (n : ℕ) → some_below p n ≡ false → (k : ℕ) → k < n → p k ≡ false
unfolding some_below
none_has p zero e k h = absurd (omega arith)
none_has p (suc n) e k h =
    let (a, b) = or-false (some_below p n) (p n) e in
    elim (ℕ_discrete k n) [ yes i ↦ rw i b | no d ↦ none_has p n a k (omega arith) ]
