-- The number that alone passes a test, of the first m: what the word that tells it says of their count. Assumes nothing.
use Prim.Native.Nat.{ℕ, zero, suc, ◌+◌, ◌<◌, ◌≤◌}
use mathlib.Core.Path.{◌≡◌, refl}
use mathlib.Core.Bool.{Bool, true, false}
use native.Mathlib.Omega.{arith}
use native.Mathlib.Decide.{ℕ_discrete}
use native.Mathlib.Numerals.{add-one}
use lib.Dec.{eqb}
use borrow.Author.Tests.{eq-eqb, ne_eqb, lt-ltb}
use Rattle.lists.specs.Counting.{count}
use Rattle.cardtables.specs.Tables.{only_of, is_only}

-- the word tells that none of the first m passes, or one, or several
pub data Tells (p : ℕ → Bool) (m : ℕ) : Type 0 where
  none : only_of p m ≡ 0 → count p m ≡ 0 → Tells p m
  one : (i : ℕ) → only_of p m ≡ i + 1 → i < m → p i ≡ true → count p m ≡ 1 → Tells p m
  several : only_of p m ≡ 4097 → 2 ≤ count p m → Tells p m

module _ (p : ℕ → Bool) where
  pub tells : (m : ℕ) → Tells p m
  unfolding only_of count
  tells zero = none refl refl
  tells (suc m) = next (p m) refl (tells m)
    where
      next : (b : Bool) → p m ≡ b → Tells p m → Tells p (suc m)
      next false e (none s n) = none (rw (e, s)) (rw (e, n))
      next false e (one i s l a n) = one i (rw (e, s)) (omega arith) a (rw (e, n))
      next false e (several s n) = several (rw (e, s)) (rw e (omega arith))
      next true e (none s n) = one m (rw (e, s)) (omega arith) e (rw (e, n))
      next true e (one i s l a n) = several (rw (e, s, ne_eqb (i + 1) 0 (λ z. omega arith))) (rw (e, n) (omega arith))
      next true e (several s n) = several (rw (e, s)) (rw e (omega arith))

  -- it tells a number exactly where one alone passes
  pub only-is : (m : ℕ) → m ≤ 4096 → is_only (only_of p m) ≡ eqb (count p m) 1
  only-is m h = told (tells m)
    where
      told : Tells p m → is_only (only_of p m) ≡ eqb (count p m) 1
      told (none s n) = rw (s, n)
      told (one i s l a n) = rw (s, n, lt-ltb 0 (i + 1) (omega arith), lt-ltb (i + 1) 4097 (omega arith))
      told (several s n) = rw (s, ne_eqb (count p m) 1 (λ z. omega arith))

  -- one number more, which passes or not
  pub only_next : (m : ℕ) {s w : ℕ} → p m ≡ true → s ≡ only_of p m → (s ≡ 0 → w ≡ m + 1) → (0 < s → w ≡ 4097) → w ≡ only_of p (m + 1)
  unfolding only_of
  only_next m {s} {w} e q a b = rw (add-one m, e, ← q) (elim (ℕ_discrete s 0) [
    | yes z ↦ rw (eq-eqb s 0 z) (a z)
    | no z ↦ rw (ne_eqb s 0 z) (b (omega arith))
  ])

  pub only_kept : (m : ℕ) → p m ≡ false → only_of p (m + 1) ≡ only_of p m
  unfolding only_of
  only_kept m e = rw (add-one m, e)
