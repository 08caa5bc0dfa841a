-- Counts and least numbers. Assumes nothing.
use Prim.Native.Nat.{ℕ, zero, suc, ◌+◌, ◌-◌, ◌*◌, ◌/◌, ◌<◌, ◌≤◌}
use mathlib.Core.Path.{◌≡◌, refl, sym, ap, ap₂, ◌∙◌}
use mathlib.Core.Bool.{Bool, true, false, ◌||◌}
use mathlib.Core.List.{List}
use native.Mathlib.Omega.{arith}
use native.Mathlib.Nat.{add-zero, add-suc}
use native.Mathlib.Numerals.{add-one}
use native.Mathlib.Decide.{ℕ_discrete, dec_lt}
use lib.Dec.{ltb, eqb}
use lib.ListN.{length, get_or, take, drop, length-drop}
use lib.Seq.{get_or-drop}
use Rattle.std.specs.List.{count_by}
use Rattle.std.proofs.lemmas.List.Sums.{count_by_more_yes, count_by_more_no}
use borrow.Author.Tests.{lt-ltb, le-ltb, ltb-true, ltb-false, eq-eqb, ne_eqb}
use Rattle.lists.specs.Counting.{choose, count, least}
use Rattle.lists.proofs.Tests.{choose-bit}

-- they go by the test's values
pub count_same : (p q : ℕ → Bool) (n : ℕ) → ((k : ℕ) → k < n → p k ≡ q k) → count p n ≡ count q n
unfolding count
count_same p q zero h = refl
count_same p q (suc n) h =
    ap₂ (λ (m : ℕ) (b : Bool). m + choose b 1 0) (count_same p q n (λ k l. h k (omega arith))) (h n (omega arith))

pub least-same : (p q : ℕ → Bool) (n : ℕ) → ((k : ℕ) → k < n → p k ≡ q k) → least p n ≡ least q n
unfolding least
least-same p q zero h = refl
least-same p q (suc n) h =
    ap₂ (λ (m : ℕ) (b : Bool). choose (ltb m n) m (choose b n (suc n))) (least-same p q n (λ k l. h k (omega arith))) (h n (omega arith))

-- n numbers from a on pass one test as those from b on pass another
pub count-shifted : (p q : ℕ → Bool) (a b n : ℕ) → ((i : ℕ) → i < n → p (a + i) ≡ q (b + i))
    → count p (a + n) + count q b ≡ count p a + count q (b + n)
unfolding count
count-shifted p q a b zero h = rw (add-zero a, add-zero b)
count-shifted p q a b (suc n) h =
    rw (add-suc a n, add-suc b n, h n (omega arith)) (omega (arith, count-shifted p q a b n (λ i l. h i (omega arith))))

-- one number that passes besides makes one more
pub count-with : (q : ℕ → Bool) (k n : ℕ) → k < n → q k ≡ false → count (λ j. eqb k j || q j) n ≡ 1 + count q n
unfolding count
count-with q k zero h f = absurd (omega arith)
count-with q k (suc n) h f = elim (ℕ_discrete k n) [
  | yes z ↦
      let before : count (λ j. eqb k j || q j) n ≡ count q n = count_same _ q n (λ j l. rw (ne_eqb k j (λ e. omega arith))) in
      rw (before, eq-eqb k n z, ap q (sym z) ∙ f) (omega arith)
  | no d ↦ rw (ne_eqb k n d, count-with q k n (omega arith) f) (omega arith)
]

-- where each number stands for two, twice as many pass
pub count-pairs : (p : ℕ → Bool) (n : ℕ) → count (λ f. p (f / 2)) (2 * n) ≡ 2 * count p n
unfolding count
count-pairs p zero = refl
count-pairs p (suc n) =
    let e : 2 * suc n ≡ suc (suc (2 * n)) = omega arith in
    let a : 2 * n / 2 ≡ n = omega arith in
    let b : suc (2 * n) / 2 ≡ n = omega arith in
    rw (e, a, b, count-pairs p n) (omega arith)

-- the words of a part of a list that pass, from word a on
pub count-part : (p : ℕ → Bool) (l : List ℕ) (a k : ℕ) → a + k ≤ length l → count_by p (take k (drop a l)) ≡ count (λ i. p (get_or l (a + i) 0)) k
unfolding count
count-part p l a zero h = refl
count-part p l a (suc k) h = next (p (get_or l (a + k) 0)) refl (count-part p l a k (omega arith))
  where
    next : (b : Bool) → p (get_or l (a + k) 0) ≡ b → count_by p (take k (drop a l)) ≡ count (λ i. p (get_or l (a + i) 0)) k
        → count_by p (take (suc k) (drop a l)) ≡ count (λ i. p (get_or l (a + i) 0)) k + choose (p (get_or l (a + k) 0)) 1 0
    next true e f = rw (← add-one k, e) (count_by_more_yes p (drop a l) k 0 (rw (length-drop a l) (omega arith)) (ap p (get_or-drop a l k 0) ∙ e) ∙ ap (◌+ 1) f)
    next false e f =
        rw (← add-one k, e)
        (count_by_more_no p (drop a l) k 0 (rw (length-drop a l) (omega arith)) (ap p (get_or-drop a l k 0) ∙ e) ∙ f ∙ sym (add-zero _))

-- a number below n that passes, with k others below it
pub record Reached (p : ℕ → Bool) (n k : ℕ) : Type 0 where
  pub number : ℕ
  pub inside : number < n
  pub passes : p number ≡ true
  pub before : count p number ≡ k

module _ (p : ℕ → Bool) where
  -- one number more
  pub count_next : (n : ℕ) → count p (suc n) ≡ count p n + choose (p n) 1 0
  unfolding count
  count_next n = refl

  pub count-more : (n : ℕ) (b : Bool) → p n ≡ b → count p n + choose b 1 0 ≡ count p (n + 1)
  count-more n b e = rw (add-one, count_next n, e)

  pub count-le : (n : ℕ) → count p n ≤ n
  unfolding count
  count-le zero = omega arith
  count-le (suc n) = omega (arith, count-le n, choose-bit (p n) 1 0 (omega arith) (omega arith))

  -- more numbers give no lower count, and a higher one past a number that passes
  pub count-up : (n m : ℕ) → n ≤ m → count p n ≤ count p m
  unfolding count
  count-up n zero h = let e : n ≡ 0 = omega arith in rw e (omega arith)
  count-up n (suc m) h = elim (ℕ_discrete n (suc m)) [
    | yes e ↦ rw e (omega arith)
    | no d ↦ omega (arith, count-up n m (omega arith))
  ]

  pub count-rises : (n m : ℕ) → n < m → p n ≡ true → count p n < count p m
  count-rises n m h e = omega (arith, count-up (suc n) m h, (rw e at (count_next n)))

  -- and past numbers that don't the same
  pub count-gap : (n m : ℕ) → n ≤ m → ((k : ℕ) → n ≤ k → k < m → p k ≡ false) → count p m ≡ count p n
  unfolding count
  count-gap n zero h s = let e : n ≡ 0 = omega arith in rw e
  count-gap n (suc m) h s = elim (ℕ_discrete n (suc m)) [
    | yes e ↦ rw e
    | no d ↦ rw (s m (omega arith) (omega arith), count-gap n m (omega arith) (λ k i j. s k i (omega arith))) (omega arith)
  ]

  -- so no two numbers that pass have one count below them
  pub count-apart : (n m : ℕ) → p n ≡ true → p m ≡ true → count p n ≡ count p m → n ≡ m
  count-apart n m d e q = elim (dec_lt n m) [
    | yes l ↦ absurd (omega (arith, count-rises n m l d))
    | no i ↦ elim (dec_lt m n) [ yes l ↦ absurd (omega (arith, count-rises m n l e)) | no j ↦ omega arith ]
  ]

  -- and where one in all is counted, no two pass
  pub count-alone : (n i j : ℕ) → count p n ≡ 1 → i < n → j < n → p i ≡ true → p j ≡ true → i ≡ j
  count-alone n i j e h l a b = count-apart i j a b (omega (arith, count-rises i n h a, count-rises j n l b))

  -- and each lower count is that below a number that passes
  pub count-reached : (n k : ℕ) → k < count p n → Reached p n k
  unfolding count
  count-reached zero k h = absurd (omega arith)
  count-reached (suc n) k h = elim (dec_lt k (count p n)) [
    | yes l ↦
        let r = count-reached n k l in
        record { number = r.number; inside = omega (arith, r.inside); passes = r.passes; before = r.before }
    | no m ↦ last (omega arith) (p n) refl
  ]
    where
      last : count p n ≤ k → (b : Bool) → p n ≡ b → Reached p (suc n) k
      last m true e = record { number = n; inside = omega arith; passes = e; before = omega (arith, ap (λ (b : Bool). choose b 1 0) e) }
      last m false e = absurd (omega (arith, ap (λ (b : Bool). choose b 1 0) e))

  -- all numbers pass, or none
  pub count-all : (n : ℕ) → ((k : ℕ) → k < n → p k ≡ true) → count p n ≡ n
  unfolding count
  count-all zero h = refl
  count-all (suc n) h = rw (h n (omega arith), count-all n (λ k l. h k (omega arith))) (omega arith)

  pub count_none : (n : ℕ) → ((k : ℕ) → k < n → p k ≡ false) → count p n ≡ 0
  unfolding count
  count_none zero h = refl
  count_none (suc n) h = rw (h n (omega arith), count_none n (λ k l. h k (omega arith)))

  pub least_kept : (n : ℕ) → least p n < n → least p (suc n) ≡ least p n
  unfolding least
  least_kept n h = rw (lt-ltb (least p n) n h)

  pub least-new : (n : ℕ) → n ≤ least p n → least p (suc n) ≡ choose (p n) n (suc n)
  unfolding least
  least-new n h = rw (le-ltb (least p n) n h)

  -- a least number is found exactly when the count is not zero
  pub found-counted : (n : ℕ) → ltb (least p n) n ≡ ltb 0 (count p n)
  unfolding least count
  found-counted zero = refl
  found-counted (suc n) = elim (dec_lt (least p n) n) [
    | yes l ↦
        let q = ltb-true 0 (count p n) (sym (found-counted n) ∙ lt-ltb (least p n) n l) in
        lt-ltb (least p (suc n)) (suc n) (rw (least_kept n l) (omega arith)) ∙ sym (lt-ltb 0 (count p (suc n)) (omega arith))
    | no m ↦
        let l : n ≤ least p n = omega arith in
        let q = ltb-false 0 (count p n) (sym (found-counted n) ∙ le-ltb (least p n) n l) in
        let z : count p n ≡ 0 = omega arith in
        rw (least-new n l, z) (last (p n))
  ]
    where
      last : (b : Bool) → ltb (choose b n (suc n)) (suc n) ≡ ltb 0 (0 + choose b 1 0)
      last true = lt-ltb n (suc n) (omega arith)
      last false = le-ltb (suc n) (suc n) (omega arith)

  -- none is found where none passes
  pub least-none : (n : ℕ) → n ≤ least p n → (k : ℕ) → k < n → p k ≡ false
  least-none n h k l = go (p k) refl
    where
      go : (b : Bool) → p k ≡ b → b ≡ false
      go true e =
          absurd (omega (arith, count-rises k n l e, ltb-false 0 (count p n) (sym (found-counted n) ∙ le-ltb (least p n) n h)))
      go false e = refl

  -- a search for the least number that passes
  pub least_start : least p 0 ≡ 0
  unfolding least
  least_start = refl

  pub least-past : (i : ℕ) → least p i ≡ i → p i ≡ false → least p (i + 1) ≡ i + 1
  least-past i e n = rw add-one (least-new i (omega (arith, e)) ∙ rw n)

  pub least-le : (n : ℕ) → least p n ≤ n
  least-le zero = rw least_start (omega arith)
  least-le (suc n) = elim (dec_lt (least p n) n) [
    | yes l ↦ rw (least_kept n l) (omega arith)
    | no m ↦ rw (least-new n (omega arith)) (last (p n))
  ]
    where
      last : (b : Bool) → choose b n (suc n) ≤ suc n
      last true = omega arith
      last false = omega arith

  least_stays : (j d : ℕ) → least p j < j → least p (j + d) ≡ least p j
  least_stays j zero h = rw add-zero
  least_stays j (suc d) h = rw (add-suc j d) (least_kept (j + d) (omega (arith, least_stays j d h)) ∙ least_stays j d h)

  pub least-here : (n i : ℕ) → i < n → least p i ≡ i → p i ≡ true → least p n ≡ i
  least-here n i l e y =
      let here : least p (suc i) ≡ i = least-new i (omega (arith, e)) ∙ rw y in
      let z : n ≡ suc i + (n - suc i) = omega arith in
      rw z (least_stays (suc i) (n - suc i) (omega (arith, here)) ∙ here)
