-- The marks and tallies of faults, and how many of those that count have a tally, with no card in it. Assumes nothing.
use Prim.Native.Nat.{ℕ, zero, suc, ◌+◌, ◌*◌, ◌/◌, ◌%◌, ◌<◌, ◌≤◌}
use mathlib.Core.Path.{◌≡◌, refl, sym, ap, ◌∙◌}
use mathlib.Core.List.{List}
use mathlib.Core.Bool.{Bool, true, false, ◌&&◌}
use mathlib.Mathlib.Data.Bool.Basic.{and_elim_left}
use native.Mathlib.Omega.{arith}
use native.Mathlib.Decide.{ℕ_discrete, dec_lt}
use native.Mathlib.Nat.{add-zero}
use lib.ListN.{length, get_or, set}
use lib.Seq.{get_or-set_same, get_or-set_other}
use lib.Dec.{ltb, eqb}
use borrow.Author.Tests.{eq-eqb, ne_eqb, lt-ltb, le-ltb, ltb-true}
use Rattle.lists.specs.Counting.{choose, count}
use Rattle.lists.proofs.Counting.{count_same, count-le}
use Rattle.lists.proofs.Tests.{and-false, and-true, choose-bit}
use Rattle.running.specs.declared.Running.{Running}
use Rattle.running.specs.Running.{next_mark, next_tally, put_if, in_grade_by, found, Put, Folded, TalliesUpTo, Counted}

-- a store, if there is one
module _ (xs : List ℕ) (f w : ℕ) where
  put_other : (b : Bool) (i : ℕ) → (b ≡ true → i ≡ f → ⊥) → get_or (put_if b xs f w) i 0 ≡ get_or xs i 0
  put_other true i n = get_or-set_other xs f i w 0 (n refl)
  put_other false i n = refl

  put-here : (b : Bool) → f < length xs → get_or (put_if b xs f w) f 0 ≡ choose b w (get_or xs f 0)
  put-here true l = get_or-set_same xs f w 0 l
  put-here false l = refl

-- one site: no fault is caught there
pub put-none : {t p d m : ℕ} {b : Bool} {xs us : List ℕ} → 2 ≤ d → Put t p d b xs us m xs us m
put-none {t} {p} {d} h = let e = le-ltb d 2 h in record { number = rw (e, and-false, add-zero); marks = rw e; tallies = rw e }

-- or one, whose tally is n
module _ {t p d m n : ℕ} {b : Bool} {xs us vs : List ℕ} (h : d < 2) (q : n ≡ get_or us (2 * p + d) 0) (z : vs ≡ set us (2 * p + d) (n + 1)) where
  pub put-again : 0 < n → Put t p d b xs us m xs vs m
  put-again l =
      let e = ne_eqb n 0 (λ i. omega arith) in
      record { number = rw (lt-ltb d 2 h, ← q, e, and-false, add-zero); marks = rw (lt-ltb d 2 h, ← q, e); tallies = rw (lt-ltb d 2 h, ← q) z }

  pub put_first : {ys : List ℕ} {r : ℕ} → n ≡ 0 → ys ≡ set xs (2 * p + d) (0xE0000000 + t) → r ≡ m + choose b 1 0 → Put t p d b xs us m ys vs r
  put_first i s k =
      let e = eq-eqb n 0 i in
      record { number = rw (lt-ltb d 2 h, ← q, e, and-true) k; marks = rw (lt-ltb d 2 h, ← q, e) s; tallies = rw (lt-ltb d 2 h, ← q) z }

-- the counts of two tests that differ at one number k alone, which adds d
count-one : (p q : ℕ → Bool) (n k d : ℕ) → k < n → ((i : ℕ) → (i ≡ k → ⊥) → q i ≡ p i) → choose (q k) 1 0 ≡ choose (p k) 1 0 + d → count q n ≡ count p n + d
unfolding count
count-one p q zero k d l s e = absurd (omega arith)
count-one p q (suc n) k d l s e = elim (ℕ_discrete k n) [
  | yes i ↦ omega (arith, count_same q p n (λ j m. s j (λ o. omega arith)), rw i at e)
  | no o ↦ rw (s n (λ j. o (sym j))) (omega (arith, count-one p q n k d (omega arith) s e))
]

-- a catch: a fault that counts is one more with a tally where it had none
one-catch : (b : Bool) (n : ℕ) → choose (b && ltb 0 (n + 1)) 1 0 ≡ choose (b && ltb 0 n) 1 0 + choose (b && eqb n 0) 1 0
one-catch true zero = refl
one-catch true (suc n) = rw (lt-ltb 0 (suc n + 1) (omega arith), lt-ltb 0 (suc n) (omega arith), ne_eqb (suc n) 0 (λ e. omega arith))
one-catch false n = refl

-- how many that count have a tally then
found-put : (k : ℕ → Bool) (us : List ℕ) (n p d m : ℕ) (b : Bool) → (d < 2 → b ≡ k (2 * p + d)) → p < n → 2 * n ≤ length us → m ≡ found k us (2 * n)
    → m + choose (b && (ltb d 2 && eqb (get_or us (2 * p + d) 0) 0)) 1 0 ≡ found k (put_if (ltb d 2) us (2 * p + d) (get_or us (2 * p + d) 0 + 1)) (2 * n)
unfolding found
found-put k us n p d m b j h l e = elim (dec_lt d 2) [
  | yes g ↦
      let f = 2 * p + d in
      let w = get_or us f 0 + 1 in
      rw (lt-ltb d 2 g, e, j g) (sym (count-one (λ i. k i && ltb 0 (get_or us i 0)) (λ i. k i && ltb 0 (get_or (set us f w) i 0)) (2 * n) f _ (omega arith)
      (λ i o. ap (λ (r : ℕ). k i && ltb 0 r) (get_or-set_other us f i w 0 o))
      (rw (get_or-set_same us f w 0 (omega arith)) (one-catch (k f) (get_or us f 0)))))
  | no g ↦ rw (le-ltb d 2 (omega arith), and-false, add-zero) e
]

module _ {t : ℕ} where
  -- where the words ks of the sites tell which count
  pub found-more : (ks : List ℕ) {xs us ys vs : List ℕ} {n p d m r : ℕ} → Put t p d (eqb (get_or ks p 0) 1) xs us m ys vs r → p < n → 2 * n ≤ length us
      → m ≡ found (in_grade_by ks) us (2 * n) → r ≡ found (in_grade_by ks) vs (2 * n)
  found-more ks {xs} {us} {ys} {vs} {n} {p} {d} {m} {r} s h l e =
      let own : d < 2 → eqb (get_or ks p 0) 1 ≡ in_grade_by ks (2 * p + d) = λ b. let o : (2 * p + d) / 2 ≡ p = omega arith in rw o in
      s.number ∙ rw s.tallies (found-put (in_grade_by ks) us n p d m (eqb (get_or ks p 0) 1) own h l e)

  -- and the words of its two faults
  module _ {cs xs us ys vs zs ws : List ℕ} {p d m r : ℕ} {c : Bool} (s : Folded t p cs xs us ys vs) (e : d ≡ get_or cs p 0) (l : 2 * p + 1 < length ys)
      (k : 2 * p + 1 < length vs) (w : Put t p d c ys vs m zs ws r) where
    abbrev f : ℕ
    f = 2 * p + d

    off : (i : ℕ) → (d < 2 → i ≡ f → ⊥) → (get_or zs i 0 ≡ get_or ys i 0) × (get_or ws i 0 ≡ get_or vs i 0)
    off i o = (
      rw w.marks (put_other ys f (0xE0000000 + t) (ltb d 2 && eqb (get_or vs f 0) 0) i (λ b. o (ltb-true d 2 (and_elim_left (ltb d 2) (eqb (get_or vs f 0) 0) b)))),
      rw w.tallies (put_other vs f (get_or vs f 0 + 1) (ltb d 2) i (λ b. o (ltb-true d 2 b))),
    )

    mark-here : (i : ℕ) → i < 2 → get_or zs (2 * p + i) 0 ≡ next_mark t (eqb d i) (get_or us (2 * p + i) 0) (get_or xs (2 * p + i) 0)
    mark-here i h = elim (ℕ_discrete d i) [
      | yes z ↦
          let b : d < 2 = omega arith in
          let o = s.rest f (omega arith) in
          rw (← z, eq-eqb d d refl, w.marks, lt-ltb d 2 b, ← o.0, ← o.1) (put-here ys f (0xE0000000 + t) (eqb (get_or vs f 0) 0) (omega arith))
      | no z ↦ rw (ne_eqb d i z) ((off (2 * p + i) (λ b o. z (omega arith))).0 ∙ (s.rest (2 * p + i) (omega arith)).0)
    ]

    tally-here : (i : ℕ) → i < 2 → get_or ws (2 * p + i) 0 ≡ next_tally (eqb d i) (get_or us (2 * p + i) 0)
    tally-here i h = elim (ℕ_discrete d i) [
      | yes z ↦
          let b : d < 2 = omega arith in
          rw (← z, eq-eqb d d refl, w.tallies, lt-ltb d 2 b, ← (s.rest f (omega arith)).1) (put-here vs f (get_or vs f 0 + 1) true (omega arith))
      | no z ↦ rw (ne_eqb d i z, add-zero) ((off (2 * p + i) (λ b o. z (omega arith))).1 ∙ (s.rest (2 * p + i) (omega arith)).1)
    ]

    pub folded_more : Folded t (p + 1) cs xs us zs ws
    folded_more = record {
      mark = λ i j h b. elim (ℕ_discrete i p) [
        | yes z ↦ rw (z, ← e) (mark-here j b)
        | no z ↦ (off (2 * i + j) (λ g o. omega arith)).0 ∙ s.mark i j (omega arith) b
      ];
      tally = λ i j h b. elim (ℕ_discrete i p) [
        | yes z ↦ rw (z, ← e) (tally-here j b)
        | no z ↦ (off (2 * i + j) (λ g o. omega arith)).1 ∙ s.tally i j (omega arith) b
      ];
      rest = λ i h.
          let o = off i (λ g z. omega arith) in
          let q = s.rest i (omega arith) in
          (o.0 ∙ q.0, o.1 ∙ q.1);
    }

  -- the next site's tallies are still what they were
  pub tallies-rest : {n p : ℕ} {cs xs us ys vs : List ℕ} → TalliesUpTo t 0 n us → Folded t p cs xs us ys vs → 2 * p + 2 ≤ n → TalliesUpTo t (2 * p) (2 * p + 2) vs
  tallies-rest s w h = record { word = λ f b l. rw (w.rest f b).1 (s.word f (omega arith) (omega arith)) }

-- the faults that a result counts are no more than the faults
pub found-few : (k : ℕ → Bool) (us : List ℕ) (n : ℕ) → found k us n ≤ n
unfolding found
found-few k us n = count-le (λ f. k f && ltb 0 (get_or us f 0)) n

-- a result that counts by one test counts by another that tells the same of those faults
pub counted-as : {j k : ℕ → Bool} {n : ℕ} {xs us : List ℕ} {r : Running} → ((f : ℕ) → f < n → j f ≡ k f) → Counted j n xs us r → Counted k n xs us r
unfolding found
counted-as {j} {k} {n} {xs} {us} {r} h s = record {
  marks-long = s.marks-long;
  tallies-long = s.tallies-long;
  number = s.number ∙ count_same _ _ n (λ f l. ap (λ (b : Bool). b && ltb 0 (get_or us f 0)) (h f l));
  tallies-low = s.tallies-low;
}

-- one vector taken in: the next result counts the tallies after it
pub counted_next : {k : ℕ → Bool} {n m : ℕ} {r : Running} {cs xs us ys vs : List ℕ} → Counted k (2 * n) xs us r → Folded r.vector n cs xs us ys vs
    → length ys ≡ length xs → length vs ≡ length us → m ≡ found k vs (2 * n) → Counted k (2 * n) ys vs (record { vector = r.vector + 1; marked = m })
counted_next {k} {n} {m} {r} {cs} {xs} {us} {ys} {vs} s w l g e = record {
  marks-long = omega (arith, s.marks-long);
  tallies-long = omega (arith, s.tallies-long);
  number = e;
  tallies-low = record {
    word = λ f o h.
        let q : 2 * (f / 2) + f % 2 ≡ f = omega arith in
        rw (rw q at (w.tally (f / 2) (f % 2) (omega arith) (omega arith)))
        (omega (arith, s.tallies-low.word f o h, choose-bit (eqb (get_or cs (f / 2) 0) (f % 2)) 1 0 (omega arith) (omega arith)));
  };
}
