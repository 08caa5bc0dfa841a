-- A grading over any relation: it goes by the relation alone; one vector more; and a fault is unmarked exactly when its tally is 0. Assumes nothing.
use Prim.Native.Nat.{ℕ, suc, ◌+◌, ◌<◌, ◌≤◌}
use mathlib.Core.Path.{◌≡◌, sym, ap, ap₂, ◌∙◌}
use mathlib.Core.Bool.{Bool, true, false, not, ◌&&◌}
use native.Mathlib.Omega.{arith}
use native.Mathlib.Decide.{dec_lt}
use lib.Dec.{ltb, eqb}
use borrow.Author.Tests.{eq-eqb, ne_eqb, lt-ltb, le-ltb, ltb-true, ltb-false}
use Rattle.lists.specs.Counting.{choose, count, least}
use Rattle.lists.proofs.Counting.{count_same, least-same, least_kept, least-new, found-counted}
use Rattle.lists.proofs.Tests.{and-false, and-true, differ, agree}
use Rattle.detect.specs.Relation.{tally_of, mark_of, marked_of}

-- where the same vectors catch f by p and g by q, f has the tally and the mark of g
module _ (p q : ℕ → ℕ → Bool) (n : ℕ) where
  pub tally_of-same : (f g : ℕ) → ((t : ℕ) → t < n → p f t ≡ q g t) → tally_of p n f ≡ tally_of q n g
  tally_of-same f g = count_same (p f) (q g) n

  pub mark_of-same : (f g : ℕ) → ((t : ℕ) → t < n → p f t ≡ q g t) → mark_of p n f ≡ mark_of q n g
  mark_of-same f g s = ap (λ (i : ℕ). choose (ltb i n) (0xE0000000 + i) 0xC0000000) (least-same (p f) (q g) n s)

  -- and where the same faults count, as many are marked
  pub marked_of-same : (k l : ℕ → Bool) (F : ℕ) → ((f : ℕ) → f < F → k f ≡ l f) → ((f t : ℕ) → f < F → t < n → p f t ≡ q f t)
      → marked_of p k n F ≡ marked_of q l n F
  marked_of-same k l F e s = count_same _ _ F (λ f h. ap₂ (λ (b : Bool) (m : ℕ). b && ltb 0 m) (e f h) (tally_of-same f f (λ t. s f t h)))

module _ (p : ℕ → ℕ → Bool) (n : ℕ) where
  module _ (f : ℕ) where
    -- one vector more: the first that catches the fault makes its mark, which stays
    pub mark_of-next : mark_of p (suc n) f ≡ choose (p f n && eqb (tally_of p n f) 0) (0xE0000000 + n) (mark_of p n f)
    mark_of-next = elim (dec_lt (least (p f) n) n) [
      | yes l ↦
          let q = ltb-true 0 (tally_of p n f) (sym (found-counted (p f) n) ∙ lt-ltb (least (p f) n) n l) in
          rw (least_kept (p f) n l, lt-ltb (least (p f) n) (suc n) (omega arith), lt-ltb (least (p f) n) n l, ne_eqb (tally_of p n f) 0 (λ e. omega arith), and-false (p f n))
      | no m ↦
          let l : n ≤ least (p f) n = omega arith in
          let q = ltb-false 0 (tally_of p n f) (sym (found-counted (p f) n) ∙ le-ltb (least (p f) n) n l) in
          rw (least-new (p f) n l, le-ltb (least (p f) n) n l, eq-eqb (tally_of p n f) 0 (omega arith), and-true (p f n)) (last (p f n))
    ]
      where
        last : (b : Bool) → choose (ltb (choose b n (suc n)) (suc n)) (0xE0000000 + choose b n (suc n)) 0xC0000000 ≡ choose b (0xE0000000 + n) 0xC0000000
        last true = rw (lt-ltb n (suc n) (omega arith))
        last false = rw (le-ltb (suc n) (suc n) (omega arith))

    -- A FAULT'S TALLY IS 0 EXACTLY WHEN IT IS UNMARKED
    pub mark_of-none : (tally_of p n f ≡ 0 → mark_of p n f ≡ 0xC0000000) × (mark_of p n f ≡ 0xC0000000 → tally_of p n f ≡ 0)
    mark_of-none = (
      λ e. rw (found-counted (p f) n, e),
      λ e. elim (dec_lt 0 (tally_of p n f)) [
        | yes l ↦ let z : 0xE0000000 + least (p f) n ≡ 0xC0000000 = rw (found-counted (p f) n, lt-ltb 0 (tally_of p n f) l) at e in absurd (omega arith)
        | no m ↦ omega arith
      ],
    )

  -- so the marked count is that of the faults that have a mark
  pub marked_of-marks : (k : ℕ → Bool) (F : ℕ) → marked_of p k n F ≡ count (λ f. k f && not (eqb (mark_of p n f) 0xC0000000)) F
  marked_of-marks k F = count_same _ _ F (λ f h. ap (k f &&◌) (elim (dec_lt 0 (tally_of p n f)) [
    | yes l ↦ lt-ltb 0 (tally_of p n f) l ∙ sym (differ (mark_of p n f) 0xC0000000 (λ e. omega (arith, (mark_of-none f).1 e)))
    | no m ↦ le-ltb 0 (tally_of p n f) (omega arith) ∙ sym (agree (mark_of p n f) 0xC0000000 ((mark_of-none f).0 (omega arith)))
  ]))
