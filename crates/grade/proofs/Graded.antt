-- A list of vectors, taken in block by block. Assumes nothing.
use Prim.Native.Nat.{ℕ, ◌+◌, ◌-◌, ◌*◌, ◌/◌, ◌<◌, ◌≤◌}
use mathlib.Core.Path.{◌≡◌, refl, sym, ap, ◌∙◌}
use mathlib.Core.List.{List}
use mathlib.Core.Bool.{Bool, ◌&&◌}
use native.Mathlib.Omega.{arith}
use native.Mathlib.Nat.{add-mul, mul-le-mul}
use lib.ListN.{length, get_or, take, drop, length-drop}
use lib.Seq.{length-take-le, get_or-take, get_or-drop}
use lib.Dec.{ltb}
use Rattle.lists.specs.Counting.{count, least}
use Rattle.lists.specs.Tables.{over, always}
use Rattle.lists.proofs.Counting.{count_same}
use Rattle.lists.proofs.Tables.{tab-same, tab-self, over-at, over-rest, over-front, over-is, length_over}
use Rattle.answers.specs.declared.Counts.{Counts}
use Rattle.cardtables.specs.Stems.{in_grade}
use Rattle.testvectors.specs.Vectors.{width, vectors}
use Rattle.testvectors.specs.Parts.{Part}
use Rattle.testvectors.proofs.Parts.{width_few, part-ends, part_of}
use Rattle.detect.specs.Detects.{detects}
use Rattle.detect.specs.Grading.{detected_by, tally, mark, marked}
use Rattle.running.specs.Running.{found, Counted}
use Rattle.running.specs.declared.Running.{Running}
use Rattle.block.specs.Block.{GradedBy, BlockEnd, Block, TookIn, Begun}
use Rattle.grade.specs.Graded.{Graded, CardWithList, GradedList}

-- how many vectors a list of k words has
vectors-are : (m : ℕ) (vs : List ℕ) {w k : ℕ} → w ≡ width m → k ≡ length vs → k / w ≡ vectors m vs
unfolding vectors
vectors-are m vs q l = rw (q, l)

-- n words of a list from s on, put to the front of a buffer
part-put : (vs d : List ℕ) (s n : ℕ) {out : List ℕ} → s + n ≤ length vs → out ≡ over n (λ i. get_or vs (s + i) 0) d → take n out ≡ take n (drop s vs)
part-put vs d s n h o =
    let part = take n (drop s vs) in
    let long : length part ≡ n = length-take-le n (drop s vs) (rw length-drop (omega arith)) in
    rw o (over-front (λ i. get_or vs (s + i) 0) d n)
    ∙ tab-same (λ i. get_or vs (s + i) 0) (λ i. get_or part i 0) n (λ i l. sym (get_or-take n (drop s vs) i 0 l ∙ get_or-drop s vs i 0))
    ∙ rw long at (tab-self part)

-- ONE BLOCK of a list of k words, vectors t to e - 1: its words stand inside the list, and it is a part of the list
module _ {ws : List ℕ} {c : Counts} {vs : List ℕ} {t n e w k : ℕ} (y : CardWithList ws c vs) (q : w ≡ width c.inputs) (l : k ≡ length vs) (z : BlockEnd t n e) (m : n ≤ k / w) where
  many : n ≤ vectors c.inputs vs
  many = omega (arith, vectors-are c.inputs vs q l)

  few_words : w ≤ 64
  few_words = rw q (width_few c.inputs (omega (arith, y.shape.inputs_in, y.shape.few-graphs)))

  pub list-ends : (t * w ≤ e * w) × (e * w ≤ length vs) × (e * w ≤ 65535 * 64)
  list-ends =
      let s = part-ends c.inputs w t e (vectors c.inputs vs) q (omega (arith, z.some)) (omega (arith, z.inside, many)) in
      let b : e ≤ 65535 = omega (arith, y.few, z.inside, many) in
      (s.0, rw y.whole s.1, mul-le-mul b few_words)

  -- there is room for its words
  pub list-fits : e * w - t * w ≤ 4096
  list-fits =
      let d = e - t in
      let s : e * w ≡ t * w + d * w = let u : e ≡ t + d = omega (arith, z.some) in ap (λ (k : ℕ). k * w) u ∙ add-mul t d w in
      let b : d ≤ 64 = omega (arith, z.few) in
      omega (arith, s, mul-le-mul b few_words)

  -- they are put to the front of a buffer
  pub list-part : (d : List ℕ) {out : List ℕ} → out ≡ over (e * w - t * w) (λ i. get_or vs (t * w + i) 0) d → Part c.inputs vs t (e - t) (take (e * w - t * w) out)
  list-part d {out} o =
      part_of c.inputs vs t e y.some-input (omega (arith, z.some)) (rw (← q) list-ends.1) (take (e * w - t * w) out) (e * w - t * w) (t * w) (rw q refl) (rw q refl)
      (part-put vs d (t * w) (e * w - t * w) (omega (arith, list-ends)) o)

  pub block_of : {v : ℕ} {bs : List ℕ} → Part c.inputs vs t (e - t) bs → v ≡ t → Block c bs v
  block_of p v = record { some-input = y.some-input; whole = p.whole; few = omega (arith, p.number, y.few, z.inside, z.some, many) }

module _ (ws : List ℕ) (c : Counts) (vs : List ℕ) where
  module _ {t n e : ℕ} {bs : List ℕ} (p : Part c.inputs vs t (e - t) bs) (h : BlockEnd t n e) where
    same : (f i : ℕ) → i < e - t → detected_by ws c vs f (t + i) ≡ detected_by ws c bs f i
    unfolding detected_by
    same f i l = ap (λ (x : List ℕ). detects ws c x f) (sym (p.same i l))

    module _ {ys us zs ts : List ℕ} {r q : Running} (v : r.vector ≡ t) (k : TookIn ws c bs (vectors c.inputs bs) ys us zs ts r q) where
      pub block-number : q.vector ≡ e
      block-number = omega (arith, k.vector, p.number, h.some)

      -- it takes the marks and tallies of the first t vectors to those of the first e
      pub graded-block : {xs os : List ℕ} → Graded ws c vs t xs os ys us → Graded ws c vs e xs os zs ts
      graded-block s = rw block-number at (k.graded (detected_by ws c vs) (λ f i l. rw v (same f i (omega (arith, p.number)))) (rw (← v) at s))

  -- THE WHOLE LIST, of k words: the marked count, and each word of both buffers
  pub graded-last : {xs us ys ts : List ℕ} {t w k : ℕ} {r q : Running} → w ≡ width c.inputs → k ≡ length vs → t ≡ k / w
      → Counted (in_grade ws c) c.faults xs us r → Counted (in_grade ws c) c.faults ys ts q → length ys ≡ length xs → length ts ≡ length us
      → Graded ws c vs t xs us ys ts → GradedList ws c vs q.marked xs us ys ts
  unfolding found marked mark tally
  graded-last {xs} {us} {ys} {ts} o l all a b d e g =
      let s = rw (all ∙ vectors-are c.inputs vs o l) at g in
      record {
        number = b.number ∙ count_same _ _ c.faults (λ f h. ap (λ (n : ℕ). in_grade ws c f && ltb 0 n) (s.tally f h));
        marks-put = over-is (mark ws c vs) xs ys c.faults a.marks-long d s.mark (λ f h. (s.rest f h).0);
        tallies-put = over-is (tally ws c vs) us ts c.faults a.tallies-long e s.tally (λ f h. (s.rest f h).1);
      }

-- before the first vector no fault is marked, and every tally is 0
pub graded-none : {catches : ℕ → ℕ → Bool} {F : ℕ} {ys ts : List ℕ} (xs us : List ℕ) → ys ≡ over F (always 0xC0000000) xs → ts ≡ over F (always 0) us
    → GradedBy catches F 0 ys ts ys ts
unfolding count least
graded-none {F = F} xs us e z = record {
  mark = λ f h. rw e (over-at (always 0xC0000000) xs F f h);
  tally = λ f h. rw z (over-at (always 0) us F f h);
  rest = λ f h. (refl, refl);
}

-- and what is written over that is written over the buffers that were lent
over-begun : (v : ℕ) (g : ℕ → ℕ) (n : ℕ) {ys zs : List ℕ} (xs : List ℕ) → n ≤ length xs → ys ≡ over n (always v) xs → zs ≡ over n g ys → zs ≡ over n g xs
over-begun v g n {ys} {zs} xs h e q =
    let k : length ys ≡ length xs = rw e (length_over (always v) xs n h) in
    let m : length zs ≡ length ys = rw q (length_over g ys n (omega (arith, k))) in
    over-is g xs zs n h (m ∙ k) (λ i l. rw q (over-at g ys n i l)) (λ i l.
    let o : get_or zs i 0 ≡ get_or ys i 0 = rw q (over-rest g ys n i l) in
    o ∙ rw e (over-rest (always v) xs n i l))

pub graded-begun : {ws : List ℕ} {c : Counts} {vs xs us ys ts zs os : List ℕ} {n : ℕ} {r : Running} → Begun c xs us ys ts r → c.faults ≤ length xs → c.faults ≤ length us
    → GradedList ws c vs n ys ts zs os → GradedList ws c vs n xs us zs os
graded-begun b l m g = record {
  number = g.number;
  marks-put = over-begun _ _ _ _ l b.marks g.marks-put;
  tallies-put = over-begun _ _ _ _ m b.tallies g.tallies-put;
}
