-- One vector taken in, and a block of them. Assumes nothing.
use Prim.Native.Nat.{ℕ, zero, suc, ◌+◌, ◌*◌, ◌-◌, ◌/◌, ◌%◌, ◌<◌}
use mathlib.Core.Path.{◌≡◌, refl, sym, ap, ◌∙◌}
use mathlib.Core.List.{List}
use mathlib.Core.Bool.{Bool, true, false, not, ◌&&◌}
use native.Mathlib.Omega.{arith}
use native.Mathlib.Decide.{dec_lt}
use native.Mathlib.Numerals.{add-one}
use lib.ListN.{get_or}
use lib.Dec.{eqb}
use borrow.Author.Tests.{ne_eqb}
use Rattle.lists.specs.Counting.{choose}
use Rattle.lists.proofs.Counting.{count_next}
use Rattle.answers.specs.declared.Counts.{Counts}
use Rattle.layout.specs.Layout.{first, size, reads, decision, stands_in}
use Rattle.layout.specs.Shape.{Shape}
use Rattle.layout.proofs.Firsts.{decides-bit}
use Rattle.detect.specs.Detects.{good_value, detects}
use Rattle.detect.specs.Grading.{detected_by}
use Rattle.detect.proofs.Relation.{mark_of-next}
use Rattle.layout.proofs.Stands.{owner}
use Rattle.cardtables.specs.Stems.{in_grade}
use Rattle.rules.specs.Rules.{critical, critical_node}
use Rattle.rules.proofs.Changes.{good-bit}
use Rattle.rules.proofs.ByRules.{graph-told, node-told}
use Rattle.catches.specs.Caught.{caught_at}
use Rattle.catches.specs.Detections.{Detections}
use Rattle.catches.proofs.Caught.{node-caught, graph-caught}
use Rattle.testvectors.specs.Vectors.{vector}
use Rattle.running.specs.Running.{Folded, Counted}
use Rattle.running.specs.declared.Running.{Running}
use Rattle.block.specs.Block.{GradedBy, TookIn}

-- the fault stuck at d is caught where a site of value v is critical and d the opposite
opposite-is : (b : Bool) (v d : ℕ) → v < 2 → d < 2 → eqb (choose b (1 - v) 2) d ≡ b && not (eqb d v)
opposite-is true zero zero h l = refl
opposite-is true zero (suc zero) h l = refl
opposite-is true zero (suc (suc d)) h l = absurd (omega arith)
opposite-is true (suc zero) zero h l = refl
opposite-is true (suc zero) (suc zero) h l = refl
opposite-is true (suc zero) (suc (suc d)) h l = absurd (omega arith)
opposite-is true (suc (suc v)) d h l = absurd (omega arith)
opposite-is false v d h l = ne_eqb 2 d (λ e. omega arith)

module _ {ws : List ℕ} {c : Counts} (a : Shape ws c) (x : List ℕ) where
  -- what is told of a site tells of both its faults
  node-detects : (g k d : ℕ) → g < c.graphs → k < size ws g → d < 2 → eqb (caught_at ws c x (first ws g + k)) d ≡ detects ws c x (2 * (first ws g + k) + d)
  node-detects g k d h l b =
      let v = decides-bit ws g k _ (good-bit a x (reads ws g k) (omega (arith, a.reads-lower g h k l))) in
      rw (node-caught a x g k h l v, node-told a x g k d h l b) (opposite-is (critical_node ws c x g k) (decision ws (good_value ws c x) g k) d v b)

  graph-detects : (g d : ℕ) → g < c.graphs → d < 2 → eqb (caught_at ws c x (c.nodes + g)) d ≡ detects ws c x (2 * (c.nodes + g) + d)
  graph-detects g d h b =
      let v = good-bit a x g h in
      rw (graph-caught a x g h v, graph-told a x g d h b) (opposite-is (critical ws c x g) (good_value ws c x g) d v b)

  -- so the word of a site does, whichever graph it is of
  module _ {cs : List ℕ} (w : Detections ws c x 0 cs) where
    caught-is : (p d : ℕ) → p < c.nodes + c.graphs → d < 2 → eqb (get_or cs p 0) d ≡ detects ws c x (2 * p + d)
    caught-is p d h b = elim (dec_lt p c.nodes) [
      | yes l ↦
          let g = stands_in ws p c.graphs in
          let o = owner ws c.graphs p (rw a.nodes-in l) in
          let k = p - first ws g in
          let m : k < size ws g = omega (arith, o.1, o.2) in
          let e : first ws g + k ≡ p = omega (arith, o.1) in
          rw e at (ap (λ (r : ℕ). eqb r d) (w.nodes g k (omega arith) o.0 m) ∙ node-detects g k d o.0 m b)
      | no n ↦
          let g = p - c.nodes in
          let l : g < c.graphs = omega arith in
          let e : c.nodes + g ≡ p = omega arith in
          rw e at (ap (λ (r : ℕ). eqb r d) (w.graphs g (omega arith) l) ∙ graph-detects g d l b)
    ]

    -- ONE VECTOR: of any relation in which it is vector t, it takes the marks and tallies of the first t vectors to those of one more
    graded-more : {t : ℕ} {ys us zs ts ms os : List ℕ} → Folded t (c.nodes + c.graphs) cs ys us zs ts → (catches : ℕ → ℕ → Bool)
        → ((f : ℕ) → catches f t ≡ detects ws c x f) → GradedBy catches c.faults t ms os ys us → GradedBy catches c.faults (suc t) ms os zs ts
    graded-more {t} s catches e g = record {
      mark = λ f h.
          (rw (whole f, told f h, g.tally f h, g.mark f h) at (s.mark (f / 2) (f % 2) (inside f h) (omega arith))) ∙ sym (mark_of-next catches t f);
      tally = λ f h. (rw (whole f, told f h, g.tally f h) at (s.tally (f / 2) (f % 2) (inside f h) (omega arith))) ∙ sym (count_next (catches f) t);
      rest = λ f h.
          let o = s.rest f (omega (arith, a.all-faults)) in
          (o.0 ∙ (g.rest f h).0, o.1 ∙ (g.rest f h).1);
    }
      where
        whole : (f : ℕ) → 2 * (f / 2) + f % 2 ≡ f
        whole f = omega arith

        inside : (f : ℕ) → f < c.faults → f / 2 < c.nodes + c.graphs
        inside f h = omega (arith, a.all-faults)

        told : (f : ℕ) → f < c.faults → eqb (get_or cs (f / 2) 0) (f % 2) ≡ catches f t
        told f h = rw (e f) (rw (whole f) at (caught-is (f / 2) (f % 2) (inside f h) (omega arith)))

-- the sites' faults are all the faults
pub all-sites : {ws : List ℕ} {c : Counts} → Shape ws c → 2 * (c.nodes + c.graphs) ≡ c.faults
all-sites a = omega (arith, a.all-faults)

-- THE BLOCK: after one more vector
module _ {ws : List ℕ} {c : Counts} {vs xs us : List ℕ} {r : Running} where
  pub took_more : {n : ℕ} {cs ys ts zs ss : List ℕ} {q p : Running} → Shape ws c → Detections ws c (vector c.inputs vs n) 0 cs → TookIn ws c vs n xs us ys ts r q
      → p.vector ≡ q.vector + 1 → Folded q.vector (c.nodes + c.graphs) cs ys ts zs ss → Counted (in_grade ws c) c.faults zs ss p
      → TookIn ws c vs (n + 1) xs us zs ss r p
  unfolding detected_by
  took_more {n} a w s v d k = record {
    vector = omega (arith, s.vector);
    graded = λ catches e g.
        rw (v, add-one) (graded-more a _ w d catches (λ f. rw s.vector (e f n (omega arith))) (s.graded catches (λ f i l. e f i (omega arith)) g));
    counted = k;
  }
