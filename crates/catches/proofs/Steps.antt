-- The steps of the functions, said of the definitions. Assumes nothing.
use Prim.Native.Nat.{ℕ, suc, ◌+◌, ◌-◌, ◌*◌, ◌<◌, ◌≤◌}
use mathlib.Core.Path.{◌≡◌, refl, sym, ap, ◌∙◌}
use mathlib.Core.List.{List}
use mathlib.Core.Bool.{Bool, true, false, not}
use native.Mathlib.Omega.{arith}
use lib.ListN.{length, get_or, set}
use lib.Dec.{eqb}
use Rattle.std.specs.Prelude.{Option, Some, None, cond}
use Rattle.std.specs.Option.{unwrap_or}
use Rattle.lists.specs.Counting.{choose}
use Rattle.lists.proofs.Tests.{and_none}
use Rattle.word32.specs.Fields.{exit_of}
use Rattle.answers.specs.declared.Counts.{Counts}
use Rattle.layout.specs.Layout.{first, size, reads, exits, decision}
use Rattle.layout.specs.Shape.{Shape}
use Rattle.layout.proofs.Firsts.{node-below, decides-bit}
use Rattle.layout.specs.Tables.{Decided, Ready}
use Rattle.layout.proofs.NodeNumbers.{walkable, first-is, decision-is, exit-is}
use Rattle.value.specs.Settings.{good}
use Rattle.value.specs.Values.{follow, node_value}
use Rattle.value.proofs.Walk.{follow-same}
use Rattle.value.proofs.Run.{taken_is}
use Rattle.detect.specs.Detects.{good_value}
use Rattle.rules.specs.Rules.{active, critical, exit_value, critical_node}
use Rattle.rules.proofs.Changes.{good-bit}
use Rattle.sweep.specs.Swept.{Swept}
use Rattle.catches.specs.Caught.{caught_at}
use Rattle.catches.specs.ActivePath.{ActivePath}
use Rattle.catches.specs.Good.{Bits}
use Rattle.catches.specs.Words.{Along}
use Rattle.catches.proofs.ActivePath.{path-active, path-onward, path-idle, path-reached}
use Rattle.catches.proofs.Caught.{node-caught, graph-caught}
use Rattle.catches.proofs.Words.{along-more, along-quiet}

-- what is caught, as a word: 2 where nothing is
pub caught-word : (b : Bool) (n : ℕ) {o : Option ℕ} {v : ℕ} → o ≡ cond b (Some n) None → v ≡ unwrap_or o 2 → v ≡ choose b n 2
caught-word true n e q = q ∙ ap (λ (o : Option ℕ). unwrap_or o 2) e
caught-word false n e q = q ∙ ap (λ (o : Option ℕ). unwrap_or o 2) e

-- good values are bits
pub swept-bits : {ws x values : List ℕ} {c : Counts} → Shape ws c → Swept ws c x c.graphs values → Bits c values
swept-bits {ws} {x} a p = record { long = p.long; bit = λ g h. rw (p.graphs g h) (good-bit a x g h) }

-- and so is a node's decision by them
pub read-bit : {ws tables xs : List ℕ} {c : Counts} (y : Ready ws c tables) → Bits c xs → {g k f : ℕ} → g < c.graphs → k < size ws g → f ≡ get_or tables g 0
    → {d : ℕ} → Decided ws (g + 1 + 2 * (f + k)) xs c.nodes d → d < 2
read-bit {ws} {tables} {xs} {c} y b {g} {k} h l e q =
    let r = b.bit (reads ws g k) (omega (arith, y.shape.reads-lower g h k l)) in
    rw (decision-is (walkable y h) l e (λ r. get_or xs (c.nodes + r) 0) xs c.nodes q refl r) (decides-bit ws g k _ r)

-- what is caught at local node k of graph g
module _ {ws : List ℕ} {c : Counts} (a : Shape ws c) (x : List ℕ) {g k : ℕ} (h : g < c.graphs) (l : k < size ws g) where
  decision-bit : decision ws (good_value ws c x) g k < 2
  decision-bit = decides-bit ws g k _ (good-bit a x (reads ws g k) (omega (arith, a.reads-lower g h k l)))

  -- at the node that is due, where the graph is critical
  pub path-word : {v : ℕ} → ActivePath ws c x g k (k + 2) → critical ws c x g ≡ true
      → v ≡ choose (not (eqb (exit_value ws c x g k 0) (exit_value ws c x g k 1))) (1 - decision ws (good_value ws c x) g k) 2 → v ≡ caught_at ws c x (first ws g + k)
  unfolding critical_node
  path-word d q u = u ∙ sym (rw (node-caught a x g k h l decision-bit, path-active a x g h l d, q))

  -- and at one that is not active
  pub idle-word : active ws c x g k ≡ false → caught_at ws c x (first ws g + k) ≡ 2
  unfolding critical_node
  idle-word d = rw (node-caught a x g k h l decision-bit, d)

  -- nor at any node where the graph is not critical
  pub quiet_word : critical ws c x g ≡ false → caught_at ws c x (first ws g + k) ≡ 2
  unfolding critical_node
  quiet_word d = rw (node-caught a x g k h l decision-bit, d) (ap (λ (b : Bool). choose b (1 - decision ws (good_value ws c x) g k) 2) (and_none (active ws c x g k) refl))

-- where the values of a sweep are at hand
module _ {ws x tables values : List ℕ} {c : Counts} (y : Ready ws c tables) (p : Swept ws c x c.graphs values) where
  -- local node k of graph g, whose first node the table gives as f: the good value of an exit, its decision d, what is caught there
  module _ {g k f : ℕ} (h : g < c.graphs) (l : k < size ws g) (e : f ≡ get_or tables g 0) where
    exit-value-is : (d : ℕ) → follow (λ i. get_or values (f + i) 0) (exit_of (get_or ws (g + 2 + 2 * (f + k)) 0) d) ≡ exit_value ws c x g k d
    unfolding exit_value
    exit-value-is d =
        ap (follow (λ i. get_or values (f + i) 0)) (exit-is (walkable y h) l e d refl)
        ∙ follow-same (λ i. get_or values (f + i) 0) (node_value ws c good x g) (exits ws g k d) (λ i z.
        let r = y.shape.exits-later g h k d i l z in
        ap (λ (n : ℕ). get_or values (n + i) 0) (first-is (walkable y h) e) ∙ p.nodes g i h r.1)

    pub decision-good : {d : ℕ} → Decided ws (g + 1 + 2 * (f + k)) values c.nodes d → d ≡ decision ws (good_value ws c x) g k
    decision-good q =
        let r : reads ws g k < c.graphs = omega (arith, y.shape.reads-lower g h k l) in
        decision-is (walkable y h) l e (good_value ws c x) values c.nodes q (p.graphs (reads ws g k) r) (good-bit y.shape x (reads ws g k) r)

    pub there-is : {d r : ℕ} → d ≡ decision ws (good_value ws c x) g k
        → r ≡ choose (not (eqb (follow (λ i. get_or values (f + i) 0) (exit_of (get_or ws (g + 2 + 2 * (f + k)) 0) 0))
        (follow (λ i. get_or values (f + i) 0) (exit_of (get_or ws (g + 2 + 2 * (f + k)) 0) 1)))) (1 - d) 2
        → r ≡ choose (not (eqb (exit_value ws c x g k 0) (exit_value ws c x g k 1))) (1 - decision ws (good_value ws c x) g k) 2
    there-is q u = rw (← exit-value-is 0, ← exit-value-is 1, ← q) u

  -- graph g as a whole
  module _ {g : ℕ} (h : g < c.graphs) where
    pub graph-word : {w : Bool} {v r : ℕ} → w ≡ critical ws c x g → v ≡ get_or values (c.nodes + g) 0 → r ≡ choose w (1 - v) 2 → r ≡ caught_at ws c x (c.nodes + g)
    graph-word q u z =
        z ∙ rw (q, u ∙ p.graphs g h) (sym (graph-caught y.shape x g h (good-bit y.shape x g h)))

    -- a graph that is not critical
    pub quiet-nodes : {xs ys : List ℕ} → critical ws c x g ≡ false → Along ws c x g 0 xs ys → Along ws c x g (size ws g) xs ys
    quiet-nodes d s = along-quiet s (λ i b. quiet_word y.shape x h b d)

    -- THE PATH AT ITS NODE k: the node's store, where the exit taken is a constant, and where it is a later node
    module _ {k f v b e : ℕ} {xs ys zs : List ℕ} (l : k < size ws g) (u : f ≡ get_or tables g 0) (q : critical ws c x g ≡ true)
        (s : Along ws c x g k xs ys) (d : ActivePath ws c x g k (k + 2)) (m : c.nodes ≤ length ys)
        (o : Decided ws (g + 1 + 2 * (f + k)) values c.nodes b)
        (r : v ≡ choose (not (eqb (follow (λ i. get_or values (f + i) 0) (exit_of (get_or ws (g + 2 + 2 * (f + k)) 0) 0))
        (follow (λ i. get_or values (f + i) 0) (exit_of (get_or ws (g + 2 + 2 * (f + k)) 0) 1)))) (1 - b) 2)
        (z : zs ≡ set ys (f + k) v) (t : e ≡ exit_of (get_or ws (g + 2 + 2 * (f + k)) 0) b) where
      onward : ActivePath ws c x g (k + 1) e
      onward = rw (← taken_is (walkable y h) l u good (good_value ws c x) (decision-good h l u o) t) (path-onward y.shape x g h l d)

      path-stored : (n : ℕ) → k < n → ((i : ℕ) → i < n → (j : ℕ) → e ≡ suc (suc j) → i < j) → Along ws c x g n xs zs
      path-stored n a b =
          along-more s l (omega (arith, node-below y.shape g k h l)) (z ∙ ap (λ (i : ℕ). set ys (i + k) v) (first-is (walkable y h) u)) (path-word y.shape x h l d q (there-is h l u (decision-good h l u o) r)) a
          (λ i p w o. idle-word y.shape x h o (path-idle y.shape x g h onward i (omega arith) o (b i w)))

      pub path-ends : e < 2 → Along ws c x g (size ws g) xs zs
      path-ends b = path-stored (size ws g) l (λ i p j w. absurd (omega arith))

      pub path-goes : 2 ≤ e → (k < e - 2) × (e - 2 < size ws g) × Along ws c x g (e - 2) xs zs × ActivePath ws c x g (e - 2) (e - 2 + 2)
      path-goes b =
          let w : e ≡ suc (suc (e - 2)) = omega arith in
          let o = onward.later (e - 2) w in
          (omega (arith, o.0), o.1, path-stored (e - 2) (omega (arith, o.0)) (λ i p j n. omega arith), path-reached y.shape x g h onward (e - 2) w)
