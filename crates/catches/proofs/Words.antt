-- How the words of one graph, and then of all graphs, come into the buffer. Assumes nothing.
use Prim.Native.Nat.{ℕ, ◌+◌, ◌-◌, ◌<◌, ◌≤◌}
use mathlib.Core.Path.{◌≡◌, refl, sym, ◌∙◌}
use mathlib.Core.List.{List}
use native.Mathlib.Omega.{arith}
use native.Mathlib.Decide.{ℕ_discrete, dec_lt}
use lib.ListN.{length, get_or, set, length-set}
use lib.Seq.{get_or-set_same, get_or-set_other}
use Rattle.answers.specs.declared.Counts.{Counts}
use Rattle.layout.specs.Layout.{first, size}
use Rattle.layout.specs.Shape.{Shape}
use Rattle.layout.proofs.Firsts.{apart, first-few, node-below}
use Rattle.layout.specs.Tables.{Ready}
use Rattle.layout.proofs.NodeNumbers.{walkable, size_is}
use Rattle.catches.specs.Caught.{caught_at}
use Rattle.catches.specs.Detections.{Detections}
use Rattle.catches.specs.Words.{Cleared, Along}

-- a run of no words that become 2
pub clear_none : (a : ℕ) (xs : List ℕ) → Cleared a a xs xs
clear_none a xs = record { long = refl; inside = λ j p q. absurd (omega arith); outside = λ j n. refl }

module _ {ws : List ℕ} {c : Counts} {g : ℕ} where
  -- the nodes of a graph, as the table of first nodes gives them
  pub nodes-inside : {tables : List ℕ} → Ready ws c tables → g < c.graphs → (get_or tables g 0 ≤ get_or tables (g + 1) 0) × (get_or tables (g + 1) 0 ≤ c.nodes)
  nodes-inside y h = (omega (arith, size_is (walkable y h) refl refl), rw (y.table (g + 1) (omega arith)) (first-few y.shape (g + 1) (omega arith)))

  pub nodes-cleared : {x tables xs ys : List ℕ} → Ready ws c tables → g < c.graphs → Cleared (get_or tables g 0) (get_or tables (g + 1) 0) xs ys → Along ws c x g 0 xs ys
  nodes-cleared {x} {tables} {xs} {ys} y h s =
      let z = (walkable y h).here in
      let m = (walkable y h).next in
      record {
        long = s.long;
        below = λ i p q. absurd (omega arith);
        onward = λ i p q. s.inside (first ws g + i) (omega arith) (omega arith);
        outside = λ j r. s.outside j (λ p q. r (j - first ws g) (omega arith) (omega arith));
      }

module _ {ws : List ℕ} {c : Counts} {x : List ℕ} {g : ℕ} where
  -- one node stored, and those up to m where nothing is caught
  pub along-more : {k m v : ℕ} {xs ys zs : List ℕ} → Along ws c x g k xs ys → k < size ws g → first ws g + k < length ys
      → zs ≡ set ys (first ws g + k) v → v ≡ caught_at ws c x (first ws g + k)
      → k < m → ((i : ℕ) → k < i → i < m → i < size ws g → caught_at ws c x (first ws g + i) ≡ 2) → Along ws c x g m xs zs
  along-more {k} {m} {v} {xs} {ys} s l r z e q idle =
      let j = first ws g + k in
      let other : (i : ℕ) → (i ≡ k → ⊥) → get_or (set ys j v) (first ws g + i) 0 ≡ get_or ys (first ws g + i) 0 =
      λ i n. get_or-set_other ys j (first ws g + i) v 0 (λ u. n (omega arith)) in
      rw z (record {
        long = simp length-set s.long;
        below = λ i p b. elim (ℕ_discrete i k) [
          | yes u ↦ rw u (get_or-set_same ys j v 0 r ∙ e)
          | no n ↦ other i n ∙ elim (dec_lt i k) [
            | yes w ↦ s.below i w b
            | no w ↦ s.onward i (omega arith) b ∙ sym (idle i (omega arith) p b)
          ]
        ];
        onward = λ i p b. other i (λ u. omega arith) ∙ s.onward i (omega arith) b;
        outside = λ i n. get_or-set_other ys j i v 0 (λ u. n k l u) ∙ s.outside i n;
      })

  -- a graph with nothing caught at any node
  pub along-quiet : {xs ys : List ℕ} → Along ws c x g 0 xs ys → ((i : ℕ) → i < size ws g → caught_at ws c x (first ws g + i) ≡ 2) → Along ws c x g (size ws g) xs ys
  along-quiet s idle = record {
    long = s.long;
    below = λ i p b. s.onward i (omega arith) b ∙ sym (idle i b);
    onward = λ i p b. absurd (omega arith);
    outside = s.outside;
  }

  pub along-start : {xs ys : List ℕ} → Along ws c x g 0 xs ys → Along ws c x g 0 ys ys
  along-start s = record { long = refl; below = s.below; onward = s.onward; outside = λ j n. refl }

  pub along_then : {k m : ℕ} {xs ys zs : List ℕ} → Along ws c x g k xs ys → Along ws c x g m ys zs → Along ws c x g m xs zs
  along_then s r = record { long = r.long ∙ s.long; below = r.below; onward = r.onward; outside = λ j n. r.outside j n ∙ s.outside j n }

-- the graph's own word, after those of its nodes, and the graphs above it
pub detections-more : {ws : List ℕ} {c : Counts} → Shape ws c → {x xs ys zs : List ℕ} {g u : ℕ} → g < c.graphs → Detections ws c x (g + 1) xs → Along ws c x g (size ws g) xs ys
    → zs ≡ set ys (c.nodes + g) u → u ≡ caught_at ws c x (c.nodes + g) → Detections ws c x g zs
detections-more {ws} {c} a {x} {xs} {ys} {zs} {g} {u} h t s z e = rw z (record {
  long = simp length-set (omega (arith, t.long, s.long));
  nodes = λ i k p r q.
      get_or-set_other ys (c.nodes + g) (first ws i + k) u 0 (λ o. omega (arith, node-below a i k r q))
      ∙ elim (ℕ_discrete i g) [
        | yes j ↦ rw j (s.below k (rw j at q) (rw j at q))
        | no n ↦ s.outside (first ws i + k) (λ m b o. apart ws i g k m (λ w. n (sym w)) q b o) ∙ t.nodes i k (omega arith) r q
      ];
  graphs = λ i p r. elim (ℕ_discrete i g) [
    | yes j ↦ rw j (get_or-set_same ys (c.nodes + g) u 0 (omega (arith, t.long, s.long)) ∙ e)
    | no n ↦
        get_or-set_other ys (c.nodes + g) (c.nodes + i) u 0 (λ o. n (omega arith))
        ∙ s.outside (c.nodes + i) (λ m b o. omega (arith, node-below a g m h b)) ∙ t.graphs i (omega arith) r
  ];
})

pub detections-none : {ws : List ℕ} {c : Counts} {x xs : List ℕ} → c.nodes + c.graphs ≤ length xs → Detections ws c x c.graphs xs
detections-none l = record { long = l; nodes = λ g k p h i. absurd (omega arith); graphs = λ g p h. absurd (omega arith) }
