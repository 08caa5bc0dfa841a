-- The steps of the sweep, said of the definitions: what an exit gives, and how a store at a node's or a graph's site takes the sweep on. Assumes nothing.
use Prim.Native.Nat.{ℕ, zero, suc, ◌+◌, ◌-◌, ◌*◌, ◌<◌, ◌≤◌}
use mathlib.Core.Path.{◌≡◌, refl, sym, ap, ◌∙◌}
use mathlib.Core.List.{List}
use native.Mathlib.Omega.{arith}
use native.Mathlib.Decide.{ℕ_discrete, dec_lt}
use lib.ListN.{length, get_or, set, length-set}
use lib.Seq.{get_or-set_same, get_or-set_other}
use Rattle.word32.specs.Fields.{exit_of}
use Rattle.answers.specs.declared.Counts.{Counts}
use Rattle.layout.specs.Layout.{first, size, reads, decision}
use Rattle.layout.proofs.Firsts.{apart, node-below}
use Rattle.layout.specs.Tables.{Decided, Ready}
use Rattle.layout.proofs.NodeNumbers.{walkable, some-node, first-is, decision-is}
use Rattle.testvectors.specs.Vectors.{bit}
use Rattle.value.specs.Settings.{good}
use Rattle.value.specs.Values.{follow, value, node_value}
use Rattle.value.proofs.Settings.{good-keeps}
use Rattle.value.proofs.Values.{value-input, value-output, value-bit}
use Rattle.value.proofs.Run.{node-ends, node-goes}
use Rattle.sweep.specs.Swept.{Swept, Partly}

-- an exit that is a constant, and one that is a later node
pub follow-low : (node : ℕ → ℕ) (e : ℕ) → e < 2 → e ≡ follow node e
follow-low node zero h = refl
follow-low node (suc zero) h = refl
follow-low node (suc (suc e)) h = absurd (omega arith)

pub follow-high : (node : ℕ → ℕ) (e : ℕ) → 2 ≤ e → node (e - 2) ≡ follow node e
follow-high node e h =
    let z : e ≡ suc (suc (e - 2)) = omega arith in
    sym (ap (follow node) z)

-- past the last node of a graph there is nothing to say
pub none-later : {ws : List ℕ} {c : Counts} {x xs : List ℕ} {g n : ℕ} → Swept ws c x g xs → n ≡ size ws g → Partly ws c x g n xs
none-later s e = record { done = s; later = λ i h l. absurd (omega arith) }

module _ {ws tables : List ℕ} {c : Counts} (y : Ready ws c tables) where
  -- local node k of graph g, whose first node the table gives as f: its decision d and its exit a, where the values of the lower graphs and of the later
  -- nodes are there
  module _ {g k f : ℕ} (h : g < c.graphs) (l : k < size ws g) (e : f ≡ get_or tables g 0) where
    module _ (x xs : List ℕ) {d a : ℕ} (q : Decided ws (g + 1 + 2 * (f + k)) xs c.nodes d)
        (u : a ≡ exit_of (get_or ws (g + 2 + 2 * (f + k)) 0) d) (p : Partly ws c x g (k + 1) xs) where
      decision-good : d ≡ decision ws (value ws c good x) g k
      decision-good =
          let r = y.shape.reads-lower g h k l in
          decision-is (walkable y h) l e (value ws c good x) xs c.nodes q (p.done.graphs (reads ws g k) r)
          (value-bit y.shape good x good-keeps (reads ws g k) (omega arith))

      exit-good : {b : ℕ} → b ≡ follow (λ i. get_or xs (f + i) 0) a → b ≡ node_value ws c good x g k
      exit-good z = elim (dec_lt a 2) [
        | yes b ↦ z ∙ sym (follow-low _ a b) ∙ node-ends y h l e good x decision-good u b
        | no m ↦
            let b : 2 ≤ a = omega arith in
            let n = node-goes y h l e good x decision-good u b in
            z ∙ sym (follow-high (λ i. get_or xs (f + i) 0) a b)
            ∙ ap (λ (i : ℕ). get_or xs (i + (a - 2)) 0) (first-is (walkable y h) e)
            ∙ p.later (a - 2) (omega (arith, n.0)) n.1
            ∙ sym n.2
      ]

      -- THE NODE'S STORE
      pub node-stored : {b : ℕ} {ys : List ℕ} → b ≡ follow (λ i. get_or xs (f + i) 0) a → ys ≡ set xs (f + k) b → Partly ws c x g k ys
      node-stored {b} z o =
          let j = first ws g + k in
          let low : j < c.nodes = node-below y.shape g k h l in
          rw (o, first-is (walkable y h) e) (record {
            done = record {
              long = simp length-set p.done.long;
              nodes = λ i m h' l'.
                  get_or-set_other xs j (first ws i + m) b 0 (λ s. apart ws g i k m (λ t. omega arith) l l' (sym s))
                  ∙ p.done.nodes i m h' l';
              graphs = λ i h'. get_or-set_other xs j (c.nodes + i) b 0 (λ s. omega arith) ∙ p.done.graphs i h';
            };
            later = λ i t m. elim (ℕ_discrete i k) [
              | yes s ↦ rw s (get_or-set_same xs j b 0 (omega (arith, p.done.long)) ∙ exit-good z)
              | no n ↦ get_or-set_other xs j (first ws g + i) b 0 (λ s. n (omega arith)) ∙ p.later i (omega arith) m
            ];
          })

  module _ {g : ℕ} (h : g < c.graphs) {x : List ℕ} where
    -- THE GRAPH'S STORE, where the values of its nodes are there
    pub graph-stored : {v : ℕ} {xs ys : List ℕ} → Partly ws c x g 0 xs → v ≡ value ws c good x g → ys ≡ set xs (c.nodes + g) v → Swept ws c x (g + 1) ys
    graph-stored {v} {xs} p e o =
        let j = c.nodes + g in
        rw o (record {
          long = simp length-set p.done.long;
          nodes = λ i k h' l'.
              let low = node-below y.shape i k (omega arith) l' in
              get_or-set_other xs j (first ws i + k) v 0 (λ s. omega arith)
              ∙ elim (ℕ_discrete i g) [
                | yes s ↦ rw s (p.later k (omega arith) (rw s at l'))
                | no n ↦ p.done.nodes i k (omega arith) l'
              ];
          graphs = λ i h'. elim (ℕ_discrete i g) [
            | yes s ↦ rw s (get_or-set_same xs j v 0 (omega (arith, p.done.long)) ∙ e)
            | no n ↦ get_or-set_other xs j (c.nodes + i) v 0 (λ s. n (omega arith)) ∙ p.done.graphs i (omega arith)
          ];
        })

    -- of an input, which has no nodes
    pub input-stored : {v : ℕ} {xs ys : List ℕ} → Swept ws c x g xs → g < c.inputs → v ≡ bit x g → ys ≡ set xs (c.nodes + g) v → Swept ws c x (g + 1) ys
    input-stored s i e o =
        let a = y.shape.input g i in
        graph-stored (none-later s (sym a.1)) (e ∙ sym (value-input y.shape good x g h a.0)) o

    -- and of another, which has its entrance's value
    module _ (i : c.inputs ≤ g) {f : ℕ} (e : f ≡ get_or tables g 0) {xs : List ℕ} (p : Partly ws c x g 0 xs) where
      pub entrance-inside : f < length xs
      entrance-inside =
          let n = some-node y h i in
          omega (arith, first-is (walkable y h) e, node-below y.shape g 0 h n, p.done.long)

      pub output-stored : {v : ℕ} {ys : List ℕ} → v ≡ get_or xs f 0 → ys ≡ set xs (c.nodes + g) v → Swept ws c x (g + 1) ys
      output-stored u o =
          let n = some-node y h i in
          let z : f ≡ first ws g + 0 = omega (arith, first-is (walkable y h) e) in
          graph-stored p
          (u ∙ ap (λ (m : ℕ). get_or xs m 0) z ∙ p.later 0 (omega arith) n
          ∙ sym (value-output y.shape good x g h (y.shape.output g h i).0))
          o
