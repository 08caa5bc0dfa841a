-- The steps of the evaluators, said of the definitions: a buffer in which nothing is known, what is saved, what is read, and where a walk goes on. Assumes nothing.
use Prim.Native.Nat.{ℕ, ◌+◌, ◌-◌, ◌*◌, ◌<◌, ◌≤◌}
use mathlib.Core.Path.{◌≡◌, sym, ap, ◌∙◌}
use mathlib.Core.List.{List}
use native.Mathlib.Omega.{arith}
use native.Mathlib.Decide.{ℕ_discrete}
use lib.ListN.{length, get_or, set, length-set}
use lib.Seq.{get_or-set_same, get_or-set_other}
use Rattle.word32.specs.Fields.{read_graph, exit_of}
use Rattle.layout.specs.Layout.{first, size, reads, decision}
use Rattle.layout.proofs.Firsts.{one-node, node-below}
use Rattle.answers.specs.declared.Counts.{Counts}
use Rattle.layout.specs.Shape.{Shape}
use Rattle.layout.specs.Tables.{Decided, Ready}
use Rattle.layout.proofs.NodeNumbers.{walkable, node-number, read_is, decision-is}
use Rattle.testvectors.specs.Vectors.{bit}
use Rattle.value.specs.Settings.{faulty}
use Rattle.value.proofs.Settings.{faulty-keeps}
use Rattle.value.proofs.Values.{value-input, value-output, value-bit, node-bit}
use Rattle.value.proofs.Run.{taken_is, node-ends, node-goes}
use Rattle.value.specs.Run.{Run, run, graph_of, node_of}
use Rattle.evaluate.specs.Saved.{graph_site, node_site, exit_taken, Known, Kept, NodeStands, GraphStands, Saved, FoundNode, FoundGraph}

-- a buffer in which nothing is known
pub nothing_known : {ws : List ℕ} {c : Counts} (fs x xs : List ℕ) → Shape ws c → 5120 ≡ length xs → ((i : ℕ) → i < 5120 → get_or xs i 0 ≡ 2) → Saved (run ws c fs x) xs
nothing_known {ws} {c} fs x xs s l e = record {
  long = omega (arith, s.few-nodes, s.few-graphs);
  nodes = λ g k h i b. absurd (omega (arith, e (first ws g + k) (omega (arith, node-below s g k h i, s.few-nodes))));
  graphs = λ g h b. absurd (omega (arith, e (c.nodes + g) (omega (arith, s.few-nodes, s.few-graphs))));
}

module _ (t : Run) {firsts : List ℕ} (y : Ready t.card t.counts firsts) where
  -- values are bits
  node-is-bit : (g k : ℕ) → node_of t g k < 2
  node-is-bit = node-bit y.shape (faulty t.faults) t.vector

  graph-is-bit : (g : ℕ) → g < t.counts.graphs → graph_of t g < 2
  graph-is-bit = value-bit y.shape (faulty t.faults) t.vector (faulty-keeps t.faults)

  -- a bit stored at p: what was known stays known, and what stood elsewhere stands
  module _ (xs : List ℕ) (p v : ℕ) (l : p < length xs) (b : v < 2) where
    stays : (i : ℕ) → Known xs i → Known (set xs p v) i
    stays i u = elim (ℕ_discrete i p) [
      | yes z ↦ rw (z, get_or-set_same xs p v 0 l) b
      | no n ↦ rw (get_or-set_other xs p i v 0 n) u
    ]

    node_stays : {g k : ℕ} → (node_site t g k ≡ p → ⊥) → (Known xs (node_site t g k) → NodeStands t xs g k) → Known (set xs p v) (node_site t g k)
        → NodeStands t (set xs p v) g k
    node_stays n s u =
        let q = get_or-set_other xs p _ v 0 n in
        let w = s (rw q at u) in
        record { value = q ∙ w.value; read = stays _ w.read; onward = λ m. stays _ (w.onward m) }

    graph-stays : {g : ℕ} → (graph_site t g ≡ p → ⊥) → (Known xs (graph_site t g) → GraphStands t xs g) → Known (set xs p v) (graph_site t g)
        → GraphStands t (set xs p v) g
    graph-stays n s u =
        let q = get_or-set_other xs p _ v 0 n in
        let w = s (rw q at u) in
        record { value = q ∙ w.value; entrance = λ m. stays _ (w.entrance m) }

  -- a value saved at its site
  pub save-node : {xs : List ℕ} → Saved t xs → (g k v : ℕ) → g < t.counts.graphs → k < size t.card g → v ≡ node_of t g k
      → Known xs (graph_site t (reads t.card g k)) → (2 ≤ exit_taken t g k → Known xs (node_site t g (exit_taken t g k - 2)))
      → Saved t (set xs (node_site t g k) v)
  save-node {xs} s g k v h l e r o =
      let p = node_site t g k in
      let low : p < t.counts.nodes = node-below y.shape g k h l in
      let inside : p < length xs = omega (arith, s.long) in
      let b : v < 2 = rw e (node-is-bit g k) in
      record {
        long = simp length-set s.long;
        nodes = λ i j h' l' u. elim (ℕ_discrete (node_site t i j) p) [
          | yes z ↦
              let (a, c) = one-node t.card g i k j l l' (sym z) in
              rw (a, c) record { value = get_or-set_same xs p v 0 inside ∙ e; read = stays xs p v inside b _ r; onward = λ m. stays xs p v inside b _ (o m) }
          | no n ↦ node_stays xs p v inside b n (s.nodes i j h' l') u
        ];
        graphs = λ i h' u. graph-stays xs p v inside b (λ z. omega arith) (s.graphs i h') u;
      }

  pub save-graph : {xs : List ℕ} → Saved t xs → (g v : ℕ) → g < t.counts.graphs → v ≡ graph_of t g
      → (t.counts.inputs ≤ g → Known xs (node_site t g 0)) → Saved t (set xs (graph_site t g) v)
  save-graph {xs} s g v h e o =
      let p = graph_site t g in
      let inside : p < length xs = omega (arith, s.long) in
      let b : v < 2 = rw e (graph-is-bit g h) in
      record {
        long = simp length-set s.long;
        nodes = λ i j h' l' u.
            let low = node-below y.shape i j h' l' in
            node_stays xs p v inside b (λ z. omega arith) (s.nodes i j h' l') u;
        graphs = λ i h' u. elim (ℕ_discrete i g) [
          | yes z ↦ rw z record { value = get_or-set_same xs p v 0 inside ∙ e; entrance = λ m. stays xs p v inside b _ (o m) }
          | no n ↦ graph-stays xs p v inside b (λ z. n (omega arith)) (s.graphs i h') u
        ];
      }

  -- local node k of graph g, whose first node the table gives as f
  module _ {g k f : ℕ} (h : g < t.counts.graphs) (l : k < size t.card g) (e : f ≡ get_or firsts g 0) where
    pub node-known : {xs : List ℕ} {r : ℕ} → Saved t xs → r ≡ get_or xs (f + k) 0 → r < 2 → FoundNode t g k r xs xs
    node-known {xs} s q b =
        let z = q ∙ ap (λ (n : ℕ). get_or xs n 0) (node-number (walkable y h) l e) in
        let w = (s.nodes g k h l (rw z at b)).value in
        record { right = z ∙ w; there = w; kept = λ p u. u; saved = s }

    node-saved : {before xs ys : List ℕ} {v : ℕ} → Kept before xs → Saved t xs → v ≡ node_of t g k
        → Known xs (graph_site t (reads t.card g k)) → (2 ≤ exit_taken t g k → Known xs (node_site t g (exit_taken t g k - 2)))
        → ys ≡ set xs (f + k) v → FoundNode t g k v before ys
    node-saved {before} {xs} {ys} {v} o s w r m u =
        let p = node_site t g k in
        let inside : p < length xs = omega (arith, node-below y.shape g k h l, s.long) in
        let z = rw (node-number (walkable y h) l e) at u in record {
          right = w;
          there = rw z (get_or-set_same xs p v 0 inside ∙ w);
          kept = λ i b. rw z (stays xs p v inside (rw w (node-is-bit g k)) i (o i b));
          saved = rw z (save-node s g k v h l w r m);
        }

    -- once the graph that it reads is found: its decision, and the exit that it takes
    module _ {r v : ℕ} {before xs : List ℕ} (q : r ≡ read_graph (get_or t.card (g + 1 + 2 * (f + k)) 0)) (w : FoundGraph t r v before xs) where
      found-read : get_or xs (graph_site t (reads t.card g k)) 0 ≡ graph_of t (reads t.card g k)
      found-read = rw (read_is (walkable y h) l e q) at w.there

      read-is-bit : graph_of t (reads t.card g k) < 2
      read-is-bit = graph-is-bit _ (omega (arith, y.shape.reads-lower g h k l))

      pub decision-found : {d : ℕ} → Decided t.card (g + 1 + 2 * (f + k)) xs t.counts.nodes d → d ≡ decision t.card (graph_of t) g k
      decision-found u = decision-is (walkable y h) l e (graph_of t) xs t.counts.nodes u found-read read-is-bit

      module _ {d a : ℕ} (u : Decided t.card (g + 1 + 2 * (f + k)) xs t.counts.nodes d)
          (x : a ≡ exit_of (get_or t.card (g + 2 + 2 * (f + k)) 0) (faulty t.faults (f + k) d)) where
        exit-found : exit_taken t g k ≡ a
        exit-found = taken_is (walkable y h) l e (faulty t.faults) (graph_of t) (decision-found u) x

        pub node-ended : {ys : List ℕ} → a < 2 → ys ≡ set xs (f + k) a → FoundNode t g k a before ys
        node-ended b z =
            node-saved w.kept w.saved (node-ends y h l e (faulty t.faults) t.vector (decision-found u) x b) (rw found-read read-is-bit)
            (λ m. absurd (omega (arith, exit-found))) z

        -- the node to which it goes being found next
        pub node-went : {n : ℕ} {zs ys : List ℕ} → 2 ≤ a → FoundNode t g (a - 2) n xs zs → ys ≡ set zs (f + k) n → FoundNode t g k n before ys
        node-went {n} {zs} b o z =
            let (above, below, same) = node-goes y h l e (faulty t.faults) t.vector (decision-found u) x b in
            node-saved (λ p m. o.kept p (w.kept p m)) o.saved (o.right ∙ sym same) (o.kept _ (rw found-read read-is-bit))
            (λ m. rw (exit-found, o.there) (node-is-bit g (a - 2))) z

  module _ {g : ℕ} (h : g < t.counts.graphs) where
    pub graph-known : {xs : List ℕ} {r : ℕ} → Saved t xs → r ≡ get_or xs (t.counts.nodes + g) 0 → r < 2 → FoundGraph t g r xs xs
    graph-known s q b = let z = (s.graphs g h (rw q at b)).value in record { right = q ∙ z; there = z; kept = λ p u. u; saved = s }

    graph-saved : {before xs ys : List ℕ} {v : ℕ} → Kept before xs → Saved t xs → v ≡ graph_of t g
        → (t.counts.inputs ≤ g → Known xs (node_site t g 0)) → ys ≡ set xs (t.counts.nodes + g) v → FoundGraph t g v before ys
    graph-saved {before} {xs} {ys} {v} o s w m u =
        let inside : graph_site t g < length xs = omega (arith, s.long) in record {
          right = w;
          there = rw u (get_or-set_same xs (graph_site t g) v 0 inside ∙ w);
          kept = λ i b. rw u (stays xs (graph_site t g) v inside (rw w (graph-is-bit g h)) i (o i b));
          saved = rw u (save-graph s g _ h w m);
        }

    -- of an input, and of an output whose entrance is found
    pub input-saved : {xs ys : List ℕ} {b v : ℕ} → Saved t xs → g < t.counts.inputs → b ≡ bit t.vector g
        → v ≡ faulty t.faults (t.counts.nodes + g) b → ys ≡ set xs (t.counts.nodes + g) v → FoundGraph t g v xs ys
    input-saved s i q w u =
        let e =
        w ∙ ap (faulty t.faults (t.counts.nodes + g)) q
        ∙ sym (value-input y.shape (faulty t.faults) t.vector g h (y.shape.input g i).0) in
        graph-saved (λ p b. b) s e (λ m. absurd (omega arith)) u

    pub output-saved : {before xs ys : List ℕ} {b v : ℕ} → t.counts.inputs ≤ g → FoundNode t g 0 b before xs
        → v ≡ faulty t.faults (t.counts.nodes + g) b → ys ≡ set xs (t.counts.nodes + g) v → FoundGraph t g v before ys
    output-saved i n w u =
        let e =
        w ∙ ap (faulty t.faults (t.counts.nodes + g)) n.right
        ∙ sym (value-output y.shape (faulty t.faults) t.vector g h (y.shape.output g h i).0) in
        graph-saved n.kept n.saved e (λ m. rw n.there (node-is-bit g 0)) u
