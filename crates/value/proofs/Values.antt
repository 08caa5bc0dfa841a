-- The values of the graphs and nodes of a card, under a setting of its sites and a vector. Assumes nothing.
use Prim.Native.Nat.{ℕ, zero, suc, ◌+◌, ◌-◌, ◌/◌, ◌<◌, ◌≤◌}
use mathlib.Core.Path.{◌≡◌, sym, ap, ◌∙◌}
use mathlib.Core.List.{List, [], ◌∷◌}
use mathlib.Core.Bool.{true, false}
use native.Mathlib.Omega.{arith}
use native.Mathlib.Decide.{dec_lt}
use Rattle.lists.specs.Counting.{choose}
use Rattle.lists.specs.Tables.{at, grow, tab}
use Rattle.lists.proofs.Tests.{choose-bit}
use Rattle.lists.proofs.Net.{Lower, Solves, Same, unique, length-grow, grow-more, grow-solves}
use Rattle.lists.proofs.Tables.{tab-same, tab-self}
use Rattle.answers.specs.declared.Counts.{Counts}
use Rattle.layout.specs.Layout.{first, is_input, size, reads, exits, decides, decision}
use Rattle.layout.specs.Shape.{Shape}
use Rattle.layout.proofs.Firsts.{apart, node-below}
use Rattle.testvectors.specs.Vectors.{bit}
use Rattle.testvectors.proofs.Laws.{bit-value}
use Rattle.value.specs.Settings.{Setting, Keeps, good, faulty}
use Rattle.value.specs.Values.{follow, taken, graph, values, value, node_value}
use Rattle.value.proofs.Walk.{Later, walk-bit, node_law, same_graph}
use Rattle.value.proofs.Settings.{stuck-off}

-- a setting that leaves the sites of graph g alone, those of its nodes and its own
pub record Spares (ws : List ℕ) (c : Counts) (s : Setting) (g : ℕ) : Type 0 where
  pub node : (k v : ℕ) → k < size ws g → s (first ws g + k) v ≡ v
  pub own : (v : ℕ) → s (c.nodes + g) v ≡ v

module _ {ws : List ℕ} {c : Counts} (a : Shape ws c) where
  -- a graph with nodes is no input
  pub no-input : (g k : ℕ) → g < c.graphs → k < size ws g → is_input ws g ≡ false
  no-input g k l h = elim (dec_lt g c.inputs) [
    | yes i ↦ absurd (omega (arith, (a.input g i).1))
    | no n ↦ (a.output g l (omega arith)).0
  ]

  module _ (s : Setting) (x : List ℕ) where
    pub taken-later : (v : ℕ → ℕ) (g : ℕ) → g < c.graphs → Later (size ws g) (taken ws s v g)
    taken-later v g h k l = a.exits-later g h k (s (first ws g + k) (decision ws v g k)) l

    -- what a graph gives goes by what its nodes read, and so by lower graphs alone
    pub graph-reads : (v w : ℕ → ℕ) (g : ℕ) → g < c.graphs → ((k : ℕ) → k < size ws g → v (reads ws g k) ≡ w (reads ws g k))
        → graph ws c.nodes s x v g ≡ graph ws c.nodes s x w g
    unfolding graph
    graph-reads v w g h same =
        ap (λ (r : ℕ). s (c.nodes + g) (choose (is_input ws g) (bit x g) r))
        (same_graph (taken ws s v g) (taken ws s w g) (size ws g) (taken-later v g h)
        (λ k l. ap (λ (r : ℕ). exits ws g k (s (first ws g + k) (decides ws g k r))) (same k l)))

    pub graph-lower : Lower c.graphs (graph ws c.nodes s x)
    graph-lower v w g h same = graph-reads v w g h (λ k l. same (reads ws g k) (a.reads-lower g h k l))

    -- THE VALUES are what each graph gives under them, and no others are
    pub value-solves : Solves c.graphs (graph ws c.nodes s x) (value ws c s x)
    unfolding value
    value-solves = grow-solves (graph ws c.nodes s x) c.graphs graph-lower

    pub value-unique : (v : ℕ → ℕ) → Solves c.graphs (graph ws c.nodes s x) v → Same c.graphs v (value ws c s x)
    value-unique v solves = unique c.graphs (graph ws c.nodes s x) graph-lower v (value ws c s x) solves value-solves

    -- as a list: those of the first n graphs
    pub values-list : (n : ℕ) → n ≤ c.graphs → tab (value ws c s x) n ≡ values ws c.nodes s x n
    unfolding value
    values-list n h =
        let b = graph ws c.nodes s x in
        let e : n + (c.graphs - n) ≡ c.graphs = omega arith in
        tab-same (value ws c s x) (at (grow b n)) n (λ i l. rw e at (grow-more b i n (c.graphs - n) l))
        ∙ (rw (length-grow b n) at (tab-self (grow b n)))

    -- of an input, and of an output, which has its entrance's value
    pub value-input : (g : ℕ) → g < c.graphs → is_input ws g ≡ true → value ws c s x g ≡ s (c.nodes + g) (bit x g)
    unfolding graph
    value-input g h e = value-solves g h ∙ rw e

    pub value-output : (g : ℕ) → g < c.graphs → is_input ws g ≡ false → value ws c s x g ≡ s (c.nodes + g) (node_value ws c s x g 0)
    unfolding graph node_value
    value-output g h e = value-solves g h ∙ rw e

    -- THE NODE LAW: the value of a node is that of the exit taken
    pub node-value : (g k : ℕ) → g < c.graphs → k < size ws g
        → node_value ws c s x g k ≡ follow (node_value ws c s x g) (taken ws s (value ws c s x) g k)
    unfolding node_value
    node-value g k h = node_law (taken ws s (value ws c s x) g) (size ws g) (taken-later (value ws c s x) g h) k

    -- where the exit taken is a constant, and where it is a later node
    pub node-constant : (g k e : ℕ) → g < c.graphs → k < size ws g → taken ws s (value ws c s x) g k ≡ e → e < 2 → node_value ws c s x g k ≡ e
    node-constant g k zero h l q i = node-value g k h l ∙ rw q
    node-constant g k (suc zero) h l q i = node-value g k h l ∙ rw q
    node-constant g k (suc (suc e)) h l q i = absurd (omega arith)

    pub node-onward : (g k e : ℕ) → g < c.graphs → k < size ws g → taken ws s (value ws c s x) g k ≡ e → 2 ≤ e
        → (k < e - 2) × (e - 2 < size ws g) × (node_value ws c s x g k ≡ node_value ws c s x g (e - 2))
    node-onward g k e h l q i =
        let z : e ≡ suc (suc (e - 2)) = omega arith in
        let r = taken-later (value ws c s x) g h k (e - 2) l (q ∙ z) in
        (r.0, r.1, node-value g k h l ∙ ap (follow (node_value ws c s x g)) (q ∙ z))

    -- values are 0 or 1
    pub node-bit : (g k : ℕ) → node_value ws c s x g k < 2
    unfolding node_value
    node-bit g k = walk-bit (taken ws s (value ws c s x) g) (size ws g) k

    pub graph-bit : Keeps s → (v : ℕ → ℕ) (g : ℕ) → graph ws c.nodes s x v g < 2
    unfolding graph
    graph-bit keeps v g =
        keeps (c.nodes + g) _ (choose-bit (is_input ws g) (bit x g) _ (bit-value x g) (walk-bit (taken ws s v g) (size ws g) 0))

    pub value-bit : Keeps s → (g : ℕ) → g < c.graphs → value ws c s x g < 2
    value-bit keeps g h = rw (value-solves g h) (graph-bit keeps (value ws c s x) g)

    -- a graph whose sites are left alone gives what it gives with no fault
    pub graph-spared : (v : ℕ → ℕ) (g : ℕ) → g < c.graphs → Spares ws c s g → graph ws c.nodes s x v g ≡ graph ws c.nodes good x v g
    unfolding graph
    graph-spared v g h spares =
        spares.own _
        ∙ ap (choose (is_input ws g) (bit x g))
        (same_graph (taken ws s v g) (taken ws good v g) (size ws g) (taken-later v g h)
        (λ k l. ap (exits ws g k) (spares.node k _ l)))

  -- one fault leaves every graph alone but the one that it stands in
  pub graph-spares : (f g : ℕ) → f / 2 ≡ c.nodes + g → (h : ℕ) → h < c.graphs → (h ≡ g → ⊥) → Spares ws c (faulty (f ∷ [])) h
  graph-spares f g e h l n = record {
    node = λ k v i. stuck-off f (first ws h + k) v (λ q. omega (arith, node-below a h k l i));
    own = λ v. stuck-off f (c.nodes + h) v (λ q. n (omega arith));
  }

  pub node-spares : (f g k : ℕ) → g < c.graphs → k < size ws g → f / 2 ≡ first ws g + k
      → (h : ℕ) → h < c.graphs → (h ≡ g → ⊥) → Spares ws c (faulty (f ∷ [])) h
  node-spares f g k l i e h m n = record {
    node = λ j v q. stuck-off f (first ws h + j) v (λ r. apart ws g h k j n i q (sym e ∙ r));
    own = λ v. stuck-off f (c.nodes + h) v (λ r. omega (arith, node-below a g k l i));
  }

  -- a setting that leaves the graphs below g alone leaves their values
  pub fault-below : (s : Setting) (x : List ℕ) (g : ℕ) → g ≤ c.graphs → ((h : ℕ) → h < g → Spares ws c s h) → Same g (value ws c s x) (value ws c good x)
  fault-below s x g l spares =
      unique g (graph ws c.nodes good x) (λ v w h m. graph-lower good x v w h (omega arith)) (value ws c s x) (value ws c good x)
      (λ h m. value-solves s x h (omega arith) ∙ graph-spared s x (value ws c s x) h (omega arith) (spares h m))
      (λ h m. value-solves good x h (omega arith))

  -- and one that leaves every site alone leaves every value
  pub neutral : (s : Setting) → ((p v : ℕ) → p < c.nodes + c.graphs → s p v ≡ v) → (x : List ℕ) → Same c.graphs (value ws c s x) (value ws c good x)
  neutral s alone x =
      fault-below s x c.graphs (omega arith) (λ h m. record {
        node = λ k v l. alone (first ws h + k) v (omega (arith, node-below a h k m l));
        own = λ v. alone (c.nodes + h) v (omega arith);
      })
