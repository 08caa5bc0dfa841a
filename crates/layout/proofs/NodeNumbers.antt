-- What a node reads, decides and takes, as a table of first nodes gives its number. Assumes nothing.
use Prim.Native.Nat.{ℕ, zero, suc, ◌+◌, ◌-◌, ◌*◌, ◌<◌, ◌≤◌}
use mathlib.Core.Path.{◌≡◌, refl, sym, ap, ◌∙◌}
use mathlib.Core.List.{List}
use native.Mathlib.Omega.{arith}
use native.Mathlib.Numerals.{add-one}
use lib.ListN.{length, get_or}
use lib.Dec.{eqb}
use Rattle.lists.specs.Tables.{tab, over}
use Rattle.lists.proofs.Tables.{length-tab, tab-at, over-at, length_over}
use Rattle.word32.specs.Fields.{kind, read_graph, exit_of}
use Rattle.answers.specs.declared.Counts.{Counts}
use Rattle.layout.specs.Layout.{first, observable, size, reads, exits, decided, decides, decision}
use Rattle.layout.specs.Shape.{Shape}
use Rattle.layout.proofs.Firsts.{first_next, first-few, node-below}
use Rattle.layout.specs.Tables.{Decided, Ready, Walkable}

-- the exit at any decision but 0
pub exit-one : (w d : ℕ) → (d ≡ 0 → ⊥) → exit_of w d ≡ exit_of w 1
exit-one w zero n = absurd (n refl)
exit-one w (suc d) n = refl

-- node j, which is local node k of graph g, reads what the layout says
pub read_at : (ws : List ℕ) (g k : ℕ) {j r : ℕ} → j ≡ first ws g + k → r ≡ read_graph (get_or ws (g + 1 + 2 * j) 0) → r ≡ reads ws g k
unfolding reads
read_at ws g k e q = q ∙ ap (λ (n : ℕ). read_graph (get_or ws (g + 1 + 2 * n) 0)) e

-- what is ready once the table of first nodes is filled
pub made-ready : {ws firsts : List ℕ} {c : Counts} (ys : List ℕ) → Shape ws c → c.graphs < length ys → firsts ≡ over (c.graphs + 1) (first ws) ys → Ready ws c firsts
made-ready {ws} {firsts} {c} ys s l e = record {
  shape = s;
  long = rw e (rw (length_over (first ws) ys (c.graphs + 1) (omega arith)) l);
  table = λ g h. rw e (over-at (first ws) ys (c.graphs + 1) g (omega arith));
}

-- the first nodes themselves are such a table, for what goes on from a graph's first node
abbrev pub own_table : List ℕ → Counts → List ℕ
own_table ws c = tab (first ws) (c.graphs + 1)

module _ {ws : List ℕ} {c : Counts} (s : Shape ws c) where
  pub own-ready : Ready ws c (own_table ws c)
  own-ready = record {
    shape = s;
    long = rw (length-tab (first ws) (c.graphs + 1)) (omega arith);
    table = λ g h. tab-at (first ws) (c.graphs + 1) g (omega arith);
  }

  pub own_first : {g f : ℕ} → g < c.graphs → f ≡ first ws g → f ≡ get_or (own_table ws c) g 0
  own_first {g} h e = e ∙ sym (own-ready.table g (omega arith))

module _ {ws tables : List ℕ} {c : Counts} (y : Ready ws c tables) where
  -- a graph has no more nodes than a card
  pub few-nodes : (g : ℕ) → g < c.graphs → size ws g ≤ 4096
  few-nodes g h = omega (arith, first_next ws g, first-few y.shape (suc g) (omega arith), y.shape.few-nodes)

  pub some-node : {g : ℕ} → g < c.graphs → c.inputs ≤ g → 0 < size ws g
  some-node {g} h i = (y.shape.output g h i).1

  -- each graph can be walked
  pub walkable : {g : ℕ} → g < c.graphs → Walkable ws tables g
  walkable {g} h =
      let e : first ws (g + 1) ≡ first ws g + size ws g = ap (first ws) (add-one g) ∙ first_next ws g in
      record {
        long = omega (arith, y.long);
        here = y.table g (omega arith);
        next = y.table (g + 1) (omega arith) ∙ e;
        fits = omega (arith, first-few y.shape (g + 1) (omega arith), y.shape.fits);
        lower = y.shape.reads-lower g h;
        later = y.shape.exits-later g h;
      }

module _ {ws tables : List ℕ} {g : ℕ} (y : Walkable ws tables g) where
  -- the number of its nodes, as the table gives it
  pub size_is : {f n : ℕ} → f ≡ get_or tables g 0 → n ≡ get_or tables (g + 1) 0 → n ≡ f + size ws g
  size_is e u = u ∙ y.next ∙ ap (◌+ size ws g) (sym (e ∙ y.here))

  pub size-asks : (g + 1 < length tables) × (get_or tables g 0 ≤ get_or tables (g + 1) 0)
  size-asks = (y.long, omega (arith, y.here, y.next))

  pub size-told : {n : ℕ} → n ≡ get_or tables (g + 1) 0 - get_or tables g 0 → n ≡ size ws g
  size-told u = omega (arith, y.here, y.next)

  -- its header, where the table gives its first node as f
  module _ {f : ℕ} (e : f ≡ get_or tables g 0) where
    pub first-is : f ≡ first ws g
    first-is = e ∙ y.here

    pub header-in : g + 2 * f < length ws
    header-in = let z = first-is in omega (arith, y.fits)

    pub observable-is : {w : ℕ} → w ≡ get_or ws (g + 2 * f) 0 → eqb (kind w) 2 ≡ observable ws g
    unfolding observable
    observable-is a =
        ap (λ (n : ℕ). eqb (kind n) 2) a
        ∙ ap (λ (n : ℕ). eqb (kind (get_or ws (g + 2 * n) 0)) 2) first-is

  -- its local node k
  module _ {k f : ℕ} (l : k < size ws g) (e : f ≡ get_or tables g 0) where
    pub node-number : f + k ≡ first ws g + k
    node-number = ap (◌+ k) (first-is e)

    pub node-inside : g + 2 + 2 * (f + k) < length ws
    node-inside = let z = first-is e in omega (arith, y.fits)

    pub read_is : {r : ℕ} → r ≡ read_graph (get_or ws (g + 1 + 2 * (f + k)) 0) → r ≡ reads ws g k
    read_is q = read_at ws g k node-number q

    pub read_below : read_graph (get_or ws (g + 1 + 2 * (f + k)) 0) < g
    read_below = rw (read_is refl) (y.lower k l)

    -- THE DECISION, where the words of a buffer from `base` on are the values of the graphs, at least of the one read, which is 0 or 1
    pub decision-is : (v : ℕ → ℕ) (xs : List ℕ) (base : ℕ) {d : ℕ} → Decided ws (g + 1 + 2 * (f + k)) xs base d
        → get_or xs (base + reads ws g k) 0 ≡ v (reads ws g k) → v (reads ws g k) < 2 → d ≡ decision ws v g k
    unfolding decides
    decision-is v xs base q u b =
        q (rw (read_is refl, u) b) ∙ ap (λ (n : ℕ). decided (get_or ws (g + 1 + 2 * (f + k)) 0) (get_or xs (base + n) 0)) (read_is refl)
        ∙ ap (λ (n : ℕ). decided (get_or ws (g + 1 + 2 * (n + k)) 0) (get_or xs (base + reads ws g k) 0)) (first-is e)
        ∙ ap (decides ws g k) u

    -- an exit, and the later node that it is
    module _ (d : ℕ) {a : ℕ} (q : a ≡ exit_of (get_or ws (g + 2 + 2 * (f + k)) 0) d) where
      pub exit-is : a ≡ exits ws g k d
      unfolding exits
      exit-is = q ∙ ap (λ (n : ℕ). exit_of (get_or ws (g + 2 + 2 * (n + k)) 0) d) (first-is e)

      pub exit-later : 2 ≤ a → (k < a - 2) × (a - 2 < size ws g)
      exit-later b =
          let z : a ≡ suc (suc (a - 2)) = omega arith in
          y.later k d (a - 2) l (sym exit-is ∙ z)

-- the numbers of a node, and of the later node that an exit is, are below the number of nodes
module _ {ws tables : List ℕ} {c : Counts} (y : Ready ws c tables) {g k f : ℕ} (h : g < c.graphs) (l : k < size ws g) (e : f ≡ get_or tables g 0) where
  pub node-number-below : f + k < c.nodes
  node-number-below = omega (arith, node-number (walkable y h) l e, node-below y.shape g k h l)

  pub exit_below : (d : ℕ) {a : ℕ} → a ≡ exit_of (get_or ws (g + 2 + 2 * (f + k)) 0) d → 2 ≤ a → f + (a - 2) < c.nodes
  exit_below d {a} u b =
      let n = exit-later (walkable y h) l e d u b in
      omega (arith, first-is (walkable y h) e, node-below y.shape g (a - 2) h n.1)
