-- Graphs that exactly one node reads, and those that have a stem, as the tables tell them. Assumes nothing.
use Prim.Native.Nat.{ℕ, ◌+◌, ◌-◌, ◌*◌, ◌/◌, ◌<◌, ◌≤◌}
use mathlib.Core.Path.{◌≡◌, refl, sym, ap, ◌∙◌}
use mathlib.Core.List.{List}
use mathlib.Core.Bool.{Bool, true, false, not, ◌||◌}
use native.Mathlib.Omega.{arith}
use lib.ListN.{length, get_or}
use lib.Dec.{eqb}
use Rattle.std.specs.Int.{from_bool}
use borrow.Author.Tests.{eq-eqb, eqb-true, lt-ltb, le-ltb}
use Rattle.lists.specs.Counting.{choose, count}
use Rattle.lists.proofs.Counting.{count_same, count-pairs, count-alone}
use Rattle.lists.proofs.Tests.{or-false, and-differ, choose-back}
use Rattle.answers.specs.declared.Counts.{Counts}
use Rattle.layout.specs.Layout.{first, observable, size, reads, stands_in}
use Rattle.layout.specs.Shape.{Shape}
use Rattle.cardtables.specs.Stems.{read_by, readers, has_stem, site_in_grade, in_grade, total}
use Rattle.layout.specs.Tables.{Ready}
use Rattle.cardtables.specs.Tables.{sole_of, grade_of, only_of, is_only, ReadIn, Noted, Tabled}
use Rattle.cardtables.specs.Readers.{OneReader}
use Rattle.layout.proofs.Firsts.{one-node, node-below}
use Rattle.layout.proofs.Stands.{owner, stands-in}
use Rattle.cardtables.proofs.Readers.{noted-same}
use Rattle.cardtables.proofs.Only.{Tells, none, one, several, tells, only-is}

module _ {ws : List ℕ} {c : Counts} (a : Shape ws c) where
  -- what the nodes of a graph read
  pub read-in : (h : ℕ) → h < c.graphs → ReadIn ws (read_by ws c) h
  unfolding read_by
  read-in h l k i =
      let e : first ws h + k - first ws h ≡ k = omega arith in
      rw (stands-in a h k l i, e)

  -- a node reads a graph of the card
  pub reads-graph : (j : ℕ) → j < c.nodes → read_by ws c j < c.graphs
  unfolding read_by
  reads-graph j l =
      let h : ℕ = stands_in ws j c.graphs in
      let o = owner ws c.graphs j (rw a.nodes-in l) in
      omega (arith, o.0, a.reads-lower h o.0 (j - first ws h) (omega (arith, o.1, o.2)))

  -- THE ONE READER: where one node reads graph g, a node that does is the only one
  pub one-read : {g : ℕ} → readers ws c g ≡ 1 → (h k : ℕ) → h < c.graphs → k < size ws h → reads ws h k ≡ g → OneReader ws c g h k
  unfolding readers
  one-read {g} e h k l i q = record {
    graph = l;
    node = i;
    read = q;
    alone = λ r j m n z.
        one-node ws h r k j i n (count-alone (λ p. eqb (read_by ws c p) g) c.nodes (first ws h + k) (first ws r + j) e (node-below a h k l i) (node-below a r j m n)
        (eq-eqb _ g (read-in h l k i ∙ q)) (eq-eqb _ g (read-in r m j n ∙ z)));
  }

-- a flag as a word
pub flag-word : (b : Bool) → from_bool b ≡ choose b 1 0
flag-word true = refl
flag-word false = refl

-- a node and a graph as sites of the grade
pub node-graded : (ws : List ℕ) (c : Counts) (p : ℕ) → p < c.nodes → 1 ≡ choose (site_in_grade ws c p) 1 0
unfolding site_in_grade
node-graded ws c p l = rw (lt-ltb p c.nodes l)

graph-graded : (ws : List ℕ) (c : Counts) (p : ℕ) → c.nodes ≤ p → site_in_grade ws c p ≡ has_stem ws c (p - c.nodes)
unfolding site_in_grade
graph-graded ws c p l = rw (le-ltb p c.nodes l)

-- whether a graph has a stem, as the tables tell its only reader
pub stem-is : {ws t : List ℕ} {c : Counts} → Shape ws c → Noted ws (read_by ws c) c.nodes t → (g : ℕ) → g < c.graphs
    → observable ws g || not (is_only (get_or t (sole_of g) 0)) ≡ has_stem ws c g
unfolding has_stem readers
stem-is {ws} {t} {c} a d g l =
    ap (λ (b : Bool). observable ws g || not b)
    (ap is_only (d.sole g (omega (arith, a.few-graphs))) ∙ only-is (λ j. eqb (read_by ws c j) g) c.nodes a.few-nodes)

-- so the site of a graph counts as that tells
pub graph-word : {ws t : List ℕ} {c : Counts} → Shape ws c → Noted ws (read_by ws c) c.nodes t → (p : ℕ) → c.nodes ≤ p → p - c.nodes < c.graphs → {b : Bool}
    → b ≡ observable ws (p - c.nodes) || not (is_only (get_or t (sole_of (p - c.nodes)) 0)) → site_in_grade ws c p ≡ b
graph-word {ws} {t} {c} a d p m l e = graph-graded ws c p m ∙ sym (e ∙ stem-is a d (p - c.nodes) l)

-- a graph that has no stem is not observable, and one node reads it
pub stemless : (ws : List ℕ) (c : Counts) (g : ℕ) → has_stem ws c g ≡ false → (observable ws g ≡ false) × (readers ws c g ≡ 1)
unfolding has_stem
stemless ws c g e = let s = or-false (observable ws g) (not (eqb (readers ws c g) 1)) e in (s.0, and-differ true (readers ws c g) 1 s.1 refl)

-- THE ONLY READER of graph g, as the tables tell it
pub sole-is : {ws t : List ℕ} {c : Counts} → Tabled ws c t → (g : ℕ) → g < c.graphs → 0 < get_or t (sole_of g) 0 → get_or t (sole_of g) 0 < 4097
    → (h : ℕ) × (k : ℕ) × OneReader ws c g h k × (first ws h + k + 1 ≡ get_or t (sole_of g) 0)
unfolding read_by readers
sole-is {ws} {t} {c} y g l o f = told (tells (λ j. eqb (read_by ws c j) g) c.nodes)
  where
    word : get_or t (sole_of g) 0 ≡ only_of (λ j. eqb (read_by ws c j) g) c.nodes
    word = y.noted.sole g (omega (arith, y.ready.shape.few-graphs))

    told : Tells (λ j. eqb (read_by ws c j) g) c.nodes → (h : ℕ) × (k : ℕ) × OneReader ws c g h k × (first ws h + k + 1 ≡ get_or t (sole_of g) 0)
    told (none s n) = absurd (omega (arith, word))
    told (several s n) = absurd (omega (arith, word))
    told (one i s m b n) =
        let a = y.ready.shape in
        let h = stands_in ws i c.graphs in
        let r = owner ws c.graphs i (rw a.nodes-in m) in
        (h, i - first ws h, one-read a n h (i - first ws h) r.0 (omega (arith, r.1, r.2)) (eqb-true (read_by ws c i) g b), omega (arith, word, r.1))

-- the words of the first n sites are put behind those of the graphs, which stay: t becomes u
pub record GradedSites (ws : List ℕ) (c : Counts) (n : ℕ) (t u : List ℕ) : Type 0 where
  pub long : length u ≡ length t
  pub kept : (i : ℕ) → i < 34848 → get_or u i 0 ≡ get_or t i 0
  pub sites : (p : ℕ) → p < n → get_or u (grade_of p) 0 ≡ choose (site_in_grade ws c p) 1 0

module _ {ws t u : List ℕ} {c : Counts} {n : ℕ} (k : GradedSites ws c n t u) where
  pub ready-kept : Ready ws c t → Ready ws c u
  ready-kept y = record { shape = y.shape; long = rw k.long y.long; table = λ g l. k.kept g (omega (arith, y.shape.few-graphs)) ∙ y.table g l }

  pub noted-kept : {q : ℕ → ℕ} {m : ℕ} → Noted ws q m t → Noted ws q m u
  noted-kept d = noted-same (λ i h l. k.kept i l) d

-- as many faults count as twice the words that are 1
pub total-is : {ws t : List ℕ} {c : Counts} {n : ℕ} → n ≡ 2 * count (λ p. eqb (get_or t (grade_of p) 0) 1) (c.nodes + c.graphs) → Tabled ws c t → n ≡ total ws c
unfolding total in_grade
total-is {ws} {t} {c} e y =
    let z : 2 * (c.nodes + c.graphs) ≡ c.faults = omega (arith, y.ready.shape.all-faults) in
    e ∙ ap (2 *◌) (count_same _ (site_in_grade ws c) (c.nodes + c.graphs) (λ p l. ap (λ (w : ℕ). eqb w 1) (y.sites p l) ∙ choose-back (site_in_grade ws c p)))
    ∙ sym (count-pairs (site_in_grade ws c) (c.nodes + c.graphs)) ∙ ap (count (λ f. site_in_grade ws c (f / 2))) z
