-- Which faults count in the grade, by the card's words alone: document 02, 'A lead counts a single time'. For an accepted card. Assumes nothing.
use Rattle.std.specs.Prelude.{ℕ, ◌-◌, ◌/◌, List, Bool, ◌||◌}
use Rattle.std.proofs.Math.Bool.{not}
use Rattle.std.proofs.Math.Dec.{ltb, eqb}
use Rattle.lists.specs.Counting.{count}
use Rattle.answers.specs.declared.Counts.{Counts}
use Rattle.layout.specs.Layout.{first, observable, reads, stands_in}

module _ (ws : List ℕ) (c : Counts) where
  -- the graph that node j reads
  unfoldable pub read_by : ℕ → ℕ
  unfolding first reads stands_in
  read_by j = reads ws (stands_in ws j c.graphs) (j - first ws (stands_in ws j c.graphs))

  -- how many nodes read graph g: nodes are counted, not graphs
  unfoldable pub readers : ℕ → ℕ
  unfolding count read_by
  readers g = count (λ j. eqb (read_by j) g) c.nodes

  -- GRAPH g HAS A STEM, unless it is not observable, as no input is, and exactly one node reads it: then it is a lead, the field's fan-out-free line
  unfoldable pub has_stem : ℕ → Bool
  unfolding observable readers
  has_stem g = observable ws g || not (eqb (readers g) 1)

  -- site p, which is node p or graph p - N, counts in the grade: every node does, and a graph that has a stem
  unfoldable pub site_in_grade : ℕ → Bool
  unfolding has_stem
  site_in_grade p = ltb p c.nodes || has_stem (p - c.nodes)

  -- FAULT f COUNTS IN THE GRADE: it is one of the two of a site that does. A lead's two are left out: each is equivalent to one of its reader's
  unfoldable pub in_grade : ℕ → Bool
  unfolding site_in_grade
  in_grade f = site_in_grade (f / 2)

  -- THE TOTAL: how many faults count. The marked count over it is the fault coverage
  unfoldable pub total : ℕ
  unfolding count in_grade
  total = count in_grade c.faults
