-- A LEAD COUNTS A SINGLE TIME (document 02): a graph that has no stem has one reader, and the faults of both are caught alike. From the values of demand 2.
-- Assumes nothing.
use Prim.Native.Nat.{ℕ, ◌+◌, ◌-◌, ◌*◌, ◌%◌, ◌<◌}
use mathlib.Core.Path.{◌≡◌, sym, ap, ◌∙◌}
use mathlib.Core.List.{List}
use mathlib.Core.Bool.{true, false}
use native.Mathlib.Omega.{arith}
use lib.Dec.{eqb}
use borrow.Author.Tests.{eq-eqb, eqb-true}
use Rattle.lists.proofs.Counting.{count-alone, count-reached}
use Rattle.answers.specs.declared.Counts.{Counts}
use Rattle.layout.specs.Layout.{first, stands_in, decides}
use Rattle.layout.specs.Shape.{Shape}
use Rattle.cardtables.specs.Stems.{read_by, readers, has_stem}
use Rattle.layout.proofs.Firsts.{decides-by, decides-bit}
use Rattle.layout.proofs.Stands.{owner}
use Rattle.cardtables.proofs.Stems.{stemless, one-read}
use Rattle.testvectors.specs.Vectors.{vectors, vector}
use Rattle.detect.specs.Detects.{detects}
use Rattle.detect.specs.Grading.{detected_by, tally, mark}
use Rattle.detect.proofs.Relation.{tally_of-same, mark_of-same}
use Rattle.rules.specs.Leads.{inverts_at, paired_exit}
use Rattle.rules.proofs.Readers.{paired}

-- some node reads a graph that has no stem, and no other node does
module _ (ws : List ℕ) (c : Counts) (g : ℕ) (s : has_stem ws c g ≡ false) where
  pub lead-reader : (j : ℕ) × (j < c.nodes) × (read_by ws c j ≡ g)
  unfolding readers
  lead-reader =
      let r = count-reached (λ j. eqb (read_by ws c j) g) c.nodes 0 (omega (arith, (stemless ws c g s).1)) in
      (r.number, r.inside, eqb-true (read_by ws c r.number) g r.passes)

  pub lead-alone : (i j : ℕ) → i < c.nodes → j < c.nodes → read_by ws c i ≡ g → read_by ws c j ≡ g → i ≡ j
  unfolding readers
  lead-alone i j l m a b =
      count-alone (λ j. eqb (read_by ws c j) g) c.nodes i j (stemless ws c g s).1 l m (eq-eqb (read_by ws c i) g a) (eq-eqb (read_by ws c j) g b)

-- THE PAIRING: the exit that goes with a lead stuck at d is what its reader decides on where it reads d. At a direct read it is the d-exit, and at an
-- inverted one the other.
module _ (ws : List ℕ) (c : Counts) (j d : ℕ) where
  exit-decided : decides ws (stands_in ws j c.graphs) (j - first ws (stands_in ws j c.graphs)) d ≡ paired_exit ws c j d
  unfolding paired_exit inverts_at
  exit-decided = decides-by ws _ _ d

  pub paired-bit : d < 2 → paired_exit ws c j d < 2
  paired-bit b = rw (← exit-decided) (decides-bit ws _ _ d b)

  pub paired-direct : inverts_at ws c j ≡ false → paired_exit ws c j d ≡ d
  unfolding paired_exit
  paired-direct e = rw e

  pub paired-crosses : inverts_at ws c j ≡ true → paired_exit ws c j d ≡ 1 - d
  unfolding paired_exit
  paired-crosses e = rw e

-- THE LAW: graph g has no stem, and node j reads it. The graph stuck at d is the node stuck at the exit that goes with it: the same vectors catch both, and
-- so, over any list, their tallies and their marks are equal.
module _ {ws : List ℕ} {c : Counts} (a : Shape ws c) {g j : ℕ} (s : has_stem ws c g ≡ false) (l : j < c.nodes) (r : read_by ws c j ≡ g) (d : ℕ) (b : d < 2) where
  abbrev of_graph : ℕ
  of_graph = 2 * (c.nodes + g) + d

  abbrev of_node : ℕ
  of_node = 2 * j + paired_exit ws c j d

  pub lead-caught : (x : List ℕ) → detects ws c x of_graph ≡ detects ws c x of_node
  unfolding read_by
  lead-caught x =
      let h : ℕ = stands_in ws j c.graphs in
      let k : ℕ = j - first ws h in
      let o = owner ws c.graphs j (rw a.nodes-in l) in
      let q = stemless ws c g s in
      let one = one-read a q.1 h k o.0 (omega (arith, o.1, o.2)) r in
      let t = paired-bit ws c j d b in
      let m : of_graph % 2 ≡ d = omega arith in
      let m' : of_node % 2 ≡ paired_exit ws c j d = omega arith in
      paired a x q.0 one of_graph of_node (omega arith) (omega (arith, o.1)) (m' ∙ sym (ap (decides ws h k) m ∙ exit-decided ws c j d))

  pub lead-tally : (xs : List ℕ) → tally ws c xs of_graph ≡ tally ws c xs of_node
  unfolding tally detected_by
  lead-tally xs = tally_of-same (detected_by ws c xs) (detected_by ws c xs) (vectors c.inputs xs) _ _ (λ t i. lead-caught (vector c.inputs xs t))

  pub lead-mark : (xs : List ℕ) → mark ws c xs of_graph ≡ mark ws c xs of_node
  unfolding mark detected_by
  lead-mark xs = mark_of-same (detected_by ws c xs) (detected_by ws c xs) (vectors c.inputs xs) _ _ (λ t i. lead-caught (vector c.inputs xs t))
