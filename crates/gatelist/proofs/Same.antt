-- THE CARD IS THE GATE LIST: what is caught, tallies and marks go by values, and these are equal. Assumes nothing.
use Prim.Native.Nat.{ℕ}
use mathlib.Core.Path.{◌≡◌}
use mathlib.Core.List.{List, [], ◌∷◌}
use mathlib.Core.Bool.{not, ◌&&◌}
use lib.Dec.{eqb}
use Rattle.lists.proofs.Tests.{some_same}
use Rattle.lists.proofs.Counting.{count_same}
use Rattle.answers.specs.declared.Counts.{Counts}
use Rattle.std.specs.Prelude.{Ok}
use Rattle.layout.specs.Layout.{observable}
use Rattle.testvectors.specs.Vectors.{vectors, vector}
use Rattle.value.specs.Settings.{Setting, Keeps, good, faulty}
use Rattle.value.specs.Values.{value}
use Rattle.value.proofs.Settings.{good-keeps, faulty-keeps}
use Rattle.detect.specs.Detects.{observed, detects}
use Rattle.cardtables.specs.Stems.{in_grade, total}
use Rattle.detect.specs.Grading.{detected_by, tally, mark, marked}
use Rattle.detect.proofs.Relation.{tally_of-same, mark_of-same, marked_of-same}
use Rattle.gatelist.specs.Lines.{observable_line}
use Rattle.gatelist.specs.Form.{gates_checked_with}
use Rattle.gatelist.specs.Gates.{shown, line_value, gate_detects, gate_detected_by, fault_counts, gate_total}
use Rattle.gatelist.specs.Drawn.{drawn}
use Rattle.gatelist.specs.AcceptsGates.{AcceptsGates}
use Rattle.gatelist.specs.Same.{AsGates}
use Rattle.gatelist.proofs.Sound.{gates-check-accepts}
use Rattle.gatelist.proofs.Written.{graph-of}
use Rattle.gatelist.proofs.Accepted.{drawn-accepted, drawn-direct}
use Rattle.gatelist.proofs.Values.{drawn-value}
use Rattle.gatelist.proofs.Readers.{drawn-counts}

module _ {gs : List ℕ} {c : Counts} (a : AcceptsGates gs c) where
  abbrev card : List ℕ
  card = drawn gs c.graphs

  drawn-shows : (s t : Setting) → Keeps s → Keeps t → (x : List ℕ)
      → observed card c.graphs (value card c s x) (value card c t x) ≡ shown gs c.graphs (line_value gs c s x) (line_value gs c t x)
  unfolding observed shown
  drawn-shows s t p q x =
      some_same (λ l. observable card l && not (eqb (value card c t x l) (value card c s x l)))
      (λ l. observable_line gs l && not (eqb (line_value gs c t x l) (line_value gs c s x l))) c.graphs
      (λ l h. rw ((graph-of a l h).seen, drawn-value a s x p l h, drawn-value a t x q l h))

  drawn-catches : (x : List ℕ) (f : ℕ) → detects card c x f ≡ gate_detects gs c x f
  unfolding detects gate_detects
  drawn-catches x f = drawn-shows good (faulty (f ∷ [])) good-keeps (faulty-keeps (f ∷ [])) x

  drawn-total : total card c ≡ gate_total gs c
  unfolding total
  drawn-total = count_same (in_grade card c) (fault_counts gs c) c.faults (drawn-counts a)

pub drawn-as-gates : (gs : List ℕ) (extra : ℕ) {c : Counts} → gates_checked_with gs extra ≡ Ok c → AsGates gs c
unfolding detected_by tally mark marked
drawn-as-gates gs extra {c} e =
    let a = gates-check-accepts gs extra e in
    let n = vectors c.inputs in
    record {
      accepted = drawn-accepted a;
      direct = drawn-direct a;
      graphs = graph-of a;
      values = λ s p x. drawn-value a s x p;
      shows = drawn-shows a;
      catches = drawn-catches a;
      tallies = λ xs f. tally_of-same (detected_by (card a) c xs) (gate_detected_by gs c xs) (n xs) f f (λ t l. drawn-catches a (vector c.inputs xs t) f);
      marks = λ xs f. mark_of-same (detected_by (card a) c xs) (gate_detected_by gs c xs) (n xs) f f (λ t l. drawn-catches a (vector c.inputs xs t) f);
      counting = drawn-counts a;
      graded = λ xs. marked_of-same (detected_by (card a) c xs) (gate_detected_by gs c xs) (n xs) (in_grade (card a) c) (fault_counts gs c) c.faults
          (drawn-counts a) (λ f t h l. drawn-catches a (vector c.inputs xs t) f);
      totals = drawn-total a;
    }
