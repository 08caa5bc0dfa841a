-- The grading of a card by a list of vectors is one over a relation. Assumes nothing.
use Prim.Native.Nat.{ℕ}
use mathlib.Core.Path.{◌≡◌}
use mathlib.Core.Bool.{not, ◌&&◌}
use mathlib.Core.List.{List}
use lib.Dec.{eqb}
use Rattle.lists.specs.Counting.{count}
use Rattle.answers.specs.declared.Counts.{Counts}
use Rattle.cardtables.specs.Stems.{in_grade}
use Rattle.testvectors.specs.Vectors.{vectors}
use Rattle.detect.specs.Grading.{detected_by, tally, mark, marked}
use Rattle.detect.proofs.Relation.{mark_of-none, marked_of-marks}

-- A FAULT'S TALLY IS 0 EXACTLY WHEN IT IS UNMARKED, over any list
pub unmarked-exactly : (ws : List ℕ) (c : Counts) (xs : List ℕ) (f : ℕ)
    → (tally ws c xs f ≡ 0 → mark ws c xs f ≡ 0xC0000000) × (mark ws c xs f ≡ 0xC0000000 → tally ws c xs f ≡ 0)
unfolding tally mark
unmarked-exactly ws c xs = mark_of-none (detected_by ws c xs) (vectors c.inputs xs)

-- so the marked count is that of the faults that have a mark
pub marked-marks : (ws : List ℕ) (c : Counts) (xs : List ℕ) → marked ws c xs ≡ count (λ f. in_grade ws c f && not (eqb (mark ws c xs f) 0xC0000000)) c.faults
unfolding mark marked
marked-marks ws c xs = marked_of-marks (detected_by ws c xs) (vectors c.inputs xs) (in_grade ws c) c.faults
