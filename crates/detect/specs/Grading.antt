-- What a list of vectors catches: the first vector, the tally and the marked count of document 01's gradings. For an accepted card. Assumes nothing.
use Rattle.std.specs.Prelude.{ℕ, List, Bool}
use Rattle.lists.specs.Counting.{count, least}
use Rattle.answers.specs.declared.Counts.{Counts}
use Rattle.cardtables.specs.Stems.{in_grade}
use Rattle.testvectors.specs.Vectors.{vectors, vector}
use Rattle.detect.specs.Detects.{detects}
use Rattle.detect.specs.Relation.{tally_of, mark_of, marked_of}

module _ (ws : List ℕ) (c : Counts) (xs : List ℕ) where
  -- vector t of the list catches fault f
  unfoldable pub detected_by : ℕ → ℕ → Bool
  unfolding detects vector
  detected_by f t = detects ws c (vector c.inputs xs t) f

  -- the tally and the mark of fault f, and the marked count, of the faults that count in the grade: over their total (Stems) it is the fault coverage
  unfoldable pub tally : ℕ → ℕ
  unfolding detected_by count vectors
  tally = tally_of detected_by (vectors c.inputs xs)

  unfoldable pub mark : ℕ → ℕ
  unfolding detected_by least vectors
  mark = mark_of detected_by (vectors c.inputs xs)

  unfoldable pub marked : ℕ
  unfolding in_grade tally
  marked = marked_of detected_by (in_grade ws c) (vectors c.inputs xs) c.faults
