-- A list of vectors graded. No contract of a public call cites these. Assumes nothing.
use Rattle.std.specs.Prelude.{ℕ, ◌*◌, ◌<◌, ◌≤◌, ◌≡◌, List, length}
use Rattle.lists.specs.Tables.{over}
use Rattle.answers.specs.Limits.{max_vectors}
use Rattle.answers.specs.declared.Counts.{Counts}
use Rattle.layout.specs.Shape.{Shape}
use Rattle.testvectors.specs.Vectors.{width, vectors}
use Rattle.detect.specs.Grading.{detected_by, tally, mark, marked}
use Rattle.block.specs.Block.{GradedBy}

-- THE LOOP'S INVARIANT: the marks ys and the tallies ts are those of the first t vectors of the list; words beyond the faults are as in xs and us
abbrev pub Graded : List ℕ → Counts → List ℕ → ℕ → List ℕ → List ℕ → List ℕ → List ℕ → Type 0
Graded ws c vs = GradedBy (detected_by ws c vs) c.faults

-- a card of the form, and a list of vectors of its width
pub record CardWithList (ws : List ℕ) (c : Counts) (vs : List ℕ) : Type 0 where
  pub shape : Shape ws c
  pub some-input : 0 < c.inputs
  pub whole : length vs ≡ vectors c.inputs vs * width c.inputs
  pub few : vectors c.inputs vs ≤ max_vectors

-- THE WHOLE LIST GRADED: the marked count, and the marks and the tallies at the fronts of two buffers
pub record GradedList (ws : List ℕ) (c : Counts) (vs : List ℕ) (marked' : ℕ) (marks tallies marks' tallies' : List ℕ) : Type 0 where
  pub number : marked' ≡ marked ws c vs
  pub marks-put : marks' ≡ over c.faults (mark ws c vs) marks
  pub tallies-put : tallies' ≡ over c.faults (tally ws c vs) tallies
