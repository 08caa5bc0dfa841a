-- A block of vectors taken in by the running result. No contract of a public call cites these. Assumes nothing.
use Rattle.std.specs.Prelude.{ℕ, ◌+◌, ◌*◌, ◌<◌, ◌≤◌, ◌≡◌, List, Bool, length, get_or}
use Rattle.lists.specs.Tables.{over, always}
use Rattle.answers.specs.declared.Counts.{Counts}
use Rattle.answers.specs.Limits.{max_vectors}
use Rattle.cardtables.specs.Stems.{in_grade}
use Rattle.testvectors.specs.Vectors.{width, vectors}
use Rattle.detect.specs.Relation.{tally_of, mark_of}
use Rattle.detect.specs.Grading.{detected_by}
use Rattle.running.specs.declared.Running.{Running}
use Rattle.running.specs.Running.{Counted}

-- the marks ys and the tallies ts of the first F faults are those of the first t vectors, by any relation; words beyond are as in xs and us
pub record GradedBy (catches : ℕ → ℕ → Bool) (F t : ℕ) (xs us ys ts : List ℕ) : Type 0 where
  pub mark : (f : ℕ) → f < F → get_or ys f 0 ≡ mark_of catches t f
  pub tally : (f : ℕ) → f < F → get_or ts f 0 ≡ tally_of catches t f
  pub rest : (f : ℕ) → F ≤ f → (get_or ys f 0 ≡ get_or xs f 0) × (get_or ts f 0 ≡ get_or us f 0)

abbrev pub block_vectors : ℕ
block_vectors = 64

-- where the block that starts at vector t of n ends: it has some vectors, and 64 at most
pub record BlockEnd (t n e : ℕ) : Type 0 where
  pub some : t < e
  pub inside : e ≤ n
  pub few : e ≤ t + block_vectors

-- a block of whole vectors, the first of which is vector t
pub record Block (c : Counts) (vs : List ℕ) (t : ℕ) : Type 0 where
  pub some-input : 0 < c.inputs
  pub whole : length vs ≡ vectors c.inputs vs * width c.inputs
  pub few : t + vectors c.inputs vs ≤ max_vectors

-- The result r has taken in the first n vectors of a block and is q then. By any relation that agrees with the card on these vectors, buffers that had the
-- marks and tallies of the vectors before them now have those of these vectors too.
pub record TookIn (ws : List ℕ) (c : Counts) (vs : List ℕ) (n : ℕ) (xs us ys ts : List ℕ) (r q : Running) : Type 0 where
  pub vector : q.vector ≡ r.vector + n
  pub graded : (catches : ℕ → ℕ → Bool) → ((f i : ℕ) → i < n → catches f (r.vector + i) ≡ detected_by ws c vs f i) → {ms os : List ℕ}
      → GradedBy catches c.faults r.vector ms os xs us → GradedBy catches c.faults q.vector ms os ys ts
  pub counted : Counted (in_grade ws c) c.faults ys ts q

-- before the first vector: no fault is marked, and every tally is 0, so that it is no matter which faults count
pub record Begun (c : Counts) (xs us ys ts : List ℕ) (r : Running) : Type 0 where
  pub vector : r.vector ≡ 0
  pub counted : (k : ℕ → Bool) → Counted k c.faults ys ts r
  pub marks : ys ≡ over c.faults (always 0xC0000000) xs
  pub tallies : ts ≡ over c.faults (always 0) us
