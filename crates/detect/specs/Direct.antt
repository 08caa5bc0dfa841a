-- A card with no inverted read grades as it did (document 02, 'Inverted reads'): what it has by the values of `direct_value`, in which a node's decision is
-- the value read, and the statement that this is what it has now. No contract of a call cites these. Assumes nothing.
use Rattle.std.specs.Prelude.{ℕ, ◌+◌, ◌-◌, ◌*◌, ◌<◌, ◌≡◌, List, [], ◌∷◌, Bool, not, eqb}
use Rattle.answers.specs.declared.Counts.{Counts}
use Rattle.cardtables.specs.Stems.{read_by, in_grade}
use Rattle.testvectors.specs.Vectors.{vectors, vector}
use Rattle.value.specs.Settings.{Setting, good, faulty}
use Rattle.value.specs.Values.{value}
use Rattle.value.specs.Direct.{direct_value}
use Rattle.detect.specs.Detects.{observed, detects, changes, critical_at}
use Rattle.detect.specs.Relation.{tally_of, mark_of, marked_of}
use Rattle.detect.specs.Grading.{tally, mark, marked}

module _ (ws : List ℕ) (c : Counts) (x : List ℕ) where
  -- what the vector catches, which graphs change with g held at the opposite of its good value, and which nodes are critical
  abbrev pub direct_detects : ℕ → Bool
  direct_detects f = observed ws c.graphs (direct_value ws c good x) (direct_value ws c (faulty (f ∷ [])) x)

  abbrev pub direct_opposite : ℕ → ℕ
  direct_opposite g = 2 * (c.nodes + g) + (1 - direct_value ws c good x g)

  abbrev pub direct_changes : ℕ → ℕ → Bool
  direct_changes g h = not (eqb (direct_value ws c (faulty (direct_opposite g ∷ [])) x h) (direct_value ws c good x h))

  -- the decision of node j is the value of the graph that it reads
  abbrev pub direct_critical : ℕ → Bool
  direct_critical j = direct_detects (2 * j + (1 - direct_value ws c good x (read_by ws c j)))

module _ (ws : List ℕ) (c : Counts) (xs : List ℕ) where
  -- of a list: what catches fault f, its tally and its mark, and the marked count
  abbrev pub direct_detected_by : ℕ → ℕ → Bool
  direct_detected_by f t = direct_detects ws c (vector c.inputs xs t) f

  abbrev pub direct_tally : ℕ → ℕ
  direct_tally = tally_of direct_detected_by (vectors c.inputs xs)

  abbrev pub direct_mark : ℕ → ℕ
  direct_mark = mark_of direct_detected_by (vectors c.inputs xs)

  abbrev pub direct_marked : ℕ
  direct_marked = marked_of direct_detected_by (in_grade ws c) (vectors c.inputs xs) c.faults

-- THE STATEMENT: values, what is caught, change lists, critical nodes and gradings are as they were
pub record AsBefore (ws : List ℕ) (c : Counts) : Type 0 where
  pub values : (s : Setting) (x : List ℕ) (g : ℕ) → value ws c s x g ≡ direct_value ws c s x g
  pub caught : (x : List ℕ) (f : ℕ) → detects ws c x f ≡ direct_detects ws c x f
  pub changed : (x : List ℕ) (g h : ℕ) → changes ws c x g h ≡ direct_changes ws c x g h
  pub critical : (x : List ℕ) (j : ℕ) → j < c.nodes → critical_at ws c x j ≡ direct_critical ws c x j
  pub tallies : (xs : List ℕ) (f : ℕ) → tally ws c xs f ≡ direct_tally ws c xs f
  pub marks : (xs : List ℕ) (f : ℕ) → mark ws c xs f ≡ direct_mark ws c xs f
  pub counted : (xs : List ℕ) → marked ws c xs ≡ direct_marked ws c xs
