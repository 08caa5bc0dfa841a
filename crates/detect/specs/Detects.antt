-- What a vector catches, and which graphs and nodes are critical under it, by faults and values alone: document 01, 'Values and faults'. For an accepted
-- card. Assumes nothing.
use Rattle.std.specs.Prelude.{ℕ, ◌+◌, ◌-◌, ◌*◌, List, [], ◌∷◌, Bool, not, ◌&&◌, eqb}
use Rattle.lists.specs.Counting.{some_below}
use Rattle.answers.specs.declared.Counts.{Counts}
use Rattle.layout.specs.Layout.{first, observable, decision, stands_in}
use Rattle.value.specs.Settings.{good, faulty}
use Rattle.value.specs.Values.{value}

-- some observable graph of the first n has another value in w than in v
unfoldable pub observed : List ℕ → ℕ → (ℕ → ℕ) → (ℕ → ℕ) → Bool
unfolding some_below
observed ws n v w = some_below (λ g. observable ws g && not (eqb (w g) (v g))) n

module _ (ws : List ℕ) (c : Counts) (x : List ℕ) where
  -- the values with no fault in, and with fault f in
  abbrev pub good_value : ℕ → ℕ
  good_value = value ws c good x

  abbrev pub fault_value : ℕ → ℕ → ℕ
  fault_value f = value ws c (faulty (f ∷ [])) x

  -- THE VECTOR CATCHES FAULT f, or detects it, as the field says: with it in, an observable graph differs from its good value
  unfoldable pub detects : ℕ → Bool
  unfolding observed
  detects f = observed ws c.graphs good_value (fault_value f)

  -- the fault that holds graph g at the opposite of its good value: 2N + 2g where that is 1, else 2N + 2g + 1
  abbrev pub opposite : ℕ → ℕ
  opposite g = 2 * (c.nodes + g) + (1 - good_value g)

  -- graph h differs when graph g alone is so held
  unfoldable pub changes : ℕ → ℕ → Bool
  changes g h = not (eqb (fault_value (opposite g) h) (good_value h))

  -- node j's decision with no fault in, and the fault that forces its other exit: 2j at decision 1, 2j + 1 at decision 0
  abbrev pub decision_of : ℕ → ℕ
  decision_of j = decision ws good_value (stands_in ws j c.graphs) (j - first ws (stands_in ws j c.graphs))

  abbrev pub other_exit : ℕ → ℕ
  other_exit j = 2 * j + (1 - decision_of j)

  -- NODE j IS CRITICAL: forcing its other exit alters an observable graph
  unfoldable pub critical_at : ℕ → Bool
  unfolding detects stands_in
  critical_at j = detects (other_exit j)
