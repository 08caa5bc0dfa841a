-- A buffer of good values. No contract of a call cites it. Assumes nothing.
use Rattle.std.specs.Prelude.{ℕ, ◌<◌, ◌≡◌, List, get_or}
use Rattle.answers.specs.declared.Counts.{Counts}
use Rattle.value.specs.Settings.{good}
use Rattle.value.specs.Values.{value}

-- the buffer has the good value of each graph under the vector x
abbrev pub GoodIn : List ℕ → Counts → List ℕ → List ℕ → Type 0
GoodIn ws c x xs = (g : ℕ) → g < c.graphs → get_or xs g 0 ≡ value ws c good x g
