-- Where the active path of a graph goes on. No contract of a call cites it. Assumes nothing.
use Rattle.std.specs.Prelude.{ℕ, suc, ◌<◌, ◌≤◌, ◌≡◌, List}
use Rattle.answers.specs.declared.Counts.{Counts}
use Rattle.layout.specs.Layout.{size}
use Rattle.value.specs.Settings.{good}
use Rattle.value.specs.Values.{taken}
use Rattle.detect.specs.Detects.{good_value}
use Rattle.rules.specs.Rules.{beyond, meets, active}

-- of graph g the nodes below k are passed, and the active path goes on by exit e
pub record ActivePath (ws : List ℕ) (c : Counts) (x : List ℕ) (g k e : ℕ) : Type 0 where
  pub next : (i : ℕ) → k ≤ i → i < size ws g → active ws c x g i ≡ beyond (meets (taken ws good (good_value ws c x) g) i (size ws g)) e
  pub later : (l : ℕ) → e ≡ suc (suc l) → (k ≤ l) × (l < size ws g)
