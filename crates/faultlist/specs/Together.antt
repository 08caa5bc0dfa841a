-- Faults that hold together, said without an order of them. No contract of a call cites this: the laws say that `faulty`, which the contracts cite, is
-- this setting, and that there is no other. Assumes nothing.
use Rattle.std.specs.Prelude.{ℕ, ◌/◌, ◌%◌, ◌≡◌, List}
use Rattle.lists.specs.Each.{Each}
use Rattle.value.specs.Settings.{Setting}

-- each fault of the list holds its site at its value, whatever is worked out there, and every site with no fault of the list has what is worked out
pub record Together (fs : List ℕ) (s : Setting) : Type 0 where
  pub each : Each (λ f. (v : ℕ) → s (f / 2) v ≡ f % 2) fs
  pub rest : (p v : ℕ) → Each (λ f. f / 2 ≡ p → ⊥) fs → s p v ≡ v
