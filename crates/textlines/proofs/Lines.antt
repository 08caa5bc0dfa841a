-- The lines of the faults, one more at a time. Assumes nothing.
use Prim.Native.Nat.{ℕ, ◌+◌}
use mathlib.Core.Path.{◌≡◌, refl}
use mathlib.Core.List.{[], ◌++◌}
use native.Mathlib.Numerals.{add-one}
use Rattle.textlines.specs.Text.{fault_line, fault_lines}

pub lines_none : (m t : ℕ → ℕ) → fault_lines m t 0 ≡ []
unfolding fault_lines
lines_none m t = refl

pub lines_next : (m t : ℕ → ℕ) (f : ℕ) → fault_lines m t f ++ fault_line f (m f) (t f) ≡ fault_lines m t (f + 1)
unfolding fault_lines
lines_next m t f = rw add-one
