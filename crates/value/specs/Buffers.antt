-- The buffer of values that a walk reads. No contract of a call cites it. Assumes nothing.
use Rattle.std.specs.Prelude.{ℕ, ◌<◌, List, get_or}

-- the words of a buffer below h are 0 or 1
abbrev pub BitsBelow : ℕ → List ℕ → Type 0
BitsBelow h xs = (i : ℕ) → i < h → get_or xs i 0 < 2
