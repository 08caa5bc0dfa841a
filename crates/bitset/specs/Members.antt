-- Sets of numbers in the bits of words. No contract of a call cites them. Assumes nothing.
use Rattle.std.specs.Prelude.{ℕ, ◌+◌, ◌/◌, ◌%◌, ◌<◌, ◌≤◌, ◌≡◌, List, get_or}
use Rattle.word32.specs.Fields.{bit_of}

-- 1 where the set at `base` has number i, else 0
unfoldable pub member : List ℕ → ℕ → ℕ → ℕ
member words base i = bit_of (get_or words (base + i / 32) 0) (i % 32)

-- a word with the bits of another, and with bit b
pub record WithBit (w b r : ℕ) : Type 0 where
  pub kept : (i : ℕ) → bit_of w i ≤ bit_of r i
  pub there : bit_of r b ≡ 1

-- no set loses a number, and the words below `base` stay
pub record Gains (base : ℕ) (xs ys : List ℕ) : Type 0 where
  pub kept : (at i : ℕ) → member xs at i ≤ member ys at i
  pub below : (i : ℕ) → i < base → get_or ys i 0 ≡ get_or xs i 0

-- the set at `base` has r, where r is below `end`, and no number from `start` on that is below r, of those below `end`
pub record Next (words : List ℕ) (base start end r : ℕ) : Type 0 where
  pub onward : start ≤ r
  pub none : (i : ℕ) → start ≤ i → i < r → i < end → member words base i ≡ 0
  pub there : r < end → member words base r ≡ 1
