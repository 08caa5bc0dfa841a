-- The five numbers of a check at the front of a buffer. Assumes nothing.
use Prim.Native.Nat.{ℕ, ◌≤◌}
use mathlib.Core.Path.{◌≡◌, refl}
use mathlib.Core.List.{List, [], ◌∷◌, ◌++◌}
use native.Mathlib.Omega.{arith}
use lib.ListN.{length, set, drop}
use Rattle.lists.specs.Tables.{front}

pub five-put : (d : List ℕ) (i g n o f : ℕ) → 5 ≤ length d → set (set (set (set (set d 0 i) 1 g) 2 n) 3 o) 4 f ≡ front (i ∷ g ∷ n ∷ o ∷ f ∷ []) d
five-put (a ∷ b ∷ c ∷ d ∷ e ∷ l) i g n o f h = refl
five-put [] i g n o f h = absurd (omega arith)
five-put (a ∷ []) i g n o f h = absurd (omega arith)
five-put (a ∷ b ∷ []) i g n o f h = absurd (omega arith)
five-put (a ∷ b ∷ c ∷ []) i g n o f h = absurd (omega arith)
five-put (a ∷ b ∷ c ∷ d ∷ []) i g n o f h = absurd (omega arith)

-- the five numbers copied to the front at once are the five put there one by one
pub five-copied : (d : List ℕ) (i g n o f : ℕ) → 5 ≤ length d → (i ∷ g ∷ n ∷ o ∷ f ∷ []) ++ drop 5 d ≡ set (set (set (set (set d 0 i) 1 g) 2 n) 3 o) 4 f
five-copied (a ∷ b ∷ c ∷ d ∷ e ∷ l) i g n o f h = refl
five-copied [] i g n o f h = absurd (omega arith)
five-copied (a ∷ []) i g n o f h = absurd (omega arith)
five-copied (a ∷ b ∷ []) i g n o f h = absurd (omega arith)
five-copied (a ∷ b ∷ c ∷ []) i g n o f h = absurd (omega arith)
five-copied (a ∷ b ∷ c ∷ d ∷ []) i g n o f h = absurd (omega arith)
