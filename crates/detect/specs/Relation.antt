-- A GRADING OVER ANY RELATION, where `catches f t` says that vector t catches fault f. Assumes nothing.
use Rattle.std.specs.Prelude.{ℕ, ◌+◌, Bool, ◌&&◌, ltb}
use Rattle.lists.specs.Counting.{choose, count, least}

module _ (catches : ℕ → ℕ → Bool) where
  -- tally (detection count): how many of the first n vectors catch fault f; mark (first detection): C0000000 if none does, else E0000000 plus the earliest
  abbrev pub tally_of : ℕ → ℕ → ℕ
  tally_of n f = count (catches f) n

  abbrev pub mark_of : ℕ → ℕ → ℕ
  mark_of n f = choose (ltb (least (catches f) n) n) (0xE0000000 + least (catches f) n) 0xC0000000

  -- the marked count (detected faults): how many of the first F faults count and are caught by some vector
  abbrev pub marked_of : (ℕ → Bool) → ℕ → ℕ → ℕ
  marked_of counts n F = count (λ f. counts f && ltb 0 (tally_of n f)) F
