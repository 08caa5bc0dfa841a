-- The list of faults of a call on the plain path: document 02, 'Several faults at once'. Assumes nothing.
use Rattle.std.specs.Prelude.{ℕ, ◌/◌, List, [], ◌∷◌, Bool, false, ◌||◌, length, ltb, leb, eqb}
use Rattle.lists.specs.Counting.{some_of}
use Rattle.answers.specs.declared.Counts.{Counts}
use Rattle.answers.specs.declared.Rule.TheVariants.{NumberTooHigh, FaultListForm, BufferTooShort}
use Rattle.answers.specs.Tests.{Test, test}

-- some number of the list is F or more
unfoldable pub too_high : ℕ → List ℕ → Bool
unfolding some_of
too_high F fs = some_of (leb F) fs

-- some number of the list is a fault of site p: fault f is one of site f / 2 (`value`, specs/Settings.antt)
unfoldable pub at_site : ℕ → List ℕ → Bool
unfolding some_of
at_site p fs = some_of (λ f. eqb (f / 2) p) fs

-- two numbers of the list are faults of one site: a number repeated, or both faults of one node or graph
unfoldable pub site_twice : List ℕ → Bool
unfolding at_site
site_twice [] = false
site_twice (f ∷ fs) = at_site (f / 2) fs || site_twice fs

-- THE TESTS of a call with the faults fs, with `extra` bytes after them that are no number, and with a buffer of `room` words: each fault's number;
-- then the list, which is whole numbers, at most 8 of them, no two of one site; then the buffer's length
unfoldable pub fault_tests : ℕ → List ℕ → ℕ → Counts → List Test
unfolding too_high site_twice
fault_tests extra fs room c =
    test (too_high c.faults fs) NumberTooHigh 0
    ∷ test (ltb 0 extra) FaultListForm 0
    ∷ test (ltb 8 (length fs)) FaultListForm 0
    ∷ test (site_twice fs) FaultListForm 0
    ∷ test (ltb room c.graphs) BufferTooShort 0
    ∷ []
