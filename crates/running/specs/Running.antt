-- The running result of a grading and its two buffers, marks and tallies, with no card in it. No contract of a public call cites these. Assumes nothing.
use Rattle.std.specs.Prelude.{ℕ, ◌+◌, ◌*◌, ◌/◌, ◌<◌, ◌≤◌, ◌≡◌, List, Bool, true, false, ◌&&◌, length, get_or, set, ltb, eqb}
use Rattle.lists.specs.Counting.{choose, count}
use Rattle.running.specs.declared.Running.{Running}

-- a fault's mark and tally after vector t, where b tells whether the vector catches it; before, they were m and n. The first catch alone makes the mark.
abbrev pub next_mark : ℕ → Bool → ℕ → ℕ → ℕ
next_mark t b n m = choose (b && eqb n 0) (0xE0000000 + t) m

abbrev pub next_tally : Bool → ℕ → ℕ
next_tally b n = n + choose b 1 0

-- a buffer with w stored for fault f, where it is to be
abbrev pub put_if : Bool → List ℕ → ℕ → ℕ → List ℕ
put_if true xs f w = set xs f w
put_if false xs f w = xs

-- which faults count in the grade, by the words ks of the sites: the two of each site whose word is 1
abbrev pub in_grade_by : List ℕ → ℕ → Bool
in_grade_by ks f = eqb (get_or ks (f / 2) 0) 1

-- how many of the first n faults count, by k, and have a tally over 0
unfoldable pub found : (ℕ → Bool) → List ℕ → ℕ → ℕ
unfolding count
found k ts n = count (λ f. k f && ltb 0 (get_or ts f 0)) n

-- site p taken in, where its word is d and b tells whether its faults count: marks ms become ms', tallies ts become ts', and r is the marked count, where
-- it was m
pub record Put (t p d : ℕ) (b : Bool) (ms ts : List ℕ) (m : ℕ) (ms' ts' : List ℕ) (r : ℕ) : Type 0 where
  pub number : r ≡ m + choose (b && (ltb d 2 && eqb (get_or ts (2 * p + d) 0) 0)) 1 0
  pub marks : ms' ≡ put_if (ltb d 2 && eqb (get_or ts (2 * p + d) 0) 0) ms (2 * p + d) (0xE0000000 + t)
  pub tallies : ts' ≡ put_if (ltb d 2) ts (2 * p + d) (get_or ts (2 * p + d) 0 + 1)

-- the marks and tallies of the first n sites' faults after vector t, from the words cs of the sites; the others as they were
pub record Folded (t n : ℕ) (cs ms ts ms' ts' : List ℕ) : Type 0 where
  pub mark : (p d : ℕ) → p < n → d < 2 → get_or ms' (2 * p + d) 0 ≡ next_mark t (eqb (get_or cs p 0) d) (get_or ts (2 * p + d) 0) (get_or ms (2 * p + d) 0)
  pub tally : (p d : ℕ) → p < n → d < 2 → get_or ts' (2 * p + d) 0 ≡ next_tally (eqb (get_or cs p 0) d) (get_or ts (2 * p + d) 0)
  pub rest : (f : ℕ) → 2 * n ≤ f → (get_or ms' f 0 ≡ get_or ms f 0) × (get_or ts' f 0 ≡ get_or ts f 0)

-- no tally from `low` up to `high` is over t
pub record TalliesUpTo (t low high : ℕ) (ts : List ℕ) : Type 0 where
  pub word : (f : ℕ) → low ≤ f → f < high → get_or ts f 0 ≤ t

-- The running result r belongs to the marks ms and the tallies ts of n faults: its marked count is how many of them count in the grade, by k, and have a
-- tally over 0; and no tally is over the number of vectors taken in.
pub record Counted (k : ℕ → Bool) (n : ℕ) (ms ts : List ℕ) (r : Running) : Type 0 where
  pub marks-long : n ≤ length ms
  pub tallies-long : n ≤ length ts
  pub number : r.marked ≡ found k ts n
  pub tallies-low : TalliesUpTo r.vector 0 n ts
