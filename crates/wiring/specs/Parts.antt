-- The parts of a joined card: where the sites of A and of B are in it, and what a vector and a setting of it are for each part. For accepted cards.
-- Assumes nothing.
use Rattle.std.specs.Prelude.{ℕ, ◌+◌, ◌-◌, ◌*◌, ◌/◌, ◌%◌, List, Bool, not, ◌&&◌, get_or, ltb, leb}
use Rattle.lists.specs.Counting.{choose}
use Rattle.answers.specs.declared.Counts.{Counts}
use Rattle.testvectors.specs.Vectors.{bit}
use Rattle.testvectors.specs.Made.{vector_of}
use Rattle.value.specs.Settings.{Setting}
use Rattle.wiring.specs.Joined.{is_free, free_below, number_a, number_b}

-- the site of a joined card of N nodes where site p of a part is, whose n nodes follow `before` others and whose graphs have new numbers
abbrev pub site_in : ℕ → ℕ → ℕ → (ℕ → ℕ) → ℕ → ℕ
site_in N before n number p = choose (ltb p n) (before + p) (N + number (p - n))

-- the fault of a joined card that is fault f of a part: the same stuck value, at the part's site
abbrev pub fault_in : (ℕ → ℕ) → ℕ → ℕ
fault_in site f = 2 * site (f / 2) + f % 2

module _ (A B : Counts) (wires : List ℕ) where
  -- THE PLACES: A's nodes keep their numbers, and B's follow them
  unfoldable pub site_a : ℕ → ℕ
  unfolding number_a
  site_a p = site_in (A.nodes + B.nodes) 0 A.nodes (number_a A B wires) p

  unfoldable pub site_b : ℕ → ℕ
  unfolding number_b
  site_b p = site_in (A.nodes + B.nodes) A.nodes B.nodes (number_b A B wires) p

  -- site p of B is a wired input: the joined card has no such site
  abbrev pub is_wired : ℕ → Bool
  is_wired p = leb B.nodes p && (ltb (p - B.nodes) B.inputs && not (is_free wires (p - B.nodes)))

  -- THE FAULTS of a joined card that are those of A, and of B
  abbrev pub fault_a : ℕ → ℕ
  fault_a f = fault_in site_a f

  abbrev pub fault_b : ℕ → ℕ
  fault_b f = fault_in site_b f

  -- what a setting of the joined card's sites is for A, and for B, whose wired inputs it leaves alone
  abbrev pub setting_a : Setting → Setting
  setting_a s p v = s (site_a p) v

  abbrev pub setting_b : Setting → Setting
  setting_b s p v = choose (is_wired p) v (s (site_b p) v)

  -- A's part of a vector x of the joined card; and B's, where A's graphs have the values v: free inputs are as in x, wired ones have A's values
  abbrev pub vector_a : List ℕ → List ℕ
  vector_a x = vector_of A.inputs (bit x)

  abbrev pub vector_b : List ℕ → (ℕ → ℕ) → List ℕ
  vector_b x v = vector_of B.inputs (λ i. choose (is_free wires i) (bit x (A.inputs + free_below wires i)) (v (get_or wires i 0)))
