-- One graph walked with the values of a buffer, node by node. Assumes nothing.
use Prim.Native.Nat.{ℕ, ◌+◌, ◌-◌, ◌*◌, ◌<◌, ◌≤◌}
use mathlib.Core.Path.{◌≡◌, sym, ap, ◌∙◌}
use mathlib.Core.List.{List}
use native.Mathlib.Omega.{arith}
use lib.ListN.{get_or}
use Rattle.word32.specs.Fields.{exit_of}
use Rattle.layout.specs.Layout.{size, reads}
use Rattle.layout.specs.Tables.{Decided, Walkable}
use Rattle.layout.proofs.NodeNumbers.{decision-is, exit-later}
use Rattle.value.specs.declared.Walked.{Walked}
use Rattle.value.specs.Settings.{good}
use Rattle.value.specs.Values.{through_exit, walked, walk, taken}
use Rattle.value.specs.Buffers.{BitsBelow}
use Rattle.value.proofs.Walk.{walk-walked, later-by, node-walked, through-constant, through-node}
use Rattle.value.proofs.Run.{taken_is}

-- the number of a graph's nodes is told by 16 bits
pub size_small : (ws : List ℕ) (g : ℕ) → size ws g < 65536
unfolding size
size_small ws g = omega arith

-- the walk of graph h from local node k, where the graphs have the values of a buffer
abbrev pub walked_by : List ℕ → List ℕ → ℕ → ℕ → Walked
walked_by ws xs h k = walked (taken ws good (λ g. get_or xs g 0) h) (size ws h) k

-- the value of a walk that was made
pub walk-value : (ws xs : List ℕ) (h : ℕ) {w : Walked} → (BitsBelow h xs → w ≡ walked_by ws xs h 0)
    → BitsBelow h xs → w.value ≡ walk (taken ws good (λ g. get_or xs g 0) h) (size ws h) 0
walk-value ws xs h e bits =
    ap (λ (w : Walked). w.value) (e bits) ∙ sym (walk-walked (taken ws good (λ g. get_or xs g 0) h) (size ws h) 0)

-- local node k of graph h, whose first node the table gives as f, has decision d and takes exit e; n nodes were met before it
module _ {ws tables : List ℕ} {h k f : ℕ} (y : Walkable ws tables h) (l : k < size ws h) (p : f ≡ get_or tables h 0) (xs : List ℕ) {d e : ℕ}
    (q : Decided ws (h + 1 + 2 * (f + k)) xs 0 d)
    (z : e ≡ exit_of (get_or ws (h + 2 + 2 * (f + k)) 0) d) where
  law : BitsBelow h xs → walked_by ws xs h k ≡ through_exit (walked_by ws xs h) e
  law bits =
      let b : 0 + reads ws h k ≡ reads ws h k = omega arith in
      let d-is = decision-is y l p (λ g. get_or xs g 0) xs 0 q (ap (λ (n : ℕ). get_or xs n 0) b) (bits (reads ws h k) (y.lower k l)) in
      node-walked (taken ws good (λ g. get_or xs g 0) h) (size ws h) (λ i j b u. y.later i _ j b u) k l
      ∙ ap (through_exit (walked_by ws xs h)) (taken_is y l p good (λ g. get_or xs g 0) d-is z)

  pub walk_ends : e < 2 → BitsBelow h xs → (n : ℕ) → later-by n (walked_by ws xs h k) ≡ record { value = e; decisions = n + 1 }
  walk_ends b bits n = ap (later-by n) (law bits ∙ through-constant (walked_by ws xs h) e b)

  pub walk-later : 2 ≤ e → (k < e - 2) × (e - 2 < size ws h)
  walk-later b = exit-later y l p d z b

  pub walk-goes : 2 ≤ e → BitsBelow h xs → (n : ℕ) → later-by n (walked_by ws xs h k) ≡ later-by (n + 1) (walked_by ws xs h (e - 2))
  walk-goes b bits n =
      let w = walked_by ws xs h (e - 2) in
      let more : n + (1 + w.decisions) ≡ n + 1 + w.decisions = omega arith in
      ap (later-by n) (law bits ∙ through-node (walked_by ws xs h) e b) ∙ ap (λ (m : ℕ). record { value = w.value; decisions = m }) more
