-- The length of an output by its walk over a buffer of good values. Assumes nothing.
use Prim.Native.Nat.{ℕ, ◌<◌, ◌≤◌}
use mathlib.Core.Path.{◌≡◌, ap, ◌∙◌}
use mathlib.Core.List.{List}
use native.Mathlib.Omega.{arith}
use lib.ListN.{get_or}
use Rattle.answers.specs.declared.Counts.{Counts}
use Rattle.layout.specs.Shape.{Shape}
use Rattle.value.specs.declared.Walked.{Walked}
use Rattle.value.specs.Settings.{good}
use Rattle.value.specs.Values.{path_length}
use Rattle.value.specs.Buffers.{BitsBelow}
use Rattle.value.proofs.Settings.{good-keeps}
use Rattle.value.proofs.Values.{value-bit}
use Rattle.value.proofs.Walking.{walked_by}
use Rattle.value.proofs.Lengths.{path-by}
use Rattle.pathlengths.specs.GoodValues.{GoodIn}

module _ {ws : List ℕ} {c : Counts} (a : Shape ws c) (xs : List ℕ) {g : ℕ} (h : g < c.graphs) (x : List ℕ) (good-in : GoodIn ws c x xs) where
  bits : BitsBelow g xs
  bits i l = rw (good-in i (omega arith)) (value-bit a good x good-keeps i (omega arith))

  pub length-walked : c.inputs ≤ g → {w : Walked} → (BitsBelow g xs → w ≡ walked_by ws xs g 0) → w.decisions ≡ path_length ws c good x g
  length-walked i e =
      ap (λ (w : Walked). w.decisions) (e bits) ∙ path-by a good x g h i (λ r. get_or xs r 0) (λ r l. good-in r (omega arith))
