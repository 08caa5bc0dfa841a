-- THE LENGTH OF A GRAPH IS THE NUMBER OF ITS ACTIVE NODES, by rule 1. Assumes nothing.
use Prim.Native.Nat.{ℕ, ◌<◌}
use mathlib.Core.Path.{◌≡◌, sym, ◌∙◌}
use mathlib.Core.List.{List}
use native.Mathlib.Omega.{arith}
use native.Mathlib.Decide.{dec_lt}
use Rattle.lists.specs.Counting.{count}
use Rattle.answers.specs.declared.Counts.{Counts}
use Rattle.layout.specs.Layout.{size}
use Rattle.layout.specs.Shape.{Shape}
use Rattle.value.specs.Settings.{good}
use Rattle.value.specs.Values.{taken, path_length}
use Rattle.value.proofs.Values.{taken-later}
use Rattle.value.proofs.Lengths.{path-input, path-output}
use Rattle.detect.specs.Detects.{good_value}
use Rattle.rules.specs.Rules.{active}
use Rattle.rules.proofs.Meets.{met-counted}

module _ {ws : List ℕ} {c : Counts} (a : Shape ws c) (x : List ℕ) where
  pub path-active : (g : ℕ) → g < c.graphs → path_length ws c good x g ≡ count (active ws c x g) (size ws g)
  unfolding active count
  path-active g h = elim (dec_lt g c.inputs) [
    | yes i ↦ path-input a good x g i ∙ rw (a.input g i).1
    | no n ↦
        path-output a good x g h (omega arith)
        ∙ sym (met-counted (taken ws good (good_value ws c x) g) (size ws g) (taken-later a good x (good_value ws c x) g h) (size ws g) 0 (a.output g h (omega arith)).1)
  ]
