-- What a graph gives in a change walk goes by lower graphs alone. Assumes nothing.
use Prim.Native.Nat.{ℕ, ◌-◌, ◌<◌}
use mathlib.Core.Path.{◌≡◌, ap₂}
use mathlib.Core.List.{List}
use mathlib.Core.Bool.{Bool}
use lib.Dec.{eqb}
use Rattle.lists.specs.Counting.{choose}
use Rattle.lists.proofs.Tests.{some_same}
use Rattle.lists.proofs.Net.{Lower, Same}
use Rattle.answers.specs.declared.Counts.{Counts}
use Rattle.layout.specs.Layout.{size, reads}
use Rattle.layout.specs.Shape.{Shape}
use Rattle.value.specs.Settings.{good}
use Rattle.value.specs.Values.{graph}
use Rattle.value.proofs.Values.{graph-lower}
use Rattle.detect.specs.Detects.{good_value}
use Rattle.rules.specs.Rules.{touched, rewalk}

module _ {ws : List ℕ} {c : Counts} (a : Shape ws c) (x : List ℕ) where
  abbrev v : ℕ → ℕ
  v = good_value ws c x

  good-lower : Lower c.graphs (graph ws c.nodes good x)
  good-lower = graph-lower a good x

  pub touched-same : (u w : ℕ → ℕ) (h : ℕ) → h < c.graphs → Same h u w → touched ws c x u h ≡ touched ws c x w h
  unfolding touched
  touched-same u w h l same = some_same _ _ (size ws h) (λ k i. rw (same (reads ws h k) (a.reads-lower h l k i)))

  pub rewalk-lower : (g : ℕ) → Lower c.graphs (rewalk ws c x g)
  rewalk-lower g u w h l same =
      ap₂ (λ (p : Bool) (q : ℕ). choose (eqb h g) (1 - v g) (choose p q (v h))) (touched-same u w h l same) (good-lower u w h l same)
