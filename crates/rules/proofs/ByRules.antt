-- THE THEOREM: what faults and values tell, the marking rules tell, for every vector of an accepted card. Assumes nothing.
use Prim.Native.Nat.{ℕ, ◌+◌, ◌-◌, ◌*◌, ◌/◌, ◌%◌, ◌<◌}
use mathlib.Core.Path.{◌≡◌, ap, ◌∙◌}
use mathlib.Core.List.{List}
use mathlib.Core.Bool.{not}
use native.Mathlib.Omega.{arith}
use lib.Dec.{eqb}
use Rattle.answers.specs.declared.Counts.{Counts}
use Rattle.layout.specs.Layout.{first, size, decision}
use Rattle.layout.specs.Shape.{Shape}
use Rattle.detect.specs.Detects.{good_value, detects, opposite, changes, decision_of, other_exit, critical_at}
use Rattle.layout.proofs.Stands.{stands-in}
use Rattle.rules.specs.Rules.{listed, critical_node, marks_node, marks_graph}
use Rattle.rules.proofs.Faults.{graph-fault, node-fault, opposite-values, other-exit-caught}

module _ {ws : List ℕ} {c : Counts} (a : Shape ws c) (x : List ℕ) where
  -- rule 5, for graph g held at d, and for local node k of graph g forced to decision d
  pub graph-told : (g d : ℕ) → g < c.graphs → d < 2 → detects ws c x (2 * (c.nodes + g) + d) ≡ marks_graph ws c x g d
  graph-told g d l i =
      let f = 2 * (c.nodes + g) + d in
      let e : f / 2 ≡ c.nodes + g = omega arith in
      let r : f % 2 ≡ d = omega arith in
      graph-fault a x f g l e ∙ ap (marks_graph ws c x g) r

  pub node-told : (g k d : ℕ) → g < c.graphs → k < size ws g → d < 2 → detects ws c x (2 * (first ws g + k) + d) ≡ marks_node ws c x g k d
  node-told g k d l i j =
      let f = 2 * (first ws g + k) + d in
      let e : f / 2 ≡ first ws g + k = omega arith in
      let r : f % 2 ≡ d = omega arith in
      node-fault a x g k l i f e ∙ ap (marks_node ws c x g k) r

  -- rule 2
  pub changes-told : (g h : ℕ) → g < c.graphs → h < c.graphs → changes ws c x g h ≡ listed ws c x g h
  unfolding changes
  changes-told g h l m =
      let e : opposite ws c x g / 2 ≡ c.nodes + g = omega arith in
      let r : opposite ws c x g % 2 ≡ 1 - good_value ws c x g = omega arith in
      ap (λ (w : ℕ). not (eqb w (good_value ws c x h))) (opposite-values a x (opposite ws c x g) g l e r h m)

  -- rule 4, and the decision that it is told of
  pub decision-told : (g k : ℕ) → g < c.graphs → k < size ws g → decision_of ws c x (first ws g + k) ≡ decision ws (good_value ws c x) g k
  decision-told g k l i =
      let e : first ws g + k - first ws g ≡ k = omega arith in
      rw (stands-in a g k l i, e)

  pub critical-told : (g k : ℕ) → g < c.graphs → k < size ws g → critical_at ws c x (first ws g + k) ≡ critical_node ws c x g k
  unfolding critical_at
  critical-told g k l i =
      let j = first ws g + k in
      let e : other_exit ws c x j / 2 ≡ j = omega arith in
      let r : other_exit ws c x j % 2 ≡ 1 - decision_of ws c x j = omega arith in
      other-exit-caught a x (other_exit ws c x j) g k l i e (r ∙ ap (1 -◌) (decision-told g k l i))
