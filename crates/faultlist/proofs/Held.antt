-- A NODE'S FAULT INSIDE A HELD GRAPH changes no value: the graph shows what it is held at, and no other graph sees its nodes. Assumes nothing.
use Prim.Native.Nat.{ℕ, ◌+◌, ◌/◌, ◌<◌}
use mathlib.Core.Path.{◌≡◌, sym, ap, ◌∙◌}
use mathlib.Core.List.{List, [], ◌∷◌}
use mathlib.Core.Bool.{true, false≢true}
use native.Mathlib.Omega.{arith}
use native.Mathlib.Decide.{ℕ_discrete}
use borrow.Author.Tests.{ne_eqb}
use Rattle.lists.specs.Counting.{choose}
use Rattle.lists.proofs.Net.{Same}
use Rattle.answers.specs.declared.Counts.{Counts}
use Rattle.layout.specs.Layout.{first, is_input, size, exits}
use Rattle.layout.specs.Shape.{Shape}
use Rattle.layout.proofs.Firsts.{apart, node-below}
use Rattle.testvectors.specs.Vectors.{bit}
use Rattle.value.specs.Settings.{faulty}
use Rattle.value.specs.Values.{taken, graph, value}
use Rattle.value.proofs.Settings.{faulty-here, faulty-off}
use Rattle.value.proofs.Walk.{same_graph}
use Rattle.value.proofs.Values.{taken-later, value-solves, value-unique}
use Rattle.faultlist.specs.Faults.{at_site}

-- a site with a fault of the list has the same, whatever is worked out there
held_same : (p : ℕ) (fs : List ℕ) → at_site p fs ≡ true → (u v : ℕ) → faulty fs p u ≡ faulty fs p v
unfolding at_site
held_same p [] e u v = absurd (false≢true e)
held_same p (f ∷ fs) e u v = elim (ℕ_discrete (f / 2) p) [
  | yes q ↦ faulty-here f fs p u q ∙ sym (faulty-here f fs p v q)
  | no n ↦ faulty-off f fs p u n ∙ held_same p fs (rw (ne_eqb (f / 2) p n) at e) u v ∙ sym (faulty-off f fs p v n)
]

-- fault n is one of local node k of graph g, and the list holds the graph
module _ {ws : List ℕ} {c : Counts} (a : Shape ws c) (fs x : List ℕ) (g k n : ℕ) (l : g < c.graphs) (i : k < size ws g) (at-node : n / 2 ≡ first ws g + k)
    (held : at_site (c.nodes + g) fs ≡ true) where
  off-graph : (h v : ℕ) → faulty (n ∷ fs) (c.nodes + h) v ≡ faulty fs (c.nodes + h) v
  off-graph h v = faulty-off n fs (c.nodes + h) v (λ r. omega (arith, node-below a g k l i))

  one-graph : (v : ℕ → ℕ) (h : ℕ) → h < c.graphs → graph ws c.nodes (faulty fs) x v h ≡ graph ws c.nodes (faulty (n ∷ fs)) x v h
  unfolding graph
  one-graph v h m = elim (ℕ_discrete h g) [
    | yes e ↦ rw e (held_same (c.nodes + g) fs held _ _ ∙ sym (off-graph g _))
    | no d ↦
        ap (λ (r : ℕ). faulty fs (c.nodes + h) (choose (is_input ws h) (bit x h) r))
        (same_graph (taken ws (faulty fs) v h) (taken ws (faulty (n ∷ fs)) v h) (size ws h) (taken-later a (faulty fs) x v h m)
        (λ j o. ap (exits ws h j) (sym (faulty-off n fs (first ws h + j) _ (λ r. apart ws g h k j d i o (sym at-node ∙ r))))))
        ∙ sym (off-graph h _)
  ]

  pub inside-held : Same c.graphs (value ws c (faulty fs) x) (value ws c (faulty (n ∷ fs)) x)
  inside-held =
      value-unique a (faulty (n ∷ fs)) x (value ws c (faulty fs) x)
      (λ h m. value-solves a (faulty fs) x h m ∙ one-graph (value ws c (faulty fs) x) h m)
