-- What is caught at a node and at a graph, by rule 5. Assumes nothing.
use Prim.Native.Nat.{ℕ, zero, suc, ◌+◌, ◌-◌, ◌<◌}
use mathlib.Core.Path.{◌≡◌, refl, sym, ◌∙◌}
use mathlib.Core.List.{List}
use mathlib.Core.Bool.{Bool, true, false, not, ◌&&◌}
use native.Mathlib.Omega.{arith}
use lib.Dec.{eqb, ltb}
use borrow.Author.Tests.{lt-ltb}
use Rattle.layout.proofs.Firsts.{decides-bit}
use Rattle.lists.specs.Counting.{choose}
use Rattle.answers.specs.declared.Counts.{Counts}
use Rattle.layout.specs.Layout.{first, size, reads, decision, stands_in}
use Rattle.layout.specs.Shape.{Shape}
use Rattle.detect.specs.Detects.{good_value, critical_at}
use Rattle.layout.proofs.Stands.{owner}
use Rattle.rules.specs.Rules.{critical, critical_node}
use Rattle.rules.proofs.Changes.{good-bit}
use Rattle.rules.proofs.ByRules.{graph-told, node-told, critical-told}
use Rattle.catches.specs.Caught.{caught_at}

-- of a critical site the fault at the opposite of what it has is caught, of any other neither
one-caught : (b : Bool) (d : ℕ) → d < 2 → choose (b && not (eqb 0 d)) 0 (choose (b && not (eqb 1 d)) 1 2) ≡ choose b (1 - d) 2
one-caught true zero h = refl
one-caught true (suc zero) h = refl
one-caught true (suc (suc d)) h = absurd (omega arith)
one-caught false d h = refl

module _ {ws : List ℕ} {c : Counts} (a : Shape ws c) (x : List ℕ) where
  pub node-caught : (g k : ℕ) → g < c.graphs → k < size ws g → decision ws (good_value ws c x) g k < 2
      → caught_at ws c x (first ws g + k) ≡ choose (critical_node ws c x g k) (1 - decision ws (good_value ws c x) g k) 2
  unfolding caught_at
  node-caught g k h l d =
      rw (node-told a x g k 0 h l (omega arith), node-told a x g k 1 h l (omega arith)) (one-caught (critical_node ws c x g k) (decision ws (good_value ws c x) g k) d)

  pub graph-caught : (g : ℕ) → g < c.graphs → good_value ws c x g < 2
      → caught_at ws c x (c.nodes + g) ≡ choose (critical ws c x g) (1 - good_value ws c x g) 2
  unfolding caught_at
  graph-caught g h d = rw (graph-told a x g 0 h (omega arith), graph-told a x g 1 h (omega arith)) (one-caught (critical ws c x g) (good_value ws c x g) d)

-- a node is critical exactly when one of its faults is caught
told-bit : (b : Bool) (d : ℕ) → ltb (choose b (1 - d) 2) 2 ≡ b
told-bit true d = lt-ltb (1 - d) 2 (omega arith)
told-bit false d = refl

pub critical-word : {ws : List ℕ} {c : Counts} (a : Shape ws c) (x : List ℕ) (j : ℕ) → j < c.nodes → ltb (caught_at ws c x j) 2 ≡ critical_at ws c x j
critical-word {ws} {c} a x j h =
    let g = stands_in ws j c.graphs in
    let o = owner ws c.graphs j (rw a.nodes-in h) in
    let k = j - first ws g in
    let l : k < size ws g = omega (arith, o.1, o.2) in
    let e : first ws g + k ≡ j = omega (arith, o.1) in
    rw (← e) (rw (node-caught a x g k o.0 l (decides-bit ws g k _ (good-bit a x (reads ws g k) (omega (arith, o.0, a.reads-lower g o.0 k l)))))
    (told-bit (critical_node ws c x g k) (decision ws (good_value ws c x) g k) ∙ sym (critical-told a x g k o.0 l)))
