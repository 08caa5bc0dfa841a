-- The length of a graph under a vector: how many decisions its value takes. Assumes nothing.
use Prim.Native.Nat.{ℕ, ◌+◌, ◌<◌, ◌≤◌}
use mathlib.Core.Path.{◌≡◌, sym, ap, ◌∙◌}
use mathlib.Core.List.{List}
use mathlib.Core.Bool.{Bool, true, false}
use native.Mathlib.Omega.{arith}
use Rattle.lists.specs.Counting.{choose}
use Rattle.answers.specs.declared.Counts.{Counts}
use Rattle.layout.specs.Layout.{first, is_input, size, reads, exits, decides}
use Rattle.layout.specs.Shape.{Shape}
use Rattle.value.specs.declared.Walked.{Walked}
use Rattle.value.specs.Settings.{Setting, good}
use Rattle.value.specs.Values.{walked, taken, value, node_value, path_length}
use Rattle.value.proofs.Walk.{walk-walked, decisions-few, decisions-some, graph-walked}
use Rattle.value.proofs.Values.{taken-later, value-output}

-- at most the number of its nodes
pub path-few : (ws : List ℕ) (c : Counts) (s : Setting) (x : List ℕ) (g : ℕ) → path_length ws c s x g ≤ size ws g
unfolding path_length
path-few ws c s x g = go (is_input ws g)
  where
    go : (b : Bool) → choose b 0 (walked (taken ws s (value ws c s x) g) (size ws g) 0).decisions ≤ size ws g
    go true = omega arith
    go false = decisions-few (taken ws s (value ws c s x) g) (size ws g) 0

module _ {ws : List ℕ} {c : Counts} (a : Shape ws c) (s : Setting) (x : List ℕ) (g : ℕ) where
  -- an input's is 0
  pub path-input : g < c.inputs → path_length ws c s x g ≡ 0
  unfolding path_length
  path-input h = rw (a.input g h).0

  module _ (h : g < c.graphs) (i : c.inputs ≤ g) where
    -- an output's is that of its walk from the entrance, and at least 1
    pub path-output : path_length ws c s x g ≡ (walked (taken ws s (value ws c s x) g) (size ws g) 0).decisions
    unfolding path_length
    path-output = rw (a.output g h i).0

    pub path-some : 0 < path_length ws c s x g
    path-some = rw path-output (decisions-some (taken ws s (value ws c s x) g) (size ws g) 0 (a.output g h i).1)

    -- any values that agree below g tell it
    pub path-by : (v : ℕ → ℕ) → ((r : ℕ) → r < g → v r ≡ value ws c s x r) → (walked (taken ws s v g) (size ws g) 0).decisions ≡ path_length ws c s x g
    path-by v same =
        ap (λ (w : Walked). w.decisions) (graph-walked (taken ws s v g) (taken ws s (value ws c s x) g) (size ws g) (taken-later a s x v g h)
        (λ k l. ap (λ (r : ℕ). exits ws g k (s (first ws g + k) (decides ws g k r))) (same (reads ws g k) (a.reads-lower g h k l))))
        ∙ sym path-output

-- ONE WALK GIVES BOTH: with no fault in, the walk of an output graph from its entrance gives its value and its length
pub walk-gives : {ws : List ℕ} {c : Counts} (a : Shape ws c) (x : List ℕ) (g : ℕ) → g < c.graphs → c.inputs ≤ g
    → walked (taken ws good (value ws c good x) g) (size ws g) 0 ≡ record { value = value ws c good x g; decisions = path_length ws c good x g }
unfolding node_value
walk-gives {ws} {c} a x g h i =
    rw (value-output a good x g h (a.output g h i).0, path-output a good x g h i, walk-walked (taken ws good (value ws c good x) g) (size ws g) 0)
