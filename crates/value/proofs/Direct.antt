-- A card with no inverted read has the values that it had by document 01's own words. Assumes nothing.
use Prim.Native.Nat.{ℕ, ◌+◌, ◌<◌}
use mathlib.Core.Path.{◌≡◌, ap, fun_ext, ◌∙◌}
use mathlib.Core.List.{List}
use Rattle.lists.specs.Counting.{choose}
use Rattle.lists.specs.Tables.{at}
use Rattle.lists.proofs.Net.{grow-same}
use Rattle.answers.specs.declared.Counts.{Counts}
use Rattle.layout.specs.Layout.{first, is_input, size, reads, exits, decision}
use Rattle.layout.specs.Shape.{Shape}
use Rattle.layout.proofs.Firsts.{decides-direct}
use Rattle.testvectors.specs.Vectors.{bit}
use Rattle.value.specs.declared.Walked.{Walked}
use Rattle.value.specs.Settings.{Setting}
use Rattle.value.specs.Values.{walked, taken, graph, value, path_length}
use Rattle.value.specs.Direct.{Direct, direct_taken, direct_graph, direct_value, direct_length}
use Rattle.value.proofs.Walk.{same_graph, graph-walked}
use Rattle.value.proofs.Values.{taken-later}

module _ {ws : List ℕ} {c : Counts} (a : Shape ws c) (direct : Direct ws c) where
  -- a node decides on the value read
  pub decision-direct : (v : ℕ → ℕ) (g k : ℕ) → g < c.graphs → k < size ws g → decision ws v g k ≡ v (reads ws g k)
  decision-direct v g k l i = decides-direct ws g k (v (reads ws g k)) (direct g k l i)

  graph-direct : (s : Setting) (x : List ℕ) (v : ℕ → ℕ) (g : ℕ) → g < c.graphs → graph ws c.nodes s x v g ≡ direct_graph ws c.nodes s x v g
  unfolding graph direct_graph
  graph-direct s x v g l =
      ap (λ (r : ℕ). s (c.nodes + g) (choose (is_input ws g) (bit x g) r))
      (same_graph (taken ws s v g) (direct_taken ws s v g) (size ws g) (taken-later a s x v g l)
      (λ k i. ap (λ (r : ℕ). exits ws g k (s (first ws g + k) r)) (decision-direct v g k l i)))

  -- EVERY VALUE IS AS IT WAS, under every setting
  pub value-direct : (s : Setting) (x : List ℕ) (g : ℕ) → value ws c s x g ≡ direct_value ws c s x g
  unfolding value direct_value
  value-direct s x g = ap (λ (vs : List ℕ). at vs g) (grow-same _ _ c.graphs (graph-direct s x))

  walked-direct : (s : Setting) (x : List ℕ) (v : ℕ → ℕ) (g : ℕ) → g < c.graphs → walked (taken ws s v g) (size ws g) 0 ≡ walked (direct_taken ws s v g) (size ws g) 0
  walked-direct s x v g l =
      graph-walked (taken ws s v g) (direct_taken ws s v g) (size ws g) (taken-later a s x v g l)
      (λ k i. ap (λ (r : ℕ). exits ws g k (s (first ws g + k) r)) (decision-direct v g k l i))

  -- AND EVERY LENGTH
  pub length-direct : (s : Setting) (x : List ℕ) (g : ℕ) → g < c.graphs → path_length ws c s x g ≡ direct_length ws c s x g
  unfolding path_length direct_length
  length-direct s x g l =
      ap (λ (w : Walked). choose (is_input ws g) 0 w.decisions) (walked-direct s x (value ws c s x) g l)
      ∙ ap (λ (v : ℕ → ℕ). choose (is_input ws g) 0 (walked (direct_taken ws s v g) (size ws g) 0).decisions) (fun_ext (value-direct s x))
