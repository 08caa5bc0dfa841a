-- The exit that a node takes, as a table of first nodes gives its number, and where its walk goes on. Assumes nothing.
use Prim.Native.Nat.{ℕ, ◌+◌, ◌-◌, ◌*◌, ◌<◌, ◌≤◌}
use mathlib.Core.Path.{◌≡◌, sym, ap, ◌∙◌}
use mathlib.Core.List.{List}
use lib.ListN.{get_or}
use Rattle.word32.specs.Fields.{exit_of}
use Rattle.answers.specs.declared.Counts.{Counts}
use Rattle.layout.specs.Layout.{first, size, exits, decision}
use Rattle.layout.specs.Tables.{Ready, Walkable}
use Rattle.layout.proofs.NodeNumbers.{node-number, exit-is, walkable}
use Rattle.value.specs.Settings.{Setting}
use Rattle.value.specs.Values.{taken, value, node_value}
use Rattle.value.proofs.Values.{node-constant, node-onward}

-- local node k of graph g, whose first node the table gives as f, takes exit a at decision d
module _ {ws tables : List ℕ} {g k f : ℕ} (y : Walkable ws tables g) (l : k < size ws g) (e : f ≡ get_or tables g 0) (s : Setting) (v : ℕ → ℕ) where
  pub taken_is : {d a : ℕ} → d ≡ decision ws v g k → a ≡ exit_of (get_or ws (g + 2 + 2 * (f + k)) 0) (s (f + k) d) → taken ws s v g k ≡ a
  taken_is {d} q u =
      sym (exit-is y l e (s (f + k) d) u ∙ ap (λ (n : ℕ). exits ws g k (s n d)) (node-number y l e)
      ∙ ap (λ (n : ℕ). exits ws g k (s (first ws g + k) n)) q)

-- where that exit is a constant, and where it is a later node
module _ {ws tables : List ℕ} {c : Counts} (y : Ready ws c tables) {g k f : ℕ} (h : g < c.graphs) (l : k < size ws g) (e : f ≡ get_or tables g 0)
    (s : Setting) (x : List ℕ) {d a : ℕ} (q : d ≡ decision ws (value ws c s x) g k) (u : a ≡ exit_of (get_or ws (g + 2 + 2 * (f + k)) 0) (s (f + k) d)) where
  pub node-ends : a < 2 → a ≡ node_value ws c s x g k
  node-ends b = sym (node-constant y.shape s x g k a h l (taken_is (walkable y h) l e s (value ws c s x) q u) b)

  pub node-goes : 2 ≤ a → (k < a - 2) × (a - 2 < size ws g) × (node_value ws c s x g k ≡ node_value ws c s x g (a - 2))
  node-goes b = node-onward y.shape s x g k a h l (taken_is (walkable y h) l e s (value ws c s x) q u) b
