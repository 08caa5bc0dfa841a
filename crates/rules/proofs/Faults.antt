-- Rules 3 to 5 tell what one fault makes of the card. Assumes nothing.
use Prim.Native.Nat.{ℕ, suc, ◌+◌, ◌-◌, ◌/◌, ◌%◌, ◌<◌}
use mathlib.Core.Path.{◌≡◌, refl, sym, ap, ap₂, ◌∙◌}
use mathlib.Core.List.{List, [], ◌∷◌}
use mathlib.Core.Bool.{Bool, true, false, not, ◌&&◌, false≢true}
use native.Mathlib.Omega.{arith}
use native.Mathlib.Decide.{ℕ_discrete}
use lib.Dec.{eqb}
use Rattle.lists.proofs.Tests.{and_none, and-all, regroup, differ, agree, two-values}
use Rattle.lists.proofs.Net.{Same}
use Rattle.answers.specs.declared.Counts.{Counts}
use Rattle.layout.specs.Layout.{first, observable, size, reads, exits, decision}
use Rattle.layout.specs.Shape.{Shape}
use Rattle.layout.proofs.Firsts.{node-below, decides-bit}
use Rattle.value.specs.Settings.{Setting, good, faulty}
use Rattle.value.specs.Values.{follow, walk, taken, graph}
use Rattle.value.proofs.Settings.{faulty-keeps, stuck-here, stuck-off}
use Rattle.value.proofs.Values.{Spares, no-input, taken-later, graph-spares, node-spares}
use Rattle.detect.specs.Detects.{good_value, fault_value, detects}
use Rattle.detect.proofs.Detects.{observed-same, observed-none, observed-has}
use Rattle.rules.specs.Rules.{active, flipped, listed, critical, exit_value, critical_node, marks_node, marks_graph}
use Rattle.rules.proofs.Meets.{idle, forced}
use Rattle.rules.proofs.Changes.{good-solves, good-bit, flipped-here, setting-none, setting-flips}

-- one fault alone
abbrev one : ℕ → Setting
one f = faulty (f ∷ [])

module _ {ws : List ℕ} {c : Counts} (a : Shape ws c) (x : List ℕ) where
  abbrev v : ℕ → ℕ
  v = good_value ws c x

  -- the exit that a node takes with no fault in
  abbrev t : ℕ → ℕ → ℕ
  t = taken ws good v

  -- what graph g gives over good values with fault f in
  abbrev bad : ℕ → ℕ → ℕ
  bad f g = graph ws c.nodes (one f) x v g

  -- A fault that alters graph g alone is caught exactly where g is critical and gives another value.
  pub altered : (f g : ℕ) → g < c.graphs → ((h : ℕ) → h < c.graphs → (h ≡ g → ⊥) → Spares ws c (one f) h)
      → detects ws c x f ≡ critical ws c x g && not (eqb (bad f g) (v g))
  unfolding detects critical
  altered f g l spares = elim (ℕ_discrete (bad f g) (v g)) [
    | yes e ↦
        observed-none ws c.graphs v (fault_value ws c x f) (setting-none a x (one f) g l spares (faulty-keeps (f ∷ [])) e)
        ∙ sym (and_none (critical ws c x g) (agree _ _ e))
    | no n ↦
        observed-same ws c.graphs v (fault_value ws c x f) (flipped ws c x g) (setting-flips a x (one f) g l spares (faulty-keeps (f ∷ [])) n)
        ∙ sym (and-all (critical ws c x g) (differ _ _ n))
  ]

  -- Rule 5 for graphs.
  pub held_gives : (f g : ℕ) → f / 2 ≡ c.nodes + g → bad f g ≡ f % 2
  unfolding graph
  held_gives f g e = stuck-here f (c.nodes + g) _ e

  pub graph-fault : (f g : ℕ) → g < c.graphs → f / 2 ≡ c.nodes + g → detects ws c x f ≡ marks_graph ws c x g (f % 2)
  graph-fault f g l e =
      altered f g l (graph-spares a f g e) ∙ ap (λ (r : ℕ). critical ws c x g && not (eqb r (v g))) (held_gives f g e)

  -- Inside one graph: local node k of graph g is forced to decision f % 2.
  module _ (g k : ℕ) (l : g < c.graphs) (i : k < size ws g) where
    later-from : (s : Setting) (w : ℕ → ℕ) (n : ℕ) → taken ws s w g k ≡ suc (suc n) → (k < n) × (n < size ws g)
    later-from s w n = taken-later a s x w g l k n i

    pub good-walk : v g ≡ walk (t g) (size ws g) 0
    unfolding graph
    good-walk = good-solves a x g l ∙ rw (no-input a g k l i)

    -- an active node's graph has the value of the exit that the node takes
    pub active-value : active ws c x g k ≡ true → v g ≡ exit_value ws c x g k (decision ws v g k)
    unfolding active exit_value
    active-value m =
        good-walk
        ∙ forced (t g) (t g) (size ws g) k (taken-later a good x v g l) (λ _ _. refl) (later-from good v) (size ws g) 0 (omega arith) (omega arith) m

    module _ (f : ℕ) (e : f / 2 ≡ first ws g + k) where
      -- the exits taken with the fault in: as they were but at k
      abbrev u : ℕ → ℕ
      u = taken ws (one f) v g

      u-here : u k ≡ exits ws g k (f % 2)
      u-here = ap (exits ws g k) (stuck-here f (first ws g + k) (decision ws v g k) e)

      u-off : (j : ℕ) → (j ≡ k → ⊥) → t g j ≡ u j
      u-off j n = sym (ap (exits ws g j) (stuck-off f (first ws g + j) (decision ws v g j) (λ p. n (omega arith))))

      pub fault-walk : bad f g ≡ walk u (size ws g) 0
      unfolding graph
      fault-walk = stuck-off f (c.nodes + g) _ (λ p. omega (arith, node-below a g k l i)) ∙ rw (no-input a g k l i)

      -- an active node's graph gets the value of the exit that is forced, and any other's keeps its own
      pub forced-active : active ws c x g k ≡ true → bad f g ≡ exit_value ws c x g k (f % 2)
      unfolding active exit_value
      forced-active m =
          fault-walk
          ∙ forced (t g) u (size ws g) k (taken-later a good x v g l) u-off (later-from (one f) v) (size ws g) 0 (omega arith) (omega arith) m
          ∙ ap (follow (walk (t g) (size ws g))) u-here

      pub forced-idle : active ws c x g k ≡ false → bad f g ≡ v g
      unfolding active
      forced-idle m =
          fault-walk ∙ sym (idle (t g) u (size ws g) k (taken-later a good x v g l) u-off (size ws g) 0 m) ∙ sym good-walk

      -- forced to its own decision, a node alters nothing
      pub forced-own : f % 2 ≡ decision ws v g k → bad f g ≡ v g
      forced-own q = go (active ws c x g k) refl
        where
          go : (p : Bool) → active ws c x g k ≡ p → bad f g ≡ v g
          go true m = forced-active m ∙ ap (exit_value ws c x g k) q ∙ sym (active-value m)
          go false m = forced-idle m

      -- the graph's value is altered exactly when the node is active, its exits differ and it is forced to the other
      pub forced-alters : not (eqb (bad f g) (v g))
          ≡ active ws c x g k && (not (eqb (exit_value ws c x g k 0) (exit_value ws c x g k 1)) && not (eqb (f % 2) (decision ws v g k)))
      forced-alters = go (active ws c x g k) refl
        where
          go : (p : Bool) → active ws c x g k ≡ p → not (eqb (bad f g) (v g))
              ≡ p && (not (eqb (exit_value ws c x g k 0) (exit_value ws c x g k 1)) && not (eqb (f % 2) (decision ws v g k)))
          go true m =
              ap₂ (λ (p q : ℕ). not (eqb p q)) (forced-active m) (active-value m)
              ∙ two-values (exit_value ws c x g k) (f % 2) (decision ws v g k) (omega arith)
              (decides-bit ws g k _ (good-bit a x (reads ws g k) (omega (arith, a.reads-lower g l k i))))
          go false m = agree _ _ (forced-idle m)

      -- Rule 5 for nodes.
      pub node-fault : detects ws c x f ≡ marks_node ws c x g k (f % 2)
      unfolding critical_node
      node-fault =
          altered f g l (node-spares a f g k l i e)
          ∙ ap (critical ws c x g &&◌) forced-alters
          ∙ regroup (critical ws c x g) (active ws c x g k) _ _

  -- The calls' own sentences: the fault that holds graph g at the opposite, and the one that forces node k's other exit.
  pub opposite-values : (f g : ℕ) → g < c.graphs → f / 2 ≡ c.nodes + g → f % 2 ≡ 1 - v g → Same c.graphs (fault_value ws c x f) (flipped ws c x g)
  opposite-values f g l e d =
      setting-flips a x (one f) g l (graph-spares a f g e) (faulty-keeps (f ∷ []))
      (λ q. omega (arith, q, d, held_gives f g e, good-bit a x g l))

  pub opposite-caught : (f g : ℕ) → g < c.graphs → f / 2 ≡ c.nodes + g → f % 2 ≡ 1 - v g → detects ws c x f ≡ critical ws c x g
  opposite-caught f g l e d =
      graph-fault f g l e ∙ and-all (critical ws c x g) (differ (f % 2) (v g) (λ q. omega (arith, good-bit a x g l)))

  pub other-exit-caught : (f g k : ℕ) → g < c.graphs → k < size ws g → f / 2 ≡ first ws g + k → f % 2 ≡ 1 - decision ws v g k
      → detects ws c x f ≡ critical_node ws c x g k
  other-exit-caught f g k l i e d =
      node-fault g k l i f e ∙ and-all (critical_node ws c x g k) (differ (f % 2) (decision ws v g k) (λ q. omega arith))

  -- where a change walk may stop: at the first observable graph that flips, and that may be g itself
  pub critical-early : (g h : ℕ) → h < c.graphs → observable ws h ≡ true → listed ws c x g h ≡ true → critical ws c x g ≡ true
  unfolding critical
  critical-early g h l o e =
      observed-has ws c.graphs v (flipped ws c x g) h l o (λ q. false≢true (sym (agree _ _ q) ∙ e))

  pub critical-observable : (g : ℕ) → g < c.graphs → observable ws g ≡ true → critical ws c x g ≡ true
  critical-observable g l o =
      critical-early g g l o (differ (flipped ws c x g g) (v g) (λ q. omega (arith, q, flipped-here a x g l, good-bit a x g l)))
