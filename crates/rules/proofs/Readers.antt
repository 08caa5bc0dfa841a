-- A graph that is not observable and that one node alone reads: it is caught and critical exactly where that node is. Assumes nothing.
use Prim.Native.Nat.{ℕ, ◌+◌, ◌-◌, ◌*◌, ◌/◌, ◌%◌, ◌<◌}
use mathlib.Core.Path.{◌≡◌, refl, sym, ap, ap₂, ◌∙◌}
use mathlib.Core.List.{List, [], ◌∷◌}
use mathlib.Core.Bool.{false, not, ◌&&◌}
use native.Mathlib.Omega.{arith}
use native.Mathlib.Decide.{ℕ_discrete}
use lib.Dec.{eqb}
use borrow.Author.Tests.{eq-eqb, ne_eqb}
use Rattle.lists.specs.Counting.{choose}
use Rattle.lists.proofs.Tests.{some_same}
use Rattle.lists.proofs.Net.{Solves}
use Rattle.answers.specs.declared.Counts.{Counts}
use Rattle.layout.specs.Layout.{first, is_input, observable, size, reads, exits, decides, decision}
use Rattle.layout.specs.Shape.{Shape}
use Rattle.cardtables.specs.Readers.{OneReader}
use Rattle.layout.proofs.Firsts.{one-node, node-below, decides-other}
use Rattle.testvectors.specs.Vectors.{bit}
use Rattle.value.specs.Settings.{Setting, good, faulty}
use Rattle.value.specs.Values.{taken, graph}
use Rattle.value.proofs.Settings.{stuck-here, stuck-off}
use Rattle.value.proofs.Walk.{same_graph}
use Rattle.value.proofs.Values.{taken-later, value-solves, value-unique, graph-spared, graph-spares}
use Rattle.detect.specs.Detects.{observed, good_value, fault_value, detects, opposite}
use Rattle.rules.specs.Rules.{critical, critical_node}
use Rattle.rules.proofs.Faults.{opposite-caught, other-exit-caught}

-- one fault alone
abbrev one : ℕ → Setting
one f = faulty (f ∷ [])

module _ {ws : List ℕ} {c : Counts} (a : Shape ws c) (x : List ℕ) {g h k : ℕ} (hidden : observable ws g ≡ false) (o : OneReader ws c g h k) where
  inside : g < c.graphs
  inside = omega (arith, o.graph, rw o.read at (a.reads-lower h o.graph k o.node))

  -- fault f holds graph g, and fault f' forces its reader to the decision there
  module _ (f f' : ℕ) (e : f / 2 ≡ c.nodes + g) (e' : f' / 2 ≡ first ws h + k) (d : f' % 2 ≡ decides ws h k (f % 2)) where
    -- the values with f' in, and the same but at graph g, which is held
    abbrev v' : ℕ → ℕ
    v' = fault_value ws c x f'

    abbrev w : ℕ → ℕ
    w r = choose (eqb r g) (f % 2) (v' r)

    w-here : w g ≡ f % 2
    w-here = rw (eq-eqb g g refl)

    w-off : (r : ℕ) → (r ≡ g → ⊥) → w r ≡ v' r
    w-off r n = rw (ne_eqb r g n)

    -- each node takes the same exit under both
    same-exit : (r i : ℕ) → r < c.graphs → i < size ws r → taken ws (one f') v' r i ≡ taken ws good w r i
    same-exit r i l m = ap (exits ws r i) (elim (ℕ_discrete (reads ws r i) g) [
      | yes p ↦
          let q = o.alone r i l m p in
          stuck-here f' (first ws r + i) _ (rw (q.0, q.1) e')
          ∙ d ∙ sym (ap₂ (λ (r i : ℕ). decides ws r i (f % 2)) q.0 q.1) ∙ ap (decides ws r i) (sym (ap w p ∙ w-here))
      | no n ↦
          stuck-off f' (first ws r + i) _ (λ z.
          let q = one-node ws h r k i o.node m (sym e' ∙ z) in
          n (ap₂ (reads ws) q.0 q.1 ∙ o.read))
          ∙ ap (decides ws r i) (sym (w-off (reads ws r i) n))
    ])

    -- so the latter are the values with f in
    w-solves : Solves c.graphs (graph ws c.nodes (one f) x) w
    unfolding graph
    w-solves r l = elim (ℕ_discrete r g) [
      | yes p ↦ rw p (w-here ∙ sym (stuck-here f (c.nodes + g) _ e))
      | no n ↦
          w-off r n ∙ value-solves a (one f') x r l
          ∙ stuck-off f' (c.nodes + r) _ (λ z. omega (arith, node-below a h k o.graph o.node))
          ∙ ap (choose (is_input ws r) (bit x r)) (same_graph _ _ (size ws r) (taken-later a (one f') x v' r l) (λ i. same-exit r i l))
          ∙ sym (graph-spared a (one f) x w r l (graph-spares a f g e r l n))
    ]

    -- and one fault is caught exactly where the other is
    pub paired : detects ws c x f ≡ detects ws c x f'
    unfolding detects observed
    paired = some_same _ _ c.graphs (λ r l. elim (ℕ_discrete r g) [
      | yes p ↦ rw (p, hidden)
      | no n ↦ ap (λ (q : ℕ). observable ws r && not (eqb q (good_value ws c x r))) (sym (value-unique a (one f) x w w-solves r l) ∙ w-off r n)
    ])

  -- graph g is critical exactly where its reader is
  pub one_reader : critical ws c x g ≡ critical_node ws c x h k
  one_reader =
      let v : ℕ → ℕ = good_value ws c x in
      let f : ℕ = opposite ws c x g in
      let f' : ℕ = 2 * (first ws h + k) + (1 - decision ws v h k) in
      let e : f / 2 ≡ c.nodes + g = omega arith in
      let m : f % 2 ≡ 1 - v g = omega arith in
      let e' : f' / 2 ≡ first ws h + k = omega arith in
      let m' : f' % 2 ≡ 1 - decision ws v h k = omega arith in
      let d = ap (decides ws h k) m ∙ decides-other ws h k (v g) ∙ ap (λ (r : ℕ). 1 - decides ws h k (v r)) (sym o.read) in
      sym (opposite-caught a x f g inside e m) ∙ paired f f' e e' (m' ∙ sym d) ∙ other-exit-caught a x f' h k o.graph o.node e' m'
