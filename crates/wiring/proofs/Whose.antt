-- EACH FAULT of a joined card is one of A, or of B at no wired input. Assumes nothing.
use Prim.Native.Nat.{ℕ, ◌+◌, ◌-◌, ◌*◌, ◌/◌, ◌%◌, ◌<◌, ◌≤◌}
use mathlib.Core.Path.{◌≡◌, ap, ◌∙◌}
use mathlib.Core.List.{List}
use mathlib.Core.Bool.{false, not}
use native.Mathlib.Omega.{arith}
use native.Mathlib.Decide.{dec_lt}
use Rattle.lists.proofs.Counting.{count-reached}
use Rattle.answers.specs.declared.Counts.{Counts}
use Rattle.wiring.specs.Joined.{is_free, free, number_a, number_b, joined_counts}
use Rattle.wiring.specs.Parts.{site_a, site_b, is_wired}
use Rattle.wiring.specs.Both.{Whose, of_a, of_b}
use Rattle.wiring.proofs.Numbers.{input-a, output-a, free-b, output-b}
use Rattle.wiring.proofs.Sites.{node_in, graph-in, wired-node, wired-output, wired-input}
use Rattle.wiring.proofs.Part.{Joins}

module _ {a b : List ℕ} {A B : Counts} {wires : List ℕ} (joins : Joins a b A B wires) (f : ℕ) where
  abbrev C : Counts
  C = joined_counts A B wires

  -- a fault at a site of A, and at one of B
  at-site-a : (p : ℕ) → p < A.nodes + A.graphs → site_a A B wires p ≡ f / 2 → Whose A B wires f
  at-site-a p l e =
      let z : (2 * p + f % 2) / 2 ≡ p = omega arith in
      of_a (2 * p + f % 2) (omega (arith, joins.part-a.own.all-faults)) (rw (z, e) (omega arith))

  at-site-b : (p : ℕ) → p < B.nodes + B.graphs → is_wired A B wires p ≡ false → site_b A B wires p ≡ f / 2 → Whose A B wires f
  at-site-b p l w e =
      let z : (2 * p + f % 2) / 2 ≡ p = omega arith in
      of_b (2 * p + f % 2) (omega (arith, joins.part-b.own.all-faults)) (ap (is_wired A B wires) z ∙ w) (rw (z, e) (omega arith))

  -- at a graph k of the joined card: inputs are those of A and the free ones of B, and then come the outputs of both
  module _ (k : ℕ) (at-k : C.nodes + k ≡ f / 2) where
    at-graph-a : (g : ℕ) → g < A.graphs → number_a A B wires g ≡ k → Whose A B wires f
    unfolding site_a
    at-graph-a g l e =
        at-site-a (A.nodes + g) (omega arith) (graph-in C.nodes 0 A.nodes (number_a A B wires) g ∙ ap (C.nodes +◌) e ∙ at-k)

    at-graph-b : (h : ℕ) → h < B.graphs → is_wired A B wires (B.nodes + h) ≡ false → number_b A B wires h ≡ k → Whose A B wires f
    unfolding site_b
    at-graph-b h l w e =
        at-site-b (B.nodes + h) (omega arith) w (graph-in C.nodes A.nodes B.nodes (number_b A B wires) h ∙ ap (C.nodes +◌) e ∙ at-k)

    at-free : A.inputs ≤ k → k < A.inputs + free A B wires → Whose A B wires f
    at-free m l =
        let r = count-reached (is_free wires) B.inputs (k - A.inputs) (omega arith) in
        at-graph-b r.number (omega (arith, r.inside, joins.part-b.own.inputs_in))
        (wired-input A B wires r.number r.inside ∙ ap not r.passes)
        (omega (arith, free-b A B wires r.number r.inside r.passes, r.before))

    at-graph : k < C.graphs → Whose A B wires f
    at-graph l = elim (dec_lt k A.inputs) [
      | yes i ↦ at-graph-a k (omega (arith, joins.part-a.own.inputs_in)) (input-a A B wires k i)
      | no i ↦ elim (dec_lt k (A.inputs + free A B wires)) [
        | yes j ↦ at-free (omega arith) j
        | no j ↦ elim (dec_lt k (A.graphs + free A B wires)) [
          | yes o ↦
              let g = k - free A B wires in
              at-graph-a g (omega arith) (omega (arith, output-a A B wires g (omega arith)))
          | no o ↦
              let h = k - (A.graphs + free A B wires) + B.inputs in
              at-graph-b h (omega arith) (wired-output A B wires h (omega arith)) (omega (arith, output-b A B wires h (omega arith)))
        ]
      ]
    ]

  pub joined-whose : f < C.faults → Whose A B wires f
  unfolding site_a site_b
  joined-whose l = elim (dec_lt (f / 2) A.nodes) [
    | yes i ↦ at-site-a (f / 2) (omega arith) (node_in C.nodes 0 A.nodes (number_a A B wires) (f / 2) i ∙ omega arith)
    | no i ↦ elim (dec_lt (f / 2) C.nodes) [
      | yes j ↦
          let p = f / 2 - A.nodes in
          let n : p < B.nodes = omega arith in
          at-site-b p (omega arith) (wired-node A B wires p n)
          (node_in C.nodes A.nodes B.nodes (number_b A B wires) p n ∙ omega arith)
      | no j ↦ at-graph (f / 2 - C.nodes) (omega arith) (omega arith)
    ]
  ]
