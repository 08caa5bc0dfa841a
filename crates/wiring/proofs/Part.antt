-- THE LAW OF A PART: the graphs of a card that stands in another have its values there. And the parts of a joined card. Assumes nothing.
use Prim.Native.Nat.{ℕ, ◌+◌, ◌-◌, ◌<◌, ◌≤◌}
use mathlib.Core.Path.{◌≡◌, sym, ap, ◌∙◌}
use mathlib.Core.List.{List}
use mathlib.Core.Bool.{true}
use native.Mathlib.Omega.{arith}
use native.Mathlib.Decide.{dec_lt}
use Rattle.lists.proofs.Net.{Solves}
use Rattle.answers.specs.declared.Counts.{Counts}
use Rattle.layout.specs.Layout.{first, is_input, observable, size, reads, exits, decides}
use Rattle.layout.specs.Shape.{Shape}
use Rattle.layout.proofs.Firsts.{node-below, input-hidden}
use Rattle.form.proofs.Checked.{check-accepts}
use Rattle.testvectors.specs.Vectors.{bit}
use Rattle.value.specs.Settings.{Setting}
use Rattle.value.specs.Values.{taken, walk, graph, value}
use Rattle.value.proofs.Walk.{same_graph}
use Rattle.value.proofs.Values.{taken-later, value-solves, value-unique}
use Rattle.wiring.specs.Joined.{free, number_a, number_b, joined_counts, joined}
use Rattle.wiring.specs.Parts.{site_in}
use Rattle.wiring.proofs.Stands.{Wired, Stands}
use Rattle.wiring.proofs.Numbers.{Stays, input-a, free-b, free-inside}
use Rattle.wiring.proofs.Written.{WrittenIn, written_stands}
use Rattle.wiring.proofs.Sites.{node_in, graph-in}

-- BY GRAPHS: the card ws with the counts c is a part of the card js with the counts C, as its outputs stand there, each a graph of js. This is all
-- that the laws of values ask. (`WrittenIn` is the same by words, and tells it.)
pub record PartOf (ws js : List ℕ) (c C : Counts) (number : ℕ → ℕ) (before : ℕ) : Type 0 where
  pub own : Shape ws c
  pub whole : Shape js C
  pub stands : (g : ℕ) → c.inputs ≤ g → g < c.graphs → Stands ws js number before g
  pub inside : (g : ℕ) → c.inputs ≤ g → g < c.graphs → number g < C.graphs

-- a card that is written in a card with the counts C is a part of it, where its outputs are within them
pub written-part : {ws js : List ℕ} {c C : Counts} {number : ℕ → ℕ} {start before : ℕ} → WrittenIn ws js c number start before
    → Shape js C → start + (c.graphs - c.inputs) ≤ C.graphs → PartOf ws js c C number before
written-part {ws} {js} {c} W shape l = record {
  own = (check-accepts ws 0 c W.accepted).shape;
  whole = shape;
  stands = written_stands W;
  inside = λ g i h. omega (arith, W.numbered g i);
}

-- The part has a setting s' and a vector x' that give its inputs the values that they have in the whole under s and x, and s' is what s makes of its
-- nodes and outputs there.
pub record Alike (ws js : List ℕ) (c C : Counts) (number : ℕ → ℕ) (before : ℕ) (s s' : Setting) (x x' : List ℕ) : Type 0 where
  pub input : (g : ℕ) → g < c.inputs → value js C s x (number g) ≡ s' (c.nodes + g) (bit x' g)
  pub node : (p v : ℕ) → p < c.nodes → s' p v ≡ s (site_in C.nodes before c.nodes number p) v
  pub output : (g v : ℕ) → c.inputs ≤ g → g < c.graphs → s' (c.nodes + g) v ≡ s (site_in C.nodes before c.nodes number (c.nodes + g)) v

-- THE LAW OF A PART
module _ {ws js : List ℕ} {c C : Counts} {number : ℕ → ℕ} {before : ℕ} (part : PartOf ws js c C number before)
    {s s' : Setting} {x x' : List ℕ} (alike : Alike ws js c C number before s s' x x') where
  abbrev there : ℕ → ℕ
  there g = value js C s x (number g)

  -- a node takes the exit there that it takes in the part
  taken-there : (g k : ℕ) → c.inputs ≤ g → g < c.graphs → k < size ws g → taken ws s' there g k ≡ taken js s (value js C s x) (number g) k
  taken-there g k i l h =
      let t = part.stands g i l in
      let d = decides ws g k (there (reads ws g k)) in
      let e : site_in C.nodes before c.nodes number (first ws g + k) ≡ first js (number g) + k =
      node_in C.nodes before c.nodes number (first ws g + k) (node-below part.own g k l h) ∙ omega (arith, t.start) in
      rw (t.read k h, t.decide k (there (reads ws g k)) h, t.exit k (s (first js (number g) + k) d) h)
      (ap (exits ws g k) (alike.node (first ws g + k) d (node-below part.own g k l h) ∙ ap (λ (p : ℕ). s p d) e))

  -- and so an output gives there what it gives in the part
  gives-there : (g : ℕ) → c.inputs ≤ g → g < c.graphs → there g ≡ graph ws c.nodes s' x' there g
  unfolding graph
  gives-there g i l =
      let t = part.stands g i l in
      let r = walk (taken ws s' there g) (size ws g) 0 in
      let same = same_graph (taken ws s' there g) (taken js s (value js C s x) (number g)) (size ws g) (taken-later part.own s' x' there g l)
      (λ k h. taken-there g k i l h) in
      value-solves part.whole s x (number g) (part.inside g i l)
      ∙ (rw (t.output, t.many, (part.own.output g l i).0)
      (ap (s (C.nodes + number g)) (sym same) ∙ ap (λ (p : ℕ). s p r) (sym (graph-in C.nodes before c.nodes number g))
      ∙ sym (alike.output g r i l)))

  there-solves : Solves c.graphs (graph ws c.nodes s' x') there
  unfolding graph
  there-solves g l = elim (dec_lt g c.inputs) [
    | yes i ↦ rw (part.own.input g i).0 (alike.input g i)
    | no n ↦ gives-there g (omega arith) l
  ]

  pub part-values : (g : ℕ) → g < c.graphs → value js C s x (number g) ≡ value ws c s' x' g
  part-values = value-unique part.own s' x' there there-solves

-- a graph of a part is observable there as it is in the part, where its inputs are inputs
pub part-observable : {ws js : List ℕ} {c C : Counts} {number : ℕ → ℕ} {before : ℕ} → PartOf ws js c C number before
    → (g : ℕ) → g < c.graphs → (g < c.inputs → is_input js (number g) ≡ true) → observable js (number g) ≡ observable ws g
part-observable {ws} {js} {c} {C} {number} part g l input = elim (dec_lt g c.inputs) [
  | yes i ↦ input-hidden js (number g) (input i) ∙ sym (input-hidden ws g (part.own.input g i).0)
  | no n ↦ (part.stands g (omega arith) l).seen
]

-- what is known of two cards that are wired together: of the wires, of the joined card's inputs, and that both are parts of it
pub record Joins (a b : List ℕ) (A B : Counts) (wires : List ℕ) : Type 0 where
  pub wired : Wired A B wires
  pub input : (g : ℕ) → g < A.inputs + free A B wires → is_input (joined A B wires a b) g ≡ true
  pub part-a : PartOf a (joined A B wires a b) A (joined_counts A B wires) (number_a A B wires) 0
  pub part-b : PartOf b (joined A B wires a b) B (joined_counts A B wires) (number_b A B wires) A.nodes

-- the graphs of A and B are observable there as they are in them, but for B's wired inputs
module _ {a b : List ℕ} {A B : Counts} {wires : List ℕ} (joins : Joins a b A B wires) where
  pub joined-observable-a : (g : ℕ) → g < A.graphs → observable (joined A B wires a b) (number_a A B wires g) ≡ observable a g
  joined-observable-a g l =
      part-observable joins.part-a g l (λ i. joins.input (number_a A B wires g) (omega (arith, input-a A B wires g i)))

  pub joined-observable-b : (h : ℕ) → h < B.graphs → Stays B.inputs wires h
      → observable (joined A B wires a b) (number_b A B wires h) ≡ observable b h
  joined-observable-b h l stays =
      part-observable joins.part-b h l (λ i. joins.input (number_b A B wires h)
      (omega (arith, free-b A B wires h i (stays i), free-inside A B wires h i (stays i))))
