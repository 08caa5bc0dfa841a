-- Both cards are written in the joined card: inputs come first, then A's outputs, then B's. Assumes nothing.
use Prim.Native.Nat.{ℕ, zero, suc, ◌+◌, ◌-◌, ◌*◌, ◌<◌, ◌≤◌}
use mathlib.Core.Path.{◌≡◌, refl, ◌∙◌}
use mathlib.Core.List.{List}
use mathlib.Core.Bool.{true}
use native.Mathlib.Omega.{arith}
use native.Mathlib.Nat.{zero-add}
use Rattle.answers.specs.declared.Counts.{Counts}
use Rattle.std.specs.Prelude.{Ok}
use Rattle.layout.specs.Layout.{first, header, is_input, size}
use Rattle.layout.specs.Shape.{Accepts}
use Rattle.form.specs.Check.{checked}
use Rattle.form.proofs.Checked.{check-accepts}
use Rattle.wiring.specs.Joined.{free, number_a, number_b, joined}
use Rattle.wiring.proofs.Stands.{Wired}
use Rattle.wiring.proofs.Numbers.{output-a, output-b, lower-a, lower-b}
use Rattle.wiring.proofs.Words.{joined-long, word-input, word-a, word-b}
use Rattle.wiring.proofs.Written.{WrittenIn, written-ends}

module _ (a b : List ℕ) {A B : Counts} (wires : List ℕ) (ea : checked a ≡ Ok A) (eb : checked b ≡ Ok B) (w : Wired A B wires) where
  abbrev js : List ℕ
  js = joined A B wires a b

  abbrev x : Accepts a A
  x = check-accepts a 0 A ea

  abbrev y : Accepts b B
  y = check-accepts b 0 B eb

  -- an input's word is 0
  pub first-input : (g : ℕ) → g ≤ A.inputs + free A B wires → first js g ≡ 0
  unfolding first
  first-input zero l = refl
  first-input (suc g) l =
      let z : g + 2 * 0 ≡ g = omega arith in
      rw (first-input g (omega arith), z, word-input x y wires g l)

  pub input-header : (g : ℕ) → g < A.inputs + free A B wires → header js g ≡ 0
  input-header g l =
      let z : g + 2 * first js g ≡ g = omega (arith, first-input g (omega arith)) in
      rw z (word-input x y wires g l)

  pub joined-input : (g : ℕ) → g < A.inputs + free A B wires → (is_input js g ≡ true) × (size js g ≡ 0)
  unfolding is_input size
  joined-input g l = rw (input-header g l) (refl, refl)

  -- the cards' outputs
  pub written-a : WrittenIn a js A (number_a A B wires) (A.inputs + free A B wires) 0
  written-a = record {
    accepted = ea;
    numbered = output-a A B wires;
    lower = lower-a A B wires;
    few-graphs = omega (arith, w.few-graphs, x.shape.inputs_in);
    few-nodes = omega (arith, w.few-nodes);
    inside = omega (arith, joined-long x y wires, x.long, x.shape.inputs_in);
    words = λ i l.
        let z : A.inputs + free A B wires + 2 * 0 + i ≡ A.inputs + free A B wires + i = omega arith in
        rw z (word-a x y wires i l);
    begins = first-input (A.inputs + free A B wires) (omega arith);
  }

  pub written-b : WrittenIn b js B (number_b A B wires) (A.graphs + free A B wires) A.nodes
  written-b = record {
    accepted = eb;
    numbered = output-b A B wires;
    lower = lower-b A B wires x.shape.inputs_in w;
    few-graphs = w.few-graphs;
    few-nodes = w.few-nodes;
    inside = omega (arith, joined-long x y wires, y.long, y.shape.inputs_in);
    words = λ i l. word-b x y wires i;
    begins =
        let z : A.inputs + free A B wires + (A.graphs - A.inputs) ≡ A.graphs + free A B wires = omega (arith, x.shape.inputs_in) in
        rw z at (written-ends written-a) ∙ zero-add A.nodes;
  }
