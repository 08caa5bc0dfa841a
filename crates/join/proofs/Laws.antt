-- The tests of the wires where bytes may be left over after them, and what they say of two accepted cards. Assumes nothing.
use Prim.Native.Nat.{ℕ, ◌<◌, ◌≤◌, min}
use mathlib.Core.Path.{◌≡◌, sym, ◌∙◌}
use mathlib.Core.List.{List}
use native.Mathlib.Omega.{arith}
use native.Mathlib.Decide.{dec_lt}
use lib.ListN.{length}
use borrow.Author.Tests.{lt-ltb, le-ltb}
use Rattle.answers.specs.declared.Counts.{Counts}
use Rattle.answers.specs.declared.Rule.TheVariants.{WireForm}
use Rattle.std.specs.Prelude.{Ok, Err}
use Rattle.answers.specs.Answers.{Verdict, refused}
use Rattle.answers.specs.Tests.{first_broken}
use Rattle.answers.specs.Calls.{Lent}
use Rattle.answers.proofs.Tests.{all-passed, passed-sound}
use Rattle.layout.specs.Shape.{Accepts}
use Rattle.form.specs.Check.{card_length}
use Rattle.wiring.specs.Joined.{joined_counts, joined, join_tests}
use Rattle.wiring.proofs.Stands.{Wired}
use Rattle.wiring.proofs.Words.{joined-long}
use Rattle.wiring.proofs.Accepted.{tests-wired}
use Rattle.joinwords.specs.Numbers.{WithinLimits, LowWires}
use Rattle.joinwords.proofs.Laws.{wires-number}
use Rattle.join.specs.Calls.{wire_tests}

-- bytes left over after the wires, or none
module _ (A B : Counts) (wires : Lent) (n room : ℕ) where
  pub wires-odd : 0 < wires.extra → Err (refused WireForm 0) ≡ first_broken (wire_tests A B wires n room)
  wires-odd h = rw (lt-ltb _ _ h)

  pub wires-whole : wires.extra ≤ 0 → first_broken (join_tests A B wires.words n room) ≡ first_broken (wire_tests A B wires n room)
  wires-whole h = rw (le-ltb _ _ h)

  -- another number of wire words is told as a leftover is
  pub wires-other : (length wires.words ≡ B.inputs → ⊥) → Err (refused WireForm 0) ≡ first_broken (wire_tests A B wires n room)
  wires-other h = elim (dec_lt 0 wires.extra) [
    | yes l ↦ wires-odd l
    | no m ↦ wires-number A B wires.words n room h ∙ wires-whole (omega arith)
  ]

  pub wires-sound : first_broken (wire_tests A B wires n room) ≡ Ok tt → first_broken (join_tests A B wires.words n room) ≡ Ok tt
  wires-sound e = passed-sound (join_tests A B wires.words n room) (all-passed (wire_tests A B wires n room) e).1

-- two accepted cards, and wires that pass
pub both-within-limits : {a b : List ℕ} {A B : Counts} → Accepts a A → Accepts b B → WithinLimits A B
both-within-limits x y = record {
  graphs-a = x.shape.few-graphs;
  nodes-a = x.shape.few-nodes;
  inputs-b = y.shape.inputs_in;
  graphs-b = y.shape.few-graphs;
  nodes-b = y.shape.few-nodes;
}

wires-low : {A B : Counts} {wires : List ℕ} → WithinLimits A B → Wired A B wires → LowWires wires
wires-low s w = record {
  few = omega (arith, w.long, s.inputs-b, s.graphs-b);
  low = λ i h e. omega (arith, w.named i (omega (arith, w.long)) e, s.graphs-a);
}

-- the tests of two accepted cards, which answer v, go by the number of words that the counts tell
module _ {a b : List ℕ} {A B : Counts} (wires : Lent) (room : ℕ) {v : Verdict} (x : Accepts a A) (y : Accepts b B)
    (e : v ≡ first_broken (wire_tests A B wires (card_length (joined_counts A B wires.words)) room)) where
  pub tests-told : {u : Verdict} → v ≡ u → first_broken (wire_tests A B wires (length (joined A B wires.words a b)) room) ≡ u
  tests-told q = rw (joined-long x y wires.words, ← e) q

  -- where they pass, the words fit the room, and so a buffer that has this room or that of any card
  module _ (q : v ≡ Ok tt) where
    passed : Wired A B wires.words × (card_length (joined_counts A B wires.words) ≤ room)
    passed = tests-wired A B wires.words _ room (wires-sound A B wires _ room (sym e ∙ q))

    pub words-fit : length (joined A B wires.words a b) ≤ room
    words-fit = rw (joined-long x y wires.words) passed.1

    pub words-ask : {n : ℕ} → min room 9216 ≤ n → LowWires wires.words × (length wires.words ≡ B.inputs) × (card_length (joined_counts A B wires.words) ≤ n)
    words-ask h = (
      wires-low (both-within-limits x y) passed.0,
      passed.0.long,
      omega (arith, passed.0.few-graphs, passed.0.few-nodes, passed.1),
    )
