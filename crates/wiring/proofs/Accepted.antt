-- THE JOINED CARD IS ACCEPTED, with the counts that its definition says; and what the tests of a joining tell. Assumes nothing.
use Prim.Native.Nat.{ℕ, ◌+◌, ◌-◌, ◌<◌, ◌≤◌}
use mathlib.Core.Path.{◌≡◌, sym, ap, ◌∙◌}
use mathlib.Core.List.{List}
use mathlib.Core.Bool.{Bool, false}
use native.Mathlib.Omega.{arith}
use native.Mathlib.Decide.{dec_lt}
use lib.ListN.{length, get_or}
use borrow.Author.Tests.{ltb-false, leb-false, eqb-true, not-false}
use Rattle.lists.specs.Counting.{count}
use Rattle.lists.proofs.Tests.{or-false}
use Rattle.lists.proofs.Counting.{count-shifted, count-all, count_none, least-none}
use Rattle.answers.specs.declared.Counts.{Counts}
use Rattle.std.specs.Prelude.{Ok}
use Rattle.answers.specs.Tests.{first_broken}
use Rattle.answers.proofs.Tests.{all-passed}
use Rattle.layout.specs.Layout.{first, is_input, observable}
use Rattle.layout.specs.Shape.{Accepts}
use Rattle.layout.proofs.Firsts.{input-hidden}
use Rattle.form.specs.Check.{graph_verdict, checked}
use Rattle.form.proofs.Checked.{check-accepts}
use Rattle.form.proofs.Sound.{up_to, accepted-sound, sound-accepted}
use Rattle.form.proofs.Graphs.{Output, output-sound, input-sound}
use Rattle.wiring.specs.Joined.{is_free, wrong_wire, free, joined_counts, joined, join_tests}
use Rattle.wiring.proofs.Stands.{Wired}
use Rattle.wiring.proofs.Words.{joined-long}
use Rattle.wiring.proofs.Written.{WrittenIn, numbered-on, written-ends, written_stands, written-output}
use Rattle.wiring.proofs.BothWritten.{input-header, joined-input, written-a, written-b}

-- Of a card that is written in another: its graphs are sound there, and count there as they did.
module _ {ws js : List ℕ} {c : Counts} {number : ℕ → ℕ} {start before : ℕ} (W : WrittenIn ws js c number start before) where
  abbrev accepts : Accepts ws c
  accepts = check-accepts ws 0 c W.accepted

  abbrev many : ℕ
  many = c.graphs - c.inputs

  written-sound : (g : ℕ) → start ≤ g → g < start + many → graph_verdict js (up_to js g) ≡ Ok tt
  written-sound g m l =
      let z : start + (g - start) ≡ g = omega arith in
      let o : Output js g = rw (numbered-on W (g - start), z) at (written-output W (c.inputs + (g - start)) (omega arith) (omega arith)) in
      output-sound js g o

  written-counted : (p : List ℕ → ℕ → Bool) → ((g : ℕ) → c.inputs ≤ g → g < c.graphs → p js (number g) ≡ p ws g)
      → count (p js) (start + many) + count (p ws) c.inputs ≡ count (p js) start + count (p ws) c.graphs
  written-counted p h =
      let e : c.inputs + many ≡ c.graphs = omega (arith, accepts.shape.inputs_in) in
      rw e at (count-shifted (p js) (p ws) start c.inputs many (λ i l. rw (numbered-on W i) at (h (c.inputs + i) (omega arith) (omega arith))))

  written-inputs : count (is_input js) (start + many) ≡ count (is_input js) start
  written-inputs =
      let e = written-counted is_input (λ g m l. (written_stands W g m l).output ∙ sym (accepts.shape.output g l m).0) in
      let all = count-all (is_input ws) c.inputs (λ g l. (accepts.shape.input g l).0) in
      omega (arith, ap (λ (d : Counts). d.inputs) (accepted-sound ws W.accepted).0)

  written-observed : count (observable js) (start + many) ≡ count (observable js) start + c.observable
  written-observed =
      let e = written-counted observable (λ g m l. (written_stands W g m l).seen) in
      let none = count_none (observable ws) c.inputs (λ g l. input-hidden ws g (accepts.shape.input g l).0) in
      omega (arith, accepts.shape.seen)

module _ (a b : List ℕ) {A B : Counts} (wires : List ℕ) (ea : checked a ≡ Ok A) (eb : checked b ≡ Ok B) (w : Wired A B wires) where
  abbrev js : List ℕ
  js = joined A B wires a b

  abbrev x : Accepts a A
  x = check-accepts a 0 A ea

  abbrev y : Accepts b B
  y = check-accepts b 0 B eb

  abbrev n : ℕ
  n = A.inputs + free A B wires

  abbrev G : ℕ
  G = (joined_counts A B wires).graphs

  -- after A's outputs come B's
  outputs-end : n + (A.graphs - A.inputs) ≡ A.graphs + free A B wires
  outputs-end = omega (arith, x.shape.inputs_in)

  all-inputs : (g : ℕ) → g ≤ n → count (is_input js) g ≡ g
  all-inputs g l = count-all (is_input js) g (λ k m. (joined-input a b wires ea eb w k (omega arith)).0)

  all_sound : (g : ℕ) → g < G → graph_verdict js (up_to js g) ≡ Ok tt
  all_sound g l = elim (dec_lt g n) [
    | yes i ↦ input-sound js g (omega (arith, w.few-graphs)) (input-header a b wires ea eb w g i) (all-inputs g (omega arith))
    | no i ↦ elim (dec_lt g (A.graphs + free A B wires)) [
      | yes m ↦ written-sound (written-a a b wires ea eb w) g (omega arith) (omega (arith, outputs-end))
      | no m ↦ written-sound (written-b a b wires ea eb w) g (omega arith) l
    ]
  ]

  -- the counts
  inputs_are : count (is_input js) G ≡ n
  inputs_are =
      written-inputs (written-b a b wires ea eb w) ∙ rw outputs-end at (written-inputs (written-a a b wires ea eb w)) ∙ all-inputs n (omega arith)

  nodes-are : first js G ≡ A.nodes + B.nodes
  nodes-are = written-ends (written-b a b wires ea eb w)

  observable-are : count (observable js) G ≡ A.observable + B.observable
  observable-are =
      let none = count_none (observable js) n (λ g l. input-hidden js g (joined-input a b wires ea eb w g l).0) in
      omega (arith, written-observed (written-b a b wires ea eb w), rw outputs-end at (written-observed (written-a a b wires ea eb w)))

  counts-are : up_to js G ≡ joined_counts A B wires
  counts-are = rw (inputs_are, nodes-are, observable-are)

  pub joined-accepted : checked js ≡ Ok (joined_counts A B wires)
  joined-accepted =
      sound-accepted js G (omega (arith, joined-long x y wires, nodes-are)) (omega (arith, observable-are, x.some-observable)) all_sound
      w.few-graphs (omega (arith, nodes-are, w.few-nodes))
      ∙ ap Ok counts-are

-- THE TESTS of a joining, passed
module _ (A B : Counts) (wires : List ℕ) (n room : ℕ) where
  wire-right : (G i : ℕ) → wrong_wire G wires i ≡ false → is_free wires i ≡ false → get_or wires i 0 < G
  wire-right G i e z = leb-false G (get_or wires i 0) (rw z at e)

  pub tests-wired : first_broken (join_tests A B wires n room) ≡ Ok tt → Wired A B wires × (n ≤ room)
  unfolding join_tests
  tests-wired e =
      let t = all-passed (join_tests A B wires n room) e in
      let long = eqb-true (length wires) B.inputs (not-false _ t.0) in
      let (few, nodes) = or-false _ _ t.1.1.0 in
      let none = least-none (wrong_wire A.graphs wires) (length wires) (ltb-false _ (length wires) t.1.0) in (
        record {
          long = long;
          named = λ i l z. wire-right A.graphs i (none i (rw long l)) z;
          few-graphs = ltb-false _ (joined_counts A B wires).graphs few;
          few-nodes = ltb-false _ (joined_counts A B wires).nodes nodes;
        },
        ltb-false room n t.1.1.1.0,
      )
