-- A sound graph told by its words, both ways. Assumes nothing.
use Prim.Native.Nat.{ℕ, zero, suc, ◌+◌, ◌-◌, ◌*◌, ◌<◌, ◌≤◌}
use mathlib.Core.Path.{◌≡◌, refl, ap}
use mathlib.Core.List.{List, [], ◌∷◌}
use mathlib.Core.Bool.{false, not}
use native.Mathlib.Omega.{arith}
use lib.ListN.{length}
use lib.Dec.{leb}
use borrow.Author.Tests.{ltb-false, eqb-true, eqb-false, le-ltb, lt-leb, ne_eqb, not-false}
use Rattle.lists.proofs.Tests.{agree, some_same}
use Rattle.lists.specs.Counting.{count, some_below}
use Rattle.answers.specs.declared.Rule.TheVariants.{TooManyGraphs, NodeNotNamed}
use Rattle.answers.specs.declared.Counts.{Counts}
use Rattle.std.specs.Prelude.{Ok}
use Rattle.answers.specs.Tests.{Test, test, first_broken}
use Rattle.answers.proofs.Tests.{Passed, then-sound, sound-then, all-passed, passed-sound}
use Rattle.word32.specs.Fields.{kind, header_spare, read_spare, node_count, read_graph}
use Rattle.form.specs.Check.{card_length, word, due_tests, output_tests, header_verdict, read_verdict, exits_verdict, node_verdict, nodes_verdict}
use Rattle.form.specs.Check.{names, unnamed, graph_verdict, checked}
use Rattle.layout.specs.Layout.{first, header, is_input, size}
use Rattle.form.proofs.Verdicts.{header-sound, an-output, Read, read_tests, exits_tests, read_told, exits-told, nodes-sound}
use Rattle.form.proofs.Checked.{check-accepts}
use Rattle.form.proofs.Sound.{up_to, accepted-sound}

-- a word due, a read, and exits that stand in another card already
pub due-sound : (ws : List ℕ) (p k : ℕ) (ts : List Test) → p < length ws → kind (word ws p) ≡ k → Passed ts → first_broken (due_tests ws p k ts) ≡ Ok tt
due-sound ws p k ts l e t = passed-sound (due_tests ws p k ts) (lt-leb (length ws) p l, (agree (kind (word ws p)) k e, t))

read-sound : (ws : List ℕ) (g p : ℕ) → Read ws g p → read_verdict ws g p ≡ Ok tt
unfolding read_verdict
read-sound ws g p r =
    due-sound ws p 3 (read_tests g (word ws p) p) r.there r.due
    (agree (read_spare (word ws p)) 0 r.clean, (lt-leb g (read_graph (word ws p)) r.lower, tt))

pub exits-same : (ws js : List ℕ) (n k p q : ℕ) → exits_verdict ws n k p ≡ Ok tt → q < length js → word js q ≡ word ws p
    → exits_verdict js n k q ≡ Ok tt
unfolding exits_verdict
exits-same ws js n k p q e l z =
    let (i, (d, t)) = exits-told ws n k p e in
    due-sound js q 4 (exits_tests n k (word js q) q) l (rw z d) (rw z t)

-- nodes are sound where each one is
nodes-all : (ws : List ℕ) (g p n left k : ℕ)
    → ((i : ℕ) → k ≤ i → i < k + left → (read_verdict ws g (p + 1 + 2 * i) ≡ Ok tt) × (exits_verdict ws n i (p + 2 + 2 * i) ≡ Ok tt))
    → nodes_verdict ws g p n left k ≡ Ok tt
unfolding nodes_verdict node_verdict
nodes-all ws g p n zero k h = refl
nodes-all ws g p n (suc left) k h =
    let (r, x) = h k (omega arith) (omega arith) in
    sound-then (sound-then r x) (nodes-all ws g p n left (suc k) (λ i l m. h i (omega arith) (omega arith)))

-- where the words of local node k of graph g stand
module _ (ws : List ℕ) (g k : ℕ) where
  abbrev pub read_place : ℕ
  read_place = g + 1 + 2 * (first ws g + k)

  abbrev pub exits_at : ℕ
  exits_at = g + 2 + 2 * (first ws g + k)

  read_at : card_length (up_to ws g) + 1 + 2 * k ≡ read_place
  read_at = omega arith

  exits-at : card_length (up_to ws g) + 2 + 2 * k ≡ exits_at
  exits-at = omega arith

-- whether each of n nodes is named goes by the exits
pub unnamed-same : (ws js : List ℕ) (g h n : ℕ) → ((k : ℕ) → k < n → word js (exits_at js h k) ≡ word ws (exits_at ws g k))
    → unnamed js (card_length (up_to js h)) n ≡ unnamed ws (card_length (up_to ws g)) n
unfolding unnamed
unnamed-same ws js g h n e =
    some_same _ _ (n - 1) (λ i l. ap not (some_same (names js (card_length (up_to js h)) (suc i)) (names ws (card_length (up_to ws g)) (suc i)) n (λ k m.
    rw (exits-at js h k, exits-at ws g k, e k m))))

-- AN OUTPUT, graph g of a card: its header, its nodes at their places, and that each is named
pub record Output (ws : List ℕ) (g : ℕ) : Type 0 where
  pub few : g < 1024
  pub kinds : (0 < kind (header ws g)) × (kind (header ws g) < 3)
  pub clean : header_spare (header ws g) ≡ 0
  pub some : 0 < size ws g
  pub total : first ws g + size ws g ≤ 4096
  pub reading : (k : ℕ) → k < size ws g → Read ws g (read_place ws g k)
  pub leaving : (k : ℕ) → k < size ws g → exits_verdict ws (size ws g) k (exits_at ws g k) ≡ Ok tt
  pub named : unnamed ws (card_length (up_to ws g)) (size ws g) ≡ false

module _ (ws : List ℕ) (g : ℕ) where
  abbrev c : Counts
  c = up_to ws g

  abbrev name_tests : List Test
  name_tests = test (unnamed ws (card_length c) (size ws g)) NodeNotNamed (card_length c) ∷ []

  pub output-told : is_input ws g ≡ false → graph_verdict ws c ≡ Ok tt → Output ws g
  unfolding graph_verdict is_input size
  output-told z e =
      let (h, e') = then-sound (header_verdict (header ws g) c) _ e in
      let (n, u) = then-sound (nodes_verdict ws g (card_length c) (size ws g) (size ws g) 0) (first_broken name_tests) e' in
      let t = all-passed (output_tests (header ws g) c) (rw z at (header-sound (header ws g) c h).1) in
      let node = nodes-sound ws g (card_length c) (size ws g) (size ws g) 0 n in
      record {
        few = (header-sound (header ws g) c h).0;
        kinds = omega (arith, eqb-false (kind (header ws g)) 0 z, ltb-false 2 (kind (header ws g)) t.0);
        clean = eqb-true (header_spare (header ws g)) 0 (not-false _ t.1.0);
        some = (an-output (header ws g) c h z).0;
        total = (an-output (header ws g) c h z).1;
        reading = λ k l. read_told ws g (read_place ws g k) (rw (read_at ws g k) at (node k (omega arith) (omega arith)).0);
        leaving = λ k l. rw (exits-at ws g k) at (node k (omega arith) (omega arith)).1;
        named = (all-passed name_tests u).0;
      }

  pub output-sound : Output ws g → graph_verdict ws c ≡ Ok tt
  unfolding graph_verdict header_verdict size
  output-sound o =
      sound-then (sound-then (passed-sound (test (leb 1024 g) TooManyGraphs (card_length c) ∷ []) (lt-leb 1024 g o.few, tt))
      (rw (ne_eqb (kind (header ws g)) 0 (λ z. omega (arith, o.kinds)))
      (passed-sound (output_tests (header ws g) c) (
        le-ltb 2 (kind (header ws g)) (omega (arith, o.kinds)),
        (
          agree (header_spare (header ws g)) 0 o.clean,
          (rw (ne_eqb (node_count (header ws g)) 0 (λ z. omega (arith, o.some)), le-ltb 4096 (first ws g + node_count (header ws g)) o.total), tt),
        ),
      ))))
      (sound-then (nodes-all ws g (card_length c) (size ws g) (size ws g) 0 (λ k l m.
      (rw (read_at ws g k) (read-sound ws g (read_place ws g k) (o.reading k (omega arith))), rw (exits-at ws g k) (o.leaving k (omega arith)))))
      (passed-sound name_tests (o.named, tt)))

  -- an input, whose word is 0, comes after inputs alone
  pub input-sound : g < 1024 → header ws g ≡ 0 → count (is_input ws) g ≡ g → graph_verdict ws c ≡ Ok tt
  unfolding graph_verdict header_verdict nodes_verdict unnamed some_below
  input-sound l z n = rw (z, lt-leb 1024 g l, n, le-ltb g g (omega arith))

-- the outputs of an accepted card
pub accepted-output : {ws : List ℕ} {c : Counts} → checked ws ≡ Ok c → (g : ℕ) → c.inputs ≤ g → g < c.graphs → Output ws g
accepted-output {ws} {c} e g m l = output-told ws g ((check-accepts ws 0 c e).shape.output g l m).0 ((accepted-sound ws e).1 g l)
