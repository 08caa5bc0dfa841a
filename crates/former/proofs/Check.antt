-- THE CHECK IS THE FORMER ONE on every list of words, a card or not, in which no read that it comes to is inverted. Node by node and graph by graph: what
-- was found sound so far tells that the next read is come to, and so is direct. Assumes nothing.
use Prim.Native.Nat.{ℕ, zero, suc, ◌+◌, ◌*◌, ◌<◌, ◌≤◌}
use mathlib.Core.Path.{◌≡◌, refl, sym, ap, ◌∙◌}
use mathlib.Core.List.{List, [], ◌∷◌}
use mathlib.Core.Bool.{Bool, not}
use native.Mathlib.Omega.{arith}
use native.Mathlib.Decide.{ℕ_discrete, dec_le}
use lib.ListN.{length}
use lib.Dec.{leb, eqb}
use borrow.Author.Tests.{ltb-false, le-leb, lt-leb, eq-eqb, ne_eqb}
use Rattle.lists.specs.Counting.{count}
use Rattle.answers.specs.declared.Rule.TheVariants.{StrayBit, ReadNotBelow, NodeNotNamed}
use Rattle.answers.specs.declared.Counts.{Counts}
use Rattle.std.specs.Prelude.{Ok, Err}
use Rattle.answers.specs.Answers.{Verdict, Answer}
use Rattle.answers.specs.Tests.{test, first_broken, and_then, onward}
use Rattle.answers.proofs.Tests.{all-passed}
use Rattle.word32.specs.Fields.{kind, read_spare, read_inverted, read_graph}
use Rattle.word32.proofs.Fields.{clear-direct}
use Rattle.layout.specs.Layout.{first}
use Rattle.form.specs.Check.{card_length, with_graph, header_verdict, word, due_tests, read_verdict, exits_verdict, node_verdict, nodes_verdict, graph_verdict}
use Rattle.form.specs.Check.{unnamed, rest, long_tests, checked_with}
use Rattle.form.proofs.Sound.{up_to, up_to-next}
use Rattle.former.specs.Check.{former_spare, former_read, former_node, former_nodes, former_graph, former_rest, former_checked_with}
use Rattle.former.specs.Reads.{before, header_at, nodes_of, read_place, NoneInverted}

-- what follows a verdict counts only where it is sound
then_same : (u : Verdict) {v w : Verdict} → (u ≡ Ok tt → v ≡ w) → and_then u v ≡ and_then u w
then_same (Ok tt) e = e refl
then_same (Err r) e = refl

onward-same : (u : Verdict) {a b : Answer} → (u ≡ Ok tt → a ≡ b) → onward u a ≡ onward u b
onward-same (Ok tt) e = e refl
onward-same (Err r) e = refl

-- ONE READ: of a direct one bits 28..16 are zero where bits 28..17 are
spare-direct : (w : ℕ) → read_inverted w ≡ 0 → eqb (read_spare w) 0 ≡ eqb (former_spare w) 0
spare-direct w e = elim (ℕ_discrete (read_spare w) 0) [
  | yes p ↦ eq-eqb (read_spare w) 0 p ∙ sym (eq-eqb (former_spare w) 0 (omega (arith, clear-direct w e p)))
  | no n ↦ ne_eqb (read_spare w) 0 n ∙ sym (ne_eqb (former_spare w) 0 (λ z. n (omega arith)))
]

module _ (ws : List ℕ) where
  -- and a word that is no read is refused before its bits are asked for
  pub read_same : (g p : ℕ) → (kind (word ws p) ≡ 3 → read_inverted (word ws p) ≡ 0) → read_verdict ws g p ≡ former_read ws g p
  unfolding read_verdict former_read
  read_same g p direct = elim (ℕ_discrete (kind (word ws p)) 3) [
    | yes z ↦
        ap (λ (b : Bool). first_broken (due_tests ws p 3 (test (not b) StrayBit p ∷ test (leb g (read_graph (word ws p))) ReadNotBelow p ∷ [])))
        (spare-direct (word ws p) (direct z))
    | no n ↦ rw (ne_eqb (kind (word ws p)) 3 n)
  ]

  -- what the check has counted before graph g is told by the layout
  pub before-is : (g : ℕ) → before ws g ≡ up_to ws g
  unfolding before count first
  before-is zero = refl
  before-is (suc g) = ap (λ (c : Counts). with_graph (word ws (card_length c)) c) (before-is g) ∙ up_to-next ws g

  pub graphs-are : (g : ℕ) → (before ws g).graphs ≡ g
  graphs-are g = ap (λ (c : Counts). c.graphs) (before-is g)

  pub nodes-are : (g : ℕ) → (before ws g).nodes ≡ first ws g
  nodes-are g = ap (λ (c : Counts). c.nodes) (before-is g)

  -- one fact more of the numbers below the next
  more : (P : ℕ → Type 0) (n : ℕ) → ((i : ℕ) → i < n → P i) → P n → (i : ℕ) → i < suc n → P i
  more P n all here i l = elim (ℕ_discrete i n) [ yes z ↦ rw z here | no m ↦ all i (omega arith) ]

  -- THE NODES of graph g, whose header the check has come to and found sound
  module _ (none : NoneInverted ws) (few : length ws ≤ 9216) (g : ℕ) (sound : (h : ℕ) → h < g → graph_verdict ws (before ws h) ≡ Ok tt)
      (there : header_at ws g < length ws) (opens : header_verdict (word ws (header_at ws g)) (before ws g) ≡ Ok tt) where
    abbrev SoundTo : ℕ → Type 0
    SoundTo k = (i : ℕ) → i < k → node_verdict ws g (header_at ws g) (nodes_of ws g) i ≡ Ok tt

    node-same : (k : ℕ) → k < nodes_of ws g → SoundTo k
        → node_verdict ws g (header_at ws g) (nodes_of ws g) k ≡ former_node ws g (header_at ws g) (nodes_of ws g) k
    unfolding node_verdict former_node
    node-same k l nodes =
        ap (λ (v : Verdict). and_then v (exits_verdict ws (nodes_of ws g) k (header_at ws g + 2 + 2 * k)))
        (read_same g (read_place ws g k) (λ z. none g k (record {
          few = few;
          graphs = λ h m. sound h (omega arith);
          there = there;
          header = opens;
          counted = l;
          nodes = λ i m. nodes i (omega arith);
          read = z;
        })))

    nodes-same : (left k : ℕ) → k + left ≡ nodes_of ws g → SoundTo k
        → nodes_verdict ws g (header_at ws g) (nodes_of ws g) left k ≡ former_nodes ws g (header_at ws g) (nodes_of ws g) left k
    unfolding nodes_verdict former_nodes
    nodes-same zero k e nodes = refl
    nodes-same (suc left) k e nodes =
        then_same (node_verdict ws g (header_at ws g) (nodes_of ws g) k) (λ s. nodes-same left (suc k) (omega arith) (more _ k nodes s))
        ∙ ap (λ (v : Verdict). and_then v (former_nodes ws g (header_at ws g) (nodes_of ws g) left (suc k))) (node-same k (omega arith) nodes)

  -- THE GRAPHS, from graph g on, where those before it are sound
  module _ (none : NoneInverted ws) (few : length ws ≤ 9216) where
    graph_same : (g : ℕ) → ((h : ℕ) → h < g → graph_verdict ws (before ws h) ≡ Ok tt) → header_at ws g < length ws
        → graph_verdict ws (before ws g) ≡ former_graph ws (before ws g)
    unfolding graph_verdict former_graph
    graph_same g sound there =
        then_same (header_verdict (word ws (header_at ws g)) (before ws g)) (λ opens.
        ap (λ (v : Verdict). and_then v (first_broken (test (unnamed ws (header_at ws g) (nodes_of ws g)) NodeNotNamed (header_at ws g) ∷ [])))
        (ap (λ (m : ℕ). nodes_verdict ws m (header_at ws g) (nodes_of ws g) (nodes_of ws g) 0) (graphs-are g)
        ∙ nodes-same none few g sound there opens (nodes_of ws g) 0 (omega arith) (λ i l. absurd (omega arith))
        ∙ ap (λ (m : ℕ). former_nodes ws m (header_at ws g) (nodes_of ws g) (nodes_of ws g) 0) (sym (graphs-are g))))

    rest-same : (extra left g : ℕ) → ((h : ℕ) → h < g → graph_verdict ws (before ws h) ≡ Ok tt)
        → rest ws extra left (before ws g) ≡ former_rest ws extra left (before ws g)
    unfolding rest former_rest before
    rest-same extra zero g sound = refl
    rest-same extra (suc left) g sound = elim (dec_le (length ws) (header_at ws g)) [
      | yes l ↦ rw (le-leb (length ws) (header_at ws g) l)
      | no n ↦
          let there : header_at ws g < length ws = omega arith in
          rw (lt-leb (length ws) (header_at ws g) there)
          (onward-same (graph_verdict ws (before ws g)) (λ s. rest-same extra left (suc g) (more _ g sound s))
          ∙ ap (λ (v : Verdict). onward v (former_rest ws extra left (before ws (suc g)))) (graph_same g sound there))
    ]

  -- THE CHECK, whatever bytes follow the words: the same counts, or the same refusal at the same position
  pub check-as-before : (extra : ℕ) → NoneInverted ws → checked_with ws extra ≡ former_checked_with ws extra
  unfolding checked_with former_checked_with before
  check-as-before extra none =
      onward-same (first_broken (long_tests ws)) (λ s.
      rest-same none (ltb-false 9216 (length ws) (all-passed (long_tests ws) s).0) extra 1025 0 (λ h l. absurd (omega arith)))
