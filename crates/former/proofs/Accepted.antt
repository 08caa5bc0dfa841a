-- Of an accepted card no read is inverted exactly where none that the check comes to is; and A CARD THAT WAS ACCEPTED is accepted, with the same counts,
-- and has no inverted read. Assumes nothing.
use Prim.Native.Nat.{ℕ, zero, suc, ◌+◌, ◌-◌, ◌*◌, ◌<◌, ◌≤◌}
use mathlib.Core.Path.{◌≡◌, refl, sym, ap, ◌∙◌}
use mathlib.Core.List.{List, [], ◌∷◌}
use mathlib.Core.Bool.{not}
use native.Mathlib.Omega.{arith}
use native.Mathlib.Decide.{ℕ_discrete, dec_le}
use lib.ListN.{length}
use lib.Dec.{ltb, leb, eqb}
use borrow.Author.Tests.{le-leb, lt-leb, ne_eqb, eqb-true, eqb-false, not-false}
use Rattle.answers.specs.declared.Rule.TheVariants.{StrayBit, ReadNotBelow, WordNotDue, NothingObservable}
use Rattle.answers.specs.declared.Counts.{Counts}
use Rattle.std.specs.Prelude.{Ok}
use Rattle.answers.specs.Tests.{test, first_broken}
use Rattle.answers.proofs.Tests.{then-sound, sound-then, onward-accepts, accepts-onward}
use Rattle.word32.specs.Fields.{read_inverted, node_count, read_graph}
use Rattle.layout.specs.Layout.{first, size, inverts}
use Rattle.layout.proofs.Firsts.{first_more, header-inside}
use Rattle.form.specs.Check.{card_length, header_verdict, word, read_verdict, exits_verdict, node_verdict, nodes_verdict, graph_verdict, rest, long_tests, checked_with}
use Rattle.form.proofs.Verdicts.{due-told, read_told, nodes-sound}
use Rattle.form.proofs.Sound.{accepted-sound}
use Rattle.form.proofs.Checked.{check-accepts, whole-accepted}
use Rattle.value.specs.Direct.{Direct}
use Rattle.former.specs.Check.{former_spare, former_read, former_node, former_nodes, former_graph, former_rest, former_checked_with}
use Rattle.former.specs.Reads.{before, header_at, nodes_of, read_place, NoneInverted}
use Rattle.former.proofs.Check.{read_same, before-is, graphs-are, nodes-are}

module _ (ws : List ℕ) where
  -- the bit of a node's read, and the number of a graph's nodes, where the layout has them
  inverted-is : (g k : ℕ) → inverts ws g k ≡ eqb (read_inverted (word ws (read_place ws g k))) 1
  unfolding inverts
  inverted-is g k =
      let e : g + 1 + 2 * (first ws g + k) ≡ read_place ws g k = omega (arith, graphs-are ws g, nodes-are ws g) in
      ap (λ (p : ℕ). eqb (read_inverted (word ws p)) 1) e

  size_is : (g : ℕ) → size ws g ≡ nodes_of ws g
  unfolding size
  size_is g =
      let e : g + 2 * first ws g ≡ header_at ws g = omega (arith, graphs-are ws g, nodes-are ws g) in
      ap (λ (p : ℕ). node_count (word ws p)) e

  all_direct : (c : Counts) → ((g k : ℕ) → g < c.graphs → k < nodes_of ws g → read_inverted (word ws (read_place ws g k)) ≡ 0) → Direct ws c
  all_direct c clear g k l i =
      inverted-is g k ∙ ne_eqb (read_inverted (word ws (read_place ws g k))) 1 (λ z. omega (arith, clear g k l (rw (size_is g) at i)))

  -- the parts of a sound graph
  graph-parts : (c : Counts) → graph_verdict ws c ≡ Ok tt
      → (header_verdict (word ws (card_length c)) c ≡ Ok tt)
      × (nodes_verdict ws c.graphs (card_length c) (node_count (word ws (card_length c))) (node_count (word ws (card_length c))) 0 ≡ Ok tt)
  unfolding graph_verdict
  graph-parts c e =
      let n = node_count (word ws (card_length c)) in
      let (h, e') = then-sound (header_verdict (word ws (card_length c)) c) _ e in
      (h, (then-sound (nodes_verdict ws c.graphs (card_length c) n n 0) _ e').0)

  node_of : (g p n k : ℕ) → (read_verdict ws (before ws g).graphs (p + 1 + 2 * k) ≡ Ok tt) × (exits_verdict ws n k (p + 2 + 2 * k) ≡ Ok tt)
      → node_verdict ws g p n k ≡ Ok tt
  unfolding node_verdict
  node_of g p n k s = ap (λ (m : ℕ). node_verdict ws m p n k) (sym (graphs-are ws g)) ∙ sound-then s.0 s.1

  -- AN ACCEPTED CARD: the check comes to each of its reads, and to no other
  module _ (extra : ℕ) {c : Counts} (e : checked_with ws extra ≡ Ok c) where
    all_sound : (g : ℕ) → g < c.graphs → graph_verdict ws (before ws g) ≡ Ok tt
    all_sound g l = rw (before-is ws g) ((accepted-sound ws (whole-accepted ws extra c e)).1 g l)

    pub none-direct : NoneInverted ws → Direct ws c
    none-direct none = all_direct c (λ g k l here.
        let a = check-accepts ws extra c e in
        let (opens, nodes) = graph-parts (before ws g) (all_sound g l) in
        let each = nodes-sound ws (before ws g).graphs (header_at ws g) (nodes_of ws g) (nodes_of ws g) 0 nodes in
        none g k (record {
          few = omega (arith, a.long, a.shape.few-graphs, a.shape.few-nodes);
          graphs = λ h m. all_sound h (omega arith);
          there = omega (arith, header-inside a.shape g l, graphs-are ws g, nodes-are ws g);
          header = opens;
          counted = here;
          nodes = λ i m. node_of g (header_at ws g) (nodes_of ws g) i (each i (omega arith) (omega arith));
          read = (read_told ws (before ws g).graphs (read_place ws g k) (each k (omega arith) (omega arith)).0).due;
        }))

    pub direct-none : Direct ws c → NoneInverted ws
    direct-none direct g k t =
        let a = check-accepts ws extra c e in
        elim (dec_le c.graphs g) [
          | yes l ↦
              let z : c.graphs + (g - c.graphs) ≡ g = omega arith in
              let m : first ws c.graphs ≤ first ws g = rw z at (first_more ws c.graphs (g - c.graphs)) in
              absurd (omega (arith, t.there, a.long, a.shape.nodes-in, graphs-are ws g, nodes-are ws g))
          | no n ↦
              let clear = sym (inverted-is g k) ∙ direct g k (omega arith) (rw (size_is g) t.counted) in
              omega (arith, eqb-false (read_inverted (word ws (read_place ws g k))) 1 clear)
        ]

  -- WHAT THE FORMER CHECK FOUND SOUND is sound and direct: a read, the nodes from local node k on, a graph, all graphs from graph g on
  read-sound : (g p : ℕ) → former_read ws g p ≡ Ok tt → (read_verdict ws g p ≡ Ok tt) × (read_inverted (word ws p) ≡ 0)
  unfolding former_read
  read-sound g p e =
      let (l, (z, t)) = due-told ws p 3 (test (not (eqb (former_spare (word ws p)) 0)) StrayBit p ∷ test (leb g (read_graph (word ws p))) ReadNotBelow p ∷ []) e in
      let direct : read_inverted (word ws p) ≡ 0 = omega (arith, eqb-true (former_spare (word ws p)) 0 (not-false _ t.0)) in
      (read_same ws g p (λ d. direct) ∙ e, direct)

  module _ (g p n : ℕ) where
    nodes-direct : (left k : ℕ) → former_nodes ws g p n left k ≡ Ok tt
        → (nodes_verdict ws g p n left k ≡ Ok tt) × ((i : ℕ) → k ≤ i → i < k + left → read_inverted (word ws (p + 1 + 2 * i)) ≡ 0)
    unfolding former_nodes former_node nodes_verdict node_verdict
    nodes-direct zero k e = (refl, λ i l m. absurd (omega arith))
    nodes-direct (suc left) k e =
        let (now, later) = then-sound (former_node ws g p n k) (former_nodes ws g p n left (suc k)) e in
        let (r, x) = then-sound (former_read ws g (p + 1 + 2 * k)) (exits_verdict ws n k (p + 2 + 2 * k)) now in
        let (s, d) = read-sound g (p + 1 + 2 * k) r in
        let (ss, ds) = nodes-direct left (suc k) later in
        (sound-then (sound-then s x) ss, λ i l m. elim (ℕ_discrete i k) [ yes z ↦ rw z d | no o ↦ ds i (omega arith) (omega arith) ])

  graph-direct : (c : Counts) → former_graph ws c ≡ Ok tt
      → (graph_verdict ws c ≡ Ok tt) × ((k : ℕ) → k < node_count (word ws (card_length c)) → read_inverted (word ws (card_length c + 1 + 2 * k)) ≡ 0)
  unfolding former_graph graph_verdict
  graph-direct c e =
      let n = node_count (word ws (card_length c)) in
      let (h, e') = then-sound (header_verdict (word ws (card_length c)) c) _ e in
      let (f, u) = then-sound (former_nodes ws c.graphs (card_length c) n n 0) _ e' in
      let (s, d) = nodes-direct c.graphs (card_length c) n n 0 f in
      (sound-then h (sound-then s u), λ k l. d k (omega arith) (omega arith))

  rest-direct : (extra left g : ℕ) (d : Counts) → former_rest ws extra left (before ws g) ≡ Ok d
      → (rest ws extra left (before ws g) ≡ Ok d)
      × ((h k : ℕ) → g ≤ h → h < d.graphs → k < nodes_of ws h → read_inverted (word ws (read_place ws h k)) ≡ 0)
  unfolding rest former_rest before
  rest-direct extra zero g d e = let z : ◌≡◌ {A = ℕ} 0 1 = cc in absurd (omega arith)
  rest-direct extra (suc left) g d e = elim (dec_le (length ws) (header_at ws g)) [
    | yes l ↦
        let q = rw (le-leb (length ws) (header_at ws g) l) at e in
        let last = test (ltb 0 extra) WordNotDue (length ws) ∷ test (eqb (before ws g).observable 0) NothingObservable (length ws) ∷ [] in
        let (s, a) = onward-accepts (first_broken last) (Ok (before ws g)) d q in
        let same : d ≡ before ws g = cc in
        (rw (le-leb (length ws) (header_at ws g) l) q, λ h k i m. absurd (omega (arith, graphs-are ws g, ap (λ (c : Counts). c.graphs) same)))
    | no n ↦
        let there : header_at ws g < length ws = omega arith in
        let (s, later) = onward-accepts (former_graph ws (before ws g)) _ d (rw (lt-leb (length ws) (header_at ws g) there) at e) in
        let (now, direct) = graph-direct (before ws g) s in
        let (all, ds) = rest-direct extra left (suc g) d later in (
          rw (lt-leb (length ws) (header_at ws g) there) (accepts-onward now all),
          λ h k i m. elim (ℕ_discrete h g) [ yes z ↦ rw z (direct k) | no o ↦ ds h k (omega arith) m ],
        )
  ]

  -- A CARD THAT WAS ACCEPTED is accepted with the same counts, and has no inverted read
  pub accepted-before : (extra : ℕ) {c : Counts} → former_checked_with ws extra ≡ Ok c → (checked_with ws extra ≡ Ok c) × Direct ws c
  unfolding checked_with former_checked_with before
  accepted-before extra {c} e =
      let (s, r) = onward-accepts (first_broken (long_tests ws)) _ c e in
      let (all, direct) = rest-direct extra 1025 0 c r in
      (accepts-onward s all, all_direct c (λ g k l i. direct g k (omega arith) l i))
