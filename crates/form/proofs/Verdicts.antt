-- What a sound verdict tells of its tests. Assumes nothing.
use Prim.Native.Nat.{ℕ, zero, suc, ◌+◌, ◌*◌, ◌<◌, ◌≤◌}
use mathlib.Core.Path.{◌≡◌, refl}
use mathlib.Core.List.{List, [], ◌∷◌}
use mathlib.Core.Bool.{Bool, true, false, not, ◌||◌}
use native.Mathlib.Omega.{arith}
use native.Mathlib.Decide.{ℕ_discrete}
use lib.ListN.{length}
use lib.Dec.{ltb, leb, eqb}
use borrow.Author.Tests.{ltb-false, leb-false, eqb-true, eqb-false, lt-ltb, not-false}
use Rattle.lists.proofs.Tests.{or-false}
use Rattle.answers.proofs.Tests.{Passed, then-sound, all-passed}
use Rattle.word32.specs.Fields.{kind, input_spare, read_spare, exits_spare, node_count, read_graph, exit_of}
use Rattle.answers.specs.declared.Rule.TheVariants.{TooManyGraphs, StrayBit, ReadNotBelow, ExitNotLater}
use Rattle.answers.specs.declared.Counts.{Counts}
use Rattle.std.specs.Prelude.{Ok}
use Rattle.answers.specs.Tests.{Test, test, unless, first_broken}
use Rattle.form.specs.Check.{due_tests, card_length, input_tests, output_tests, header_verdict, misplaced, word, read_verdict, exits_verdict, node_verdict, nodes_verdict}

-- a sound header w: of an input it is all zero, of an output it counts some nodes and not too many
module _ (w : ℕ) (c : Counts) (e : header_verdict w c ≡ Ok tt) where
  pub header-sound : (c.graphs < 1024) × (unless (eqb (kind w) 0) (first_broken (input_tests w (card_length c) c)) (first_broken (output_tests w c)) ≡ Ok tt)
  unfolding header_verdict
  header-sound =
      let few = test (leb 1024 c.graphs) TooManyGraphs (card_length c) ∷ [] in
      let (a, b) = then-sound (first_broken few) _ e in
      (leb-false 1024 c.graphs (all-passed few a).0, b)

  pub an-input : eqb (kind w) 0 ≡ true → (c.graphs ≤ c.inputs) × (node_count w ≡ 0)
  an-input z =
      let t = all-passed (input_tests w (card_length c) c) (rw z at header-sound.1) in
      (ltb-false c.inputs c.graphs t.0, omega (arith, eqb-true (kind w) 0 z, eqb-true (input_spare w) 0 (not-false _ t.1.0)))

  pub an-output : eqb (kind w) 0 ≡ false → (0 < node_count w) × (c.nodes + node_count w ≤ 4096)
  an-output z =
      let t = all-passed (output_tests w c) (rw z at header-sound.1) in
      let (p, q) = or-false (eqb (node_count w) 0) (ltb 4096 (c.nodes + node_count w)) t.1.1.0 in
      (omega (arith, eqb-false (node_count w) 0 p), ltb-false 4096 (c.nodes + node_count w) q)

pub header-few : (w : ℕ) (c : Counts) → c.nodes ≤ 4096 → header_verdict w c ≡ Ok tt → c.nodes + node_count w ≤ 4096
header-few w c h e = go (eqb (kind w) 0) refl
  where
    go : (b : Bool) → eqb (kind w) 0 ≡ b → c.nodes + node_count w ≤ 4096
    go true z = omega (arith, (an-input w c e z).1)
    go false z = (an-output w c e z).1

-- an exit that is not misplaced
later-exit : (n k l : ℕ) → misplaced n k (suc (suc l)) ≡ false → (k < l) × (l < n)
unfolding misplaced
later-exit n k l e =
    let (p, q) = or-false (leb (suc (suc l)) (k + 2)) (leb (n + 2) (suc (suc l))) (rw (lt-ltb 1 (suc (suc l)) (omega arith)) at e) in
    omega (arith, leb-false (suc (suc l)) (k + 2) p, leb-false (n + 2) (suc (suc l)) q)

-- the word at p is a read in graph g
pub record Read (ws : List ℕ) (g p : ℕ) : Type 0 where
  pub there : p < length ws
  pub due : kind (word ws p) ≡ 3
  pub clean : read_spare (word ws p) ≡ 0
  pub lower : read_graph (word ws p) < g

-- the tests of a read w in graph g, and of exits w, that stand at p
abbrev pub read_tests : ℕ → ℕ → ℕ → List Test
read_tests g w p = test (not (eqb (read_spare w) 0)) StrayBit p ∷ test (leb g (read_graph w)) ReadNotBelow p ∷ []

abbrev pub exits_tests : ℕ → ℕ → ℕ → ℕ → List Test
exits_tests n k w p =
    test (not (eqb (exits_spare w) 0)) StrayBit p ∷ test (misplaced n k (exit_of w 0) || misplaced n k (exit_of w 1)) ExitNotLater p ∷ []

-- sound nodes: a word due, a read, both exits, and all nodes from local node k on
module _ (ws : List ℕ) where
  pub due-told : (p k : ℕ) (ts : List Test) → first_broken (due_tests ws p k ts) ≡ Ok tt → (p < length ws) × ((kind (word ws p) ≡ k) × Passed ts)
  due-told p k ts e =
      let t = all-passed (due_tests ws p k ts) e in
      (leb-false (length ws) p t.0, (eqb-true (kind (word ws p)) k (not-false _ t.1.0), t.1.1))

  pub read_told : (g p : ℕ) → read_verdict ws g p ≡ Ok tt → Read ws g p
  unfolding read_verdict
  read_told g p e =
      let (l, (z, t)) = due-told p 3 (read_tests g (word ws p) p) e in
      record {
        there = l;
        due = z;
        clean = eqb-true (read_spare (word ws p)) 0 (not-false _ t.0);
        lower = leb-false g (read_graph (word ws p)) t.1.0;
      }

  pub exits-told : (n k p : ℕ) → exits_verdict ws n k p ≡ Ok tt
      → (p < length ws) × ((kind (word ws p) ≡ 4) × Passed (exits_tests n k (word ws p) p))
  unfolding exits_verdict
  exits-told n k p e = due-told p 4 (exits_tests n k (word ws p) p) e

  pub exits-sound : (n k p : ℕ) → exits_verdict ws n k p ≡ Ok tt
      → (p < length ws) × ((misplaced n k (exit_of (word ws p) 0) ≡ false) × (misplaced n k (exit_of (word ws p) 1) ≡ false))
  exits-sound n k p e =
      let (l, (z, t)) = exits-told n k p e in
      (l, or-false (misplaced n k (exit_of (word ws p) 0)) _ t.1.0)

  pub later-exits : (n k p d l : ℕ) → exits_verdict ws n k p ≡ Ok tt → exit_of (word ws p) d ≡ suc (suc l) → (k < l) × (l < n)
  later-exits n k p zero l e z = later-exit n k l (rw z at (exits-sound n k p e).1.0)
  later-exits n k p (suc d) l e z = later-exit n k l (rw z at (exits-sound n k p e).1.1)

  pub nodes-sound : (g p n left k : ℕ) → nodes_verdict ws g p n left k ≡ Ok tt
      → (i : ℕ) → k ≤ i → i < k + left → (read_verdict ws g (p + 1 + 2 * i) ≡ Ok tt) × (exits_verdict ws n i (p + 2 + 2 * i) ≡ Ok tt)
  unfolding nodes_verdict node_verdict
  nodes-sound g p n zero k e i h l = absurd (omega arith)
  nodes-sound g p n (suc left) k e i h l =
      let (a, b) = then-sound (node_verdict ws g p n k) (nodes_verdict ws g p n left (suc k)) e in
      elim (ℕ_discrete i k) [
        | yes z ↦ rw z (then-sound (read_verdict ws g (p + 1 + 2 * k)) _ a)
        | no z ↦ nodes-sound g p n left (suc k) b i (omega arith) (omega arith)
      ]

  -- an exit names a node of the graph, or none
  pub exits-inside : (n k p d : ℕ) → exits_verdict ws n k p ≡ Ok tt → exit_of (word ws p) d < n + 2
  exits-inside n k p d e = go (exit_of (word ws p) d) refl
    where
      go : (x : ℕ) → exit_of (word ws p) d ≡ x → x < n + 2
      go zero z = omega arith
      go (suc zero) z = omega arith
      go (suc (suc l)) z = omega (arith, later-exits n k p d l e z)
