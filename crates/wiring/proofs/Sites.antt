-- The sites of the joined card at which the sites of its parts are, and which of B's are wired inputs. Assumes nothing.
use Prim.Native.Nat.{ℕ, ◌+◌, ◌-◌, ◌<◌, ◌≤◌}
use mathlib.Core.Path.{◌≡◌, ap, ◌∙◌}
use mathlib.Core.List.{List}
use mathlib.Core.Bool.{false, not}
use native.Mathlib.Omega.{arith}
use native.Mathlib.Decide.{dec_lt}
use borrow.Author.Tests.{lt-ltb, le-ltb, le-leb, lt-leb, not-false}
use Rattle.answers.specs.declared.Counts.{Counts}
use Rattle.wiring.specs.Joined.{is_free, number_a, number_b, joined_counts}
use Rattle.wiring.specs.Parts.{site_in, site_a, site_b, is_wired}
use Rattle.wiring.proofs.Stands.{Wired}
use Rattle.wiring.proofs.Numbers.{four, Stays, one-a, one_b, never-one, inside-a, inside-b}

-- the site of a node, and of a graph, of a part with n nodes
module _ (N before n : ℕ) (number : ℕ → ℕ) where
  pub node_in : (p : ℕ) → p < n → site_in N before n number p ≡ before + p
  node_in p h = rw (lt-ltb p n h)

  pub beyond-in : (p : ℕ) → n ≤ p → site_in N before n number p ≡ N + number (p - n)
  beyond-in p h = rw (le-ltb p n h)

  pub graph-in : (g : ℕ) → site_in N before n number (n + g) ≡ N + number g
  graph-in g = let e : n + g - n ≡ g = omega arith in beyond-in (n + g) (omega arith) ∙ ap (λ (h : ℕ). N + number h) e

  pub site-inside : (G : ℕ) → before + n ≤ N → (p : ℕ) → (n ≤ p → number (p - n) < G) → site_in N before n number p < N + G
  site-inside G l p h = elim (dec_lt p n) [
    | yes i ↦ omega (arith, node_in p i)
    | no j ↦ let i : n ≤ p = omega arith in omega (arith, beyond-in p i, h i)
  ]

-- one site of two parts: it is a node of both, or a graph of both
module _ (N b n b' n' : ℕ) (number number' : ℕ → ℕ) (l : b + n ≤ N) (l' : b' + n' ≤ N) where
  pub one-site-in : {P : Type 0} (p q : ℕ) → site_in N b n number p ≡ site_in N b' n' number' q
      → (p < n → q < n' → b + p ≡ b' + q → P) → (n ≤ p → n' ≤ q → number (p - n) ≡ number' (q - n') → P) → P
  one-site-in p q e nodes graphs =
      four p n q n'
      (λ i j. nodes i j (omega (arith, node_in N b n number p i, node_in N b' n' number' q j)))
      (λ i j. absurd (omega (arith, node_in N b n number p i, beyond-in N b' n' number' q j)))
      (λ i j. absurd (omega (arith, beyond-in N b n number p i, node_in N b' n' number' q j)))
      (λ i j. graphs i j (omega (arith, beyond-in N b n number p i, beyond-in N b' n' number' q j)))

module _ (A B : Counts) (wires : List ℕ) where
  -- which sites of B are wired inputs: no node, no output, and an input as its wire says
  pub wired-node : (p : ℕ) → p < B.nodes → is_wired A B wires p ≡ false
  wired-node p h = rw (lt-leb B.nodes p h)

  pub wired-output : (h : ℕ) → B.inputs ≤ h → is_wired A B wires (B.nodes + h) ≡ false
  wired-output h l =
      let e : B.nodes + h - B.nodes ≡ h = omega arith in
      rw (le-leb B.nodes (B.nodes + h) (omega arith), e, le-ltb h B.inputs l)

  pub wired-input : (h : ℕ) → h < B.inputs → is_wired A B wires (B.nodes + h) ≡ not (is_free wires h)
  wired-input h l =
      let e : B.nodes + h - B.nodes ≡ h = omega arith in
      rw (le-leb B.nodes (B.nodes + h) (omega arith), e, lt-ltb h B.inputs l)

  pub stays : (p : ℕ) → is_wired A B wires p ≡ false → B.nodes ≤ p → Stays B.inputs wires (p - B.nodes)
  stays p e l i = not-false (is_free wires (p - B.nodes)) (rw (le-leb B.nodes p l, lt-ltb (p - B.nodes) B.inputs i) at e)

  -- no two sites of A are one, nor two sites of B that are no wired inputs, nor one of A and one such of B
  pub one-site-a : (p q : ℕ) → site_a A B wires p ≡ site_a A B wires q → p ≡ q
  unfolding site_a
  one-site-a p q e =
      one-site-in (A.nodes + B.nodes) 0 A.nodes 0 A.nodes (number_a A B wires) (number_a A B wires)
      (omega arith) (omega arith) p q e
      (λ i j z. omega arith) (λ i j z. omega (arith, one-a A B wires (p - A.nodes) (q - A.nodes) z))

  module _ (few : A.inputs ≤ A.graphs) where
    pub one-site-b : (p q : ℕ) → is_wired A B wires p ≡ false → is_wired A B wires q ≡ false → site_b A B wires p ≡ site_b A B wires q → p ≡ q
    unfolding site_b
    one-site-b p q s t e =
        one-site-in (A.nodes + B.nodes) A.nodes B.nodes A.nodes B.nodes (number_b A B wires) (number_b A B wires)
        (omega arith) (omega arith) p q e
        (λ i j z. omega arith) (λ i j z. omega (arith, one_b A B wires few (p - B.nodes) (q - B.nodes) (stays p s i) (stays q t j) z))

    pub sites-apart : (p q : ℕ) → p < A.nodes + A.graphs → is_wired A B wires q ≡ false → site_a A B wires p ≡ site_b A B wires q → ⊥
    unfolding site_a site_b
    sites-apart p q l t e =
        one-site-in (A.nodes + B.nodes) 0 A.nodes A.nodes B.nodes (number_a A B wires) (number_b A B wires)
        (omega arith) (omega arith) p q e
        (λ i j z. omega arith) (λ i j z. never-one A B wires few (p - A.nodes) (q - B.nodes) (omega arith) (stays q t j) z)

    -- they are sites of the joined card
    pub site-inside-a : (p : ℕ) → p < A.nodes + A.graphs → site_a A B wires p < (joined_counts A B wires).nodes + (joined_counts A B wires).graphs
    unfolding site_a
    site-inside-a p l =
        site-inside (A.nodes + B.nodes) 0 A.nodes (number_a A B wires) (joined_counts A B wires).graphs (omega arith) p
        (λ i. inside-a A B wires few (p - A.nodes) (omega arith))

    pub site-inside-b : Wired A B wires → B.inputs ≤ B.graphs
        → (p : ℕ) → p < B.nodes + B.graphs → site_b A B wires p < (joined_counts A B wires).nodes + (joined_counts A B wires).graphs
    unfolding site_b
    site-inside-b w m p l =
        site-inside (A.nodes + B.nodes) A.nodes B.nodes (number_b A B wires) (joined_counts A B wires).graphs (omega arith) p
        (λ i. inside-b A B wires few w m (p - B.nodes) (omega arith))
