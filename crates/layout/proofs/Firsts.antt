-- Where the graphs and nodes of a card stand: each node in one graph only, and all inside the words; and what a node decides. Assumes nothing.
use Prim.Native.Nat.{ℕ, zero, suc, ◌+◌, ◌-◌, ◌*◌, ◌/◌, ◌^◌, ◌<◌, ◌≤◌}
use mathlib.Core.Path.{◌≡◌, refl, sym, ap, ◌∙◌}
use mathlib.Core.List.{List}
use mathlib.Core.Bool.{Bool, true, false}
use native.Mathlib.Omega.{arith}
use native.Mathlib.Nat.{add-zero, add-suc, mod-lt, zero-lt-suc}
use native.Mathlib.Decide.{ℕ_discrete, dec_lt}
use native.Mathlib.Numerals.{add-one}
use lib.ListN.{length, get_or}
use lib.Dec.{eqb}
use borrow.Author.Tests.{eqb-true, ne_eqb}
use Rattle.lists.specs.Counting.{choose}
use Rattle.lists.proofs.Tests.{choose-bit}
use Rattle.word32.specs.Fields.{kind, node_count, read_inverted}
use Rattle.answers.specs.declared.Counts.{Counts}
use Rattle.layout.specs.Layout.{first, header, is_input, observable, size, decided, inverts, decides}
use Rattle.layout.specs.Shape.{Shape}

module _ (ws : List ℕ) where
  pub first_next : (g : ℕ) → first ws (suc g) ≡ first ws g + size ws g
  unfolding first size
  first_next g = refl

  -- the same from the header's word, as a loop over the graphs has it
  pub first-passed : (g n : ℕ) → n ≡ first ws g → n + node_count (get_or ws (g + 2 * n) 0) ≡ first ws (g + 1)
  unfolding first
  first-passed g n e = rw (e, add-one g)

  pub first_more : (g d : ℕ) → first ws g ≤ first ws (g + d)
  first_more g zero = rw add-zero (omega arith)
  first_more g (suc d) = rw (add-suc g d) (omega (arith, first_more g d, first_next (g + d)))

  -- the nodes of a graph stand before those of the next ones
  pub first_above : (g h k : ℕ) → g < h → k < size ws g → first ws g + k < first ws h
  first_above g h k l i =
      let e : h ≡ suc g + (h - suc g) = omega arith in
      rw e (omega (arith, first_next g, first_more (suc g) (h - suc g)))

  pub apart : (g h k i : ℕ) → (h ≡ g → ⊥) → k < size ws g → i < size ws h → first ws g + k ≡ first ws h + i → ⊥
  apart g h k i n p q e = elim (dec_lt g h) [
    | yes l ↦ omega (arith, first_above g h k l p)
    | no m ↦ omega (arith, first_above h g i (omega arith) q)
  ]

  pub one-node : (g h k i : ℕ) → k < size ws g → i < size ws h → first ws g + k ≡ first ws h + i → (h ≡ g) × (i ≡ k)
  one-node g h k i p q e = elim (ℕ_discrete h g) [
    | yes z ↦ (z, omega (arith, ap (first ws) z))
    | no n ↦ absurd (apart g h k i n p q e)
  ]

-- of the graphs that c counts
module _ {ws : List ℕ} {c : Counts} (s : Shape ws c) where
  pub first-few : (g : ℕ) → g ≤ c.graphs → first ws g ≤ c.nodes
  first-few g h =
      let e : g + (c.graphs - g) ≡ c.graphs = omega arith in
      rw (e, s.nodes-in) at (first_more ws g (c.graphs - g))

  pub header-inside : (g : ℕ) → g < c.graphs → g + 2 * first ws g < length ws
  header-inside g h = omega (arith, first-few g (omega arith), s.fits)

  pub node-below : (g k : ℕ) → g < c.graphs → k < size ws g → first ws g + k < c.nodes
  node-below g k l h = rw s.nodes-in at (first_above ws g c.graphs k l h)

-- A DECISION at the read w is the value read where the bit is clear, and one minus that where it is set: of a value that is 0 or 1, 0 where it is the bit
pub decided-same : (w r : ℕ) → r < 2 → r ≡ read_inverted w → 0 ≡ decided w r
unfolding decided
decided-same w r h e = rw (sym e) (go r h)
  where
    go : (r : ℕ) → r < 2 → 0 ≡ choose (eqb r 1) (1 - r) r
    go zero h = refl
    go (suc zero) h = refl
    go (suc (suc r)) h = absurd (omega arith)

-- and else 1
pub decided-other : (w r : ℕ) → r < 2 → (r ≡ read_inverted w → ⊥) → 1 ≡ decided w r
unfolding decided
decided-other w r h n = go r (read_inverted w) h (mod-lt (w / 2 ^ 16) (zero-lt-suc 1)) n
  where
    go : (r b : ℕ) → r < 2 → b < 2 → (r ≡ b → ⊥) → 1 ≡ choose (eqb b 1) (1 - r) r
    go zero zero h l n = absurd (n refl)
    go zero (suc zero) h l n = refl
    go zero (suc (suc b)) h l n = absurd (omega arith)
    go (suc zero) zero h l n = refl
    go (suc zero) (suc zero) h l n = absurd (n refl)
    go (suc zero) (suc (suc b)) h l n = absurd (omega arith)
    go (suc (suc r)) b h l n = absurd (omega arith)

-- the same of a node
module _ (ws : List ℕ) (g k r : ℕ) where
  pub decides-by : decides ws g k r ≡ choose (inverts ws g k) (1 - r) r
  unfolding inverts decides decided
  decides-by = refl

  pub decides-direct : inverts ws g k ≡ false → decides ws g k r ≡ r
  decides-direct e = decides-by ∙ rw e

  pub decides-inverted : inverts ws g k ≡ true → decides ws g k r ≡ 1 - r
  decides-inverted e = decides-by ∙ rw e

-- it is 0 or 1
pub decides-bit : (ws : List ℕ) (g k r : ℕ) → r < 2 → decides ws g k r < 2
decides-bit ws g k r h = rw (decides-by ws g k r) (choose-bit (inverts ws g k) (1 - r) r (omega arith) h)

-- and where the graph that it reads has the other value, it is the other one
pub decides-other : (ws : List ℕ) (g k r : ℕ) → decides ws g k (1 - r) ≡ 1 - decides ws g k r
decides-other ws g k r = rw (decides-by ws g k r, decides-by ws g k (1 - r)) (go (inverts ws g k))
  where
    go : (b : Bool) → choose b (1 - (1 - r)) (1 - r) ≡ 1 - choose b (1 - r) r
    go true = refl
    go false = refl

-- an input is not observable
pub input-hidden : (ws : List ℕ) (g : ℕ) → is_input ws g ≡ true → observable ws g ≡ false
unfolding is_input observable
input-hidden ws g e = let z = eqb-true (kind (header ws g)) 0 e in ne_eqb (kind (header ws g)) 2 (λ q. omega arith)
