-- The new numbers of the graphs of two cards that are wired together: what they are, in their order, in range, and no two graphs with one number.
-- Assumes nothing.
use Prim.Native.Nat.{ℕ, ◌+◌, ◌-◌, ◌<◌, ◌≤◌}
use mathlib.Core.Path.{◌≡◌, refl, sym, ◌∙◌}
use mathlib.Core.List.{List}
use mathlib.Core.Bool.{Bool, true, false}
use native.Mathlib.Omega.{arith}
use native.Mathlib.Decide.{dec_lt}
use lib.ListN.{get_or}
use borrow.Author.Tests.{lt-ltb, le-ltb}
use Rattle.lists.proofs.Counting.{count-rises, count-apart}
use Rattle.answers.specs.declared.Counts.{Counts}
use Rattle.wiring.specs.Joined.{is_free, free_below, renumbered, free, number_a, input_b, number_b, joined_counts}
use Rattle.wiring.proofs.Stands.{Wired}

-- two numbers, each below a bound of its own or not
pub four : {P : Type 0} (g m h n : ℕ) → (g < m → h < n → P) → (g < m → n ≤ h → P) → (m ≤ g → h < n → P) → (m ≤ g → n ≤ h → P) → P
four g m h n low left right high = elim (dec_lt g m) [
  | yes i ↦ elim (dec_lt h n) [ yes j ↦ low i j | no j ↦ left i (omega arith) ]
  | no i ↦ elim (dec_lt h n) [ yes j ↦ right (omega arith) j | no j ↦ high (omega arith) (omega arith) ]
]

-- m inputs get their numbers by a rule, and outputs count on from `start`
module _ (m : ℕ) (input : ℕ → ℕ) (start : ℕ) where
  renumbered-input : (g : ℕ) → g < m → renumbered m input start g ≡ input g
  renumbered-input g l = rw (lt-ltb g m l)

  renumbered-output : (g : ℕ) → m ≤ g → renumbered m input start g ≡ start + (g - m)
  renumbered-output g l = rw (le-ltb g m l)

  -- where the inputs' numbers are below `start`, a graph below an output has a lower number than it
  renumbered-lower : ((i : ℕ) → i < m → input i < start)
      → (r g : ℕ) → m ≤ g → r < g → renumbered m input start r < renumbered m input start g
  renumbered-lower low r g o l = elim (dec_lt r m) [
    | yes i ↦ omega (arith, renumbered-input r i, low r i, renumbered-output g o)
    | no n ↦ omega (arith, renumbered-output r (omega arith), renumbered-output g o)
  ]

  -- and two graphs have one number only where the rule gives it twice
  renumbered-one : (g h : ℕ) → (g < m → input g < start) → (h < m → input h < start) → (g < m → h < m → input g ≡ input h → g ≡ h)
      → renumbered m input start g ≡ renumbered m input start h → g ≡ h
  renumbered-one g h low low' one e =
      four g m h m
      (λ i j. one i j (sym (renumbered-input g i) ∙ e ∙ renumbered-input h j))
      (λ i j. omega (arith, renumbered-input g i, low i, renumbered-output h j))
      (λ i j. omega (arith, renumbered-output g i, renumbered-input h j, low' j))
      (λ i j. omega (arith, renumbered-output g i, renumbered-output h j))

-- graph h of B, which has m inputs, is no wired input
abbrev pub Stays : ℕ → List ℕ → ℕ → Type 0
Stays m wires h = h < m → is_free wires h ≡ true

module _ (A B : Counts) (wires : List ℕ) where
  -- A's inputs keep their numbers, and its outputs come after all inputs
  pub input-a : (g : ℕ) → g < A.inputs → number_a A B wires g ≡ g
  unfolding number_a
  input-a = renumbered-input A.inputs (λ i. i) _

  pub output-a : (g : ℕ) → A.inputs ≤ g → number_a A B wires g ≡ A.inputs + free A B wires + (g - A.inputs)
  unfolding number_a
  output-a = renumbered-output A.inputs (λ i. i) _

  -- B's free inputs come after A's, its wired ones are graphs of A, and its outputs come after A's outputs
  input-b : (h : ℕ) → h < B.inputs → number_b A B wires h ≡ input_b A B wires h
  unfolding number_b
  input-b = renumbered-input B.inputs (input_b A B wires) _

  pub free-b : (h : ℕ) → h < B.inputs → is_free wires h ≡ true → number_b A B wires h ≡ A.inputs + free_below wires h
  free-b h l e = input-b h l ∙ rw e

  pub wired-b : (h : ℕ) → h < B.inputs → is_free wires h ≡ false → number_b A B wires h ≡ number_a A B wires (get_or wires h 0)
  wired-b h l e = input-b h l ∙ rw e

  pub output-b : (h : ℕ) → B.inputs ≤ h → number_b A B wires h ≡ A.graphs + free A B wires + (h - B.inputs)
  unfolding number_b
  output-b = renumbered-output B.inputs (input_b A B wires) _

  -- a free input of B is an input of the joined card
  pub free-inside : (h : ℕ) → h < B.inputs → is_free wires h ≡ true → free_below wires h < free A B wires
  free-inside h l e = count-rises (is_free wires) h B.inputs l e

  -- a graph of A below an output has a lower number, and no two have one
  pub lower-a : (r g : ℕ) → A.inputs ≤ g → r < g → number_a A B wires r < number_a A B wires g
  unfolding number_a
  lower-a = renumbered-lower A.inputs (λ i. i) (A.inputs + free A B wires) (λ i l. omega arith)

  pub one-a : (g h : ℕ) → number_a A B wires g ≡ number_a A B wires h → g ≡ h
  unfolding number_a
  one-a g h = renumbered-one A.inputs (λ i. i) (A.inputs + free A B wires) g h (λ i. omega arith) (λ j. omega arith) (λ i j e. e)

  module _ (few : A.inputs ≤ A.graphs) where
    -- the numbers of A's graphs come before those of B's outputs
    before-b : (g : ℕ) → g < A.graphs → number_a A B wires g < A.graphs + free A B wires
    before-b g l = omega (arith, lower-a g A.graphs few l, output-a A.graphs few)

    pub inside-a : (g : ℕ) → g < A.graphs → number_a A B wires g < (joined_counts A B wires).graphs
    inside-a g l = omega (arith, before-b g l)

    -- no two graphs of B that stay have one number, nor one of A and one of B that stays
    free-low : (h : ℕ) → h < B.inputs → is_free wires h ≡ true → input_b A B wires h < A.graphs + free A B wires
    free-low h l e = rw e (omega (arith, free-inside h l e))

    pub one_b : (g h : ℕ) → Stays B.inputs wires g → Stays B.inputs wires h → number_b A B wires g ≡ number_b A B wires h → g ≡ h
    unfolding number_b
    one_b g h s t =
        renumbered-one B.inputs (input_b A B wires) (A.graphs + free A B wires) g h (λ i. free-low g i (s i)) (λ j. free-low h j (t j))
        (λ i j e. count-apart (is_free wires) g h (s i) (t j) (omega (arith, rw (s i, t j) at e)))

    pub never-one : (g h : ℕ) → g < A.graphs → Stays B.inputs wires h → number_a A B wires g ≡ number_b A B wires h → ⊥
    never-one g h l t e =
        four g A.inputs h B.inputs
        (λ i j. omega (arith, input-a g i, free-b h j (t j))) (λ i j. omega (arith, input-a g i, output-b h j))
        (λ i j. omega (arith, output-a g i, free-b h j (t j), free-inside h j (t j))) (λ i j. omega (arith, output-a g i, output-b h j))

    -- a graph of B below an output has a lower number, so all are in range
    module _ (w : Wired A B wires) where
      low-b : (i : ℕ) → i < B.inputs → (b : Bool) → is_free wires i ≡ b → input_b A B wires i < A.graphs + free A B wires
      low-b i l true e = free-low i l e
      low-b i l false e = rw e (before-b (get_or wires i 0) (w.named i l e))

      pub lower-b : (r h : ℕ) → B.inputs ≤ h → r < h → number_b A B wires r < number_b A B wires h
      unfolding number_b
      lower-b = renumbered-lower B.inputs (input_b A B wires) (A.graphs + free A B wires) (λ i l. low-b i l (is_free wires i) refl)

      pub inside-b : B.inputs ≤ B.graphs → (h : ℕ) → h < B.graphs → number_b A B wires h < (joined_counts A B wires).graphs
      inside-b m h l = omega (arith, lower-b h B.graphs m l, output-b B.graphs m)
