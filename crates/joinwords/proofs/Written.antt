-- The joined card as its words are written: the inputs, then A's outputs, then B's. Assumes nothing.
use Prim.Native.Nat.{ℕ, ◌+◌, ◌-◌, ◌<◌, ◌≤◌}
use mathlib.Core.Path.{◌≡◌, sym, ap, ap₂, ◌∙◌}
use mathlib.Core.List.{List, ◌++◌, map, append_assoc}
use native.Mathlib.Omega.{arith}
use lib.ListN.{length, get_or, take, drop, length-append, length-drop, length-map}
use lib.Seq.{take_all, get_or-drop}
use Rattle.lists.specs.Counting.{choose}
use Rattle.lists.specs.Tables.{at, tab, over, always, front}
use Rattle.lists.proofs.Tables.{length-tab, tab-at, tab-same}
use Rattle.lists.proofs.Front.{front-on, length_front, tab-map}
use Rattle.answers.specs.declared.Counts.{Counts}
use Rattle.layout.specs.Shape.{Accepts}
use Rattle.form.specs.Check.{card_length}
use Rattle.wiring.specs.Joined.{is_free, free_below, renumbered, moved, free, number_a, input_b, number_b, joined_counts, joined}
use Rattle.joinwords.specs.Numbers.{Numbered, LowWires, wired_input, output_words, parts_words}
use Rattle.joinwords.proofs.Laws.{renumbered-same, moved-map, wired-low, free-few}

-- the words after the inputs of a card
pub length-outputs : (card inputs : List ℕ) (start : ℕ) → length (output_words card inputs start) ≡ length card - length inputs
length-outputs card inputs start = length-map (drop (length inputs) card) _ ∙ length-drop (length inputs) card

-- those words as a slice lends them, moved one by one
module _ (card : List ℕ) (m : ℕ) where
  abbrev pub later : List ℕ
  later = take (length card - m) (drop m card)

  later-is : later ≡ drop m card
  later-is = take_all (length card - m) (drop m card) (omega (arith, length-drop m card))

  pub length-later : length later ≡ length card - m
  length-later = rw later-is (length-drop m card)

  pub outputs-moved : (f : ℕ → ℕ) → f 0 ≡ 0 → tab (λ i. f (get_or later i 0)) (length later) ≡ map f (drop m card)
  outputs-moved f z =
      rw (later-is, length-drop m card)
      (tab-same (λ i. f (get_or (drop m card) i 0)) (λ i. f (get_or card (m + i) 0)) (length card - m) (λ i l. ap f (get_or-drop m card i 0)) ∙ tab-map f card m z)

-- the inputs' words are at the front of a buffer
pub front-inputs : (n : ℕ) (d : List ℕ) → over n (always 0) d ≡ front (tab (always 0) n) d
front-inputs n d = rw (length-tab (always 0) n)

-- THE JOINED CARD's words are those that are written, where the tables of its inputs' numbers are these
module _ (A B : Counts) (wires a b inputs_a inputs_b : List ℕ) (e : inputs_a ≡ tab (λ i. i) A.inputs)
    (q : inputs_b ≡ tab (wired_input wires inputs_a (A.inputs + free A B wires)) B.inputs) where
  long-a : length inputs_a ≡ A.inputs
  long-a = ap length e ∙ length-tab (λ i. i) A.inputs

  long-b : length inputs_b ≡ B.inputs
  long-b = ap length q ∙ length-tab (wired_input wires inputs_a (A.inputs + free A B wires)) B.inputs

  same-a : (g : ℕ) → renumbered (length inputs_a) (at inputs_a) (A.inputs + free A B wires) g ≡ number_a A B wires g
  unfolding number_a
  same-a g =
      rw long-a (renumbered-same A.inputs (at inputs_a) (λ i. i) (A.inputs + free A B wires) g
      (λ i h. ap (λ (l : List ℕ). get_or l i 0) e ∙ tab-at (λ i. i) A.inputs i h))

  same-b : (h : ℕ) → renumbered (length inputs_b) (at inputs_b) (A.graphs + free A B wires) h ≡ number_b A B wires h
  unfolding number_b
  same-b h =
      rw long-b (renumbered-same B.inputs (at inputs_b) (input_b A B wires) (A.graphs + free A B wires) h
      (λ i l. ap (λ (l : List ℕ). get_or l i 0) q ∙ tab-at (wired_input wires inputs_a (A.inputs + free A B wires)) B.inputs i l
      ∙ rw (long-a) (ap (choose (is_free wires i) (A.inputs + free_below wires i)) (rw long-a at (same-a (get_or wires i 0))))))

  pub joined-parts : parts_words a b inputs_a inputs_b (A.inputs + free A B wires) (A.graphs + free A B wires) ≡ joined A B wires a b
  unfolding joined
  joined-parts =
      append_assoc (tab (always 0) (A.inputs + free A B wires)) _ _
      ∙ ap (tab (always 0) (A.inputs + free A B wires) ++◌)
      (ap₂ ◌++◌ (moved-map _ (number_a A B wires) same-a (drop (length inputs_a) a) ∙ ap (λ (n : ℕ). map (moved (number_a A B wires)) (drop n a)) long-a)
      (moved-map _ (number_b A B wires) same-b (drop (length inputs_b) b) ∙ ap (λ (n : ℕ). map (moved (number_b A B wires)) (drop n b)) long-b))

-- a part that is written after the words xs at the front of a buffer
module _ (card inputs : List ℕ) (start : ℕ) (xs d : List ℕ) {x y : List ℕ} {n r : ℕ} (l : length xs ≡ n) (e : x ≡ front xs d)
    (p : r ≡ n + (length card - length inputs)) (q : y ≡ front (take n x ++ output_words card inputs start) x) where
  pub part-long : length (xs ++ output_words card inputs start) ≡ r
  part-long = length-append xs _ ∙ rw (l, length-outputs card inputs start, p)

  pub part-written : y ≡ front (xs ++ output_words card inputs start) d
  part-written = q ∙ front-on xs (output_words card inputs start) d x n l e

  pub room-left : r ≤ length d → length y ≡ length d
  room-left h = ap length part-written ∙ length_front (xs ++ output_words card inputs start) d (omega (arith, part-long))

-- the tables of the inputs' numbers
pub kept-numbered : (m start : ℕ) (l : List ℕ) → l ≡ tab (λ i. i) m → m ≤ start → start ≤ 2048 → Numbered 2048 l start
kept-numbered m start l e h k = record {
  few = k;
  low = λ i b. let b' : i < m = omega (arith, ap length e, length-tab (λ i. i) m) in rw (e, tab-at (λ i. i) m i b') (omega arith);
}

pub wired-numbered : (wires inputs l : List ℕ) (start then : ℕ) → LowWires wires → Numbered 2048 inputs start → length inputs ≤ 1024 → then ≤ 4096
    → l ≡ tab (wired_input wires inputs start) (length wires) → Numbered 4096 l then
wired-numbered wires inputs l start then y z h k e = record {
  few = k;
  low = λ i b.
      let b' : i < length wires = omega (arith, ap length e, length-tab (wired_input wires inputs start) (length wires)) in
      rw (e, tab-at (wired_input wires inputs start) (length wires) i b')
      (wired-low wires inputs start i (length inputs + free_below wires i) y z b' (omega (arith, free-few wires i, y.few)));
}

pub numbered-up : {inputs : List ℕ} {start : ℕ} → Numbered 2048 inputs start → Numbered 4096 inputs start
numbered-up z = record { few = omega (arith, z.few); low = λ i b. omega (arith, z.low i b) }

-- THE WORDS OF TWO ACCEPTED CARDS, of which n of B's inputs are free, with the tables of their inputs' numbers
module _ {a b wires : List ℕ} {A B : Counts} {n : ℕ} (x : Accepts a A) (y : Accepts b B) (named : LowWires wires) (l : length wires ≡ B.inputs)
    (z : n ≡ free_below wires (length wires)) where
  pub few-free : (A.inputs + n ≤ 2048) × (A.graphs + n ≤ 2048)
  few-free = omega (arith, free-few wires (length wires), named.few, x.shape.inputs_in, x.shape.few-graphs)

  module _ {kept : List ℕ} (e : kept ≡ tab (λ i. i) A.inputs) where
    pub kept-asks : Numbered 2048 kept (A.inputs + n) × (length kept ≤ 1024)
    kept-asks = (
      kept-numbered A.inputs (A.inputs + n) kept e (omega arith) few-free.0,
      omega (arith, ap length e, length-tab (λ i. i) A.inputs, x.shape.inputs_in, x.shape.few-graphs),
    )

    module _ {wired : List ℕ} (q : wired ≡ tab (wired_input wires kept (A.inputs + n)) B.inputs) where
      long_kept : length kept ≡ A.inputs
      long_kept = ap length e ∙ length-tab (λ i. i) A.inputs

      long-wired : length wired ≡ B.inputs
      long-wired = ap length q ∙ length-tab (wired_input wires kept (A.inputs + n)) B.inputs

      pub parts-ask : {room : ℕ} → card_length (joined_counts A B wires) ≤ room
          → Numbered 4096 kept (A.inputs + n) × Numbered 4096 wired (A.graphs + n) × (length kept ≤ length a) × (length wired ≤ length b)
          × (A.inputs + n + (length a - length kept) + (length b - length wired) ≤ room)
      parts-ask h = (
        numbered-up kept-asks.0,
        wired-numbered wires kept wired (A.inputs + n) (A.graphs + n) named kept-asks.0 kept-asks.1 (omega (arith, few-free.1))
            (q ∙ ap (tab (wired_input wires kept (A.inputs + n))) (sym l)),
        omega (arith, long_kept, x.long, x.shape.inputs_in),
        omega (arith, long-wired, y.long, y.shape.inputs_in),
        omega (arith, long_kept, long-wired, x.long, x.shape.inputs_in, y.long, y.shape.inputs_in, z ∙ ap (free_below wires) l),
      )

      parts-joined : parts_words a b kept wired (A.inputs + n) (A.graphs + n) ≡ joined A B wires a b
      parts-joined =
          let m : n ≡ free A B wires = z ∙ ap (free_below wires) l in
          let q' : wired ≡ tab (wired_input wires kept (A.inputs + free A B wires)) B.inputs = rw m at q in
          rw m (joined-parts A B wires a b kept wired e q')

      pub joined-left : (d : List ℕ) {out : List ℕ} {r : ℕ} → r ≡ length (parts_words a b kept wired (A.inputs + n) (A.graphs + n))
          → out ≡ front (parts_words a b kept wired (A.inputs + n) (A.graphs + n)) d → (r ≡ length (joined A B wires a b)) × (out ≡ front (joined A B wires a b) d)
      joined-left d p o = (rw (← parts-joined) p, rw (← parts-joined) o)
