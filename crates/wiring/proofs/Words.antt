-- The words of the joined card. Assumes nothing.
use Prim.Native.Nat.{ℕ, ◌+◌, ◌-◌, ◌*◌, ◌^◌, ◌<◌}
use mathlib.Core.Path.{◌≡◌, sym, ap, ◌∙◌}
use mathlib.Core.List.{List, map, ◌++◌}
use native.Mathlib.Omega.{arith}
use lib.ListN.{length, get_or, drop, length-append, length-drop, length-map, get_or-append, get_or-map}
use lib.Seq.{get_or-drop, get_or-append-add}
use lib.Dec.{eqb}
use borrow.Author.Tests.{eq-eqb, ne_eqb}
use Rattle.lists.specs.Counting.{choose}
use Rattle.lists.specs.Tables.{tab, always}
use Rattle.lists.proofs.Tables.{length-tab, tab-at}
use Rattle.word32.specs.Fields.{kind, read_spare, read_graph, read_inverted, with_read}
use Rattle.answers.specs.declared.Counts.{Counts}
use Rattle.layout.specs.Layout.{decided}
use Rattle.layout.specs.Shape.{Accepts}
use Rattle.form.specs.Check.{card_length}
use Rattle.wiring.specs.Joined.{moved, free, number_a, number_b, joined_counts, joined}

-- ONE MOVED WORD. A word that is no read stays; a read keeps all but the number of its graph.
module _ (number : ℕ → ℕ) (w : ℕ) where
  pub moved_other : (kind w ≡ 3 → ⊥) → moved number w ≡ w
  unfolding moved
  moved_other n = rw (ne_eqb (kind w) 3 n)

  pub moved-is : kind w ≡ 3 → moved number w ≡ with_read w (number (read_graph w))
  unfolding moved
  moved-is e = rw (eq-eqb (kind w) 3 e)

  module _ (e : kind w ≡ 3) (few : number (read_graph w) < 2 ^ 16) where
    pub moved-kind : kind (moved number w) ≡ 3
    moved-kind = rw (moved-is e) (omega arith)

    pub moved-spare : read_spare (moved number w) ≡ read_spare w
    moved-spare = rw (moved-is e) (omega arith)

    pub moved-read : read_graph (moved number w) ≡ number (read_graph w)
    moved-read = rw (moved-is e) (omega arith)

    -- an inverted read stays one, so that the decision is as it was
    moved-inverted : read_inverted (moved number w) ≡ read_inverted w
    moved-inverted = rw (moved-is e) (omega arith)

    pub moved-decided : (r : ℕ) → decided (moved number w) r ≡ decided w r
    unfolding decided
    moved-decided r = ap (λ (b : ℕ). choose (eqb b 1) (1 - r) r) moved-inverted

-- the words of a card from word m on, moved: their number, and each of them
module _ (number : ℕ → ℕ) (m : ℕ) (ws : List ℕ) where
  abbrev part : List ℕ
  part = map (moved number) (drop m ws)

  part-long : length part ≡ length ws - m
  part-long = length-map (drop m ws) (moved number) ∙ length-drop m ws

  part_at : (i : ℕ) → get_or part i 0 ≡ moved number (get_or ws (m + i) 0)
  unfolding moved
  part_at i = get_or-map (moved number) (drop m ws) i 0 ∙ ap (moved number) (get_or-drop m ws i 0)

-- THE WORDS OF THE JOINED CARD: their number, the inputs' words, those of A's outputs and those of B's
module _ {a b : List ℕ} {A B : Counts} (x : Accepts a A) (y : Accepts b B) (wires : List ℕ) where
  abbrev js : List ℕ
  js = joined A B wires a b

  abbrev n : ℕ
  n = A.inputs + free A B wires

  abbrev zeros : List ℕ
  zeros = tab (always 0) n

  abbrev part_a : List ℕ
  part_a = part (number_a A B wires) A.inputs a

  abbrev part_b : List ℕ
  part_b = part (number_b A B wires) B.inputs b

  pub joined-long : length js ≡ card_length (joined_counts A B wires)
  unfolding joined
  joined-long =
      length-append zeros (part_a ++ part_b)
      ∙ rw (length-tab (always 0) n, length-append part_a part_b)
      (omega (
        arith,
        part-long (number_a A B wires) A.inputs a,
        part-long (number_b A B wires) B.inputs b,
        x.long,
        y.long,
        x.shape.inputs_in,
        y.shape.inputs_in,
      ))

  pub word-input : (p : ℕ) → p < n → get_or js p 0 ≡ 0
  unfolding joined
  word-input p l = get_or-append zeros (part_a ++ part_b) 0 p (rw (length-tab (always 0) n) l) ∙ tab-at (always 0) n p l

  after-inputs : (i : ℕ) → get_or js (n + i) 0 ≡ get_or (part_a ++ part_b) i 0
  unfolding joined
  after-inputs i = rw (length-tab (always 0) n) at (get_or-append-add zeros (part_a ++ part_b) i 0)

  pub word-a : (i : ℕ) → A.inputs + i < length a → get_or js (n + i) 0 ≡ moved (number_a A B wires) (get_or a (A.inputs + i) 0)
  word-a i l =
      after-inputs i
      ∙ get_or-append part_a part_b 0 i (rw (part-long (number_a A B wires) A.inputs a) (omega arith))
      ∙ part_at (number_a A B wires) A.inputs a i

  pub word-b : (i : ℕ) → get_or js (A.graphs + free A B wires + 2 * A.nodes + i) 0 ≡ moved (number_b A B wires) (get_or b (B.inputs + i) 0)
  word-b i =
      let e : n + (length a - A.inputs + i) ≡ A.graphs + free A B wires + 2 * A.nodes + i = omega (arith, x.long, x.shape.inputs_in) in
      ap (λ (p : ℕ). get_or js p 0) (sym e)
      ∙ after-inputs (length a - A.inputs + i)
      ∙ rw (part-long (number_a A B wires) A.inputs a) at (get_or-append-add part_a part_b i 0)
      ∙ part_at (number_b A B wires) B.inputs b i
