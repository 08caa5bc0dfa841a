-- Two cards wired together: document 02, change 1. Card A has the counts A and the words a, card B the counts B and the words b. There is a wire word for
-- each of B's inputs: the number of a graph of A, or FFFFFFFF where that input stays free. For accepted cards. Assumes nothing.
use Rattle.std.specs.Prelude.{ℕ, ◌+◌, ◌-◌, Bool, not, ◌&&◌, ◌||◌, length, get_or, drop, ltb, leb, eqb}
use mathlib.Core.List.{List, [], ◌∷◌, ◌++◌, map}
use Rattle.lists.specs.Counting.{choose, count, least}
use Rattle.lists.specs.Tables.{grow, tab, always}
use Rattle.word32.specs.Fields.{kind, read_graph, with_read}
use Rattle.answers.specs.Limits.{max_graphs, max_nodes}
use Rattle.answers.specs.declared.Counts.{Counts}
use Rattle.answers.specs.declared.Rule.TheVariants.{WireForm, JoinedTooLarge, BufferTooShort}
use Rattle.answers.specs.Tests.{Test, test}
use Rattle.form.specs.Check.{counts}

-- input i of B stays free; how many of its inputs below i do
abbrev pub is_free : List ℕ → ℕ → Bool
is_free wires i = eqb (get_or wires i 0) 0xFFFFFFFF

abbrev pub free_below : List ℕ → ℕ → ℕ
free_below wires i = count (is_free wires) i

-- wire word i names no graph of A, which has G, and is not FFFFFFFF
abbrev pub wrong_wire : ℕ → List ℕ → ℕ → Bool
wrong_wire G wires i = not (is_free wires i) && leb G (get_or wires i 0)

-- a joined card with the counts c and n words: the limits of a card (9,216 words are 1,024 + 2 × 4,096, and need no test), and a buffer of `room` words
abbrev pub size_tests : Counts → ℕ → ℕ → List Test
size_tests c n room =
    test (ltb max_graphs c.graphs || ltb max_nodes c.nodes) JoinedTooLarge 0
    ∷ test (ltb room n) BufferTooShort 0
    ∷ []

-- the new number of graph g of a card with m inputs: inputs by a rule, outputs in their order from `start` on
abbrev pub renumbered : ℕ → (ℕ → ℕ) → ℕ → ℕ → ℕ
renumbered m input start g = choose (ltb g m) (input g) (start + (g - m))

-- a word of a card whose graphs have new numbers: a read (kind 3) has its graph's number exchanged, and every other word is as it was
unfoldable pub moved : (ℕ → ℕ) → ℕ → ℕ
moved number w = choose (eqb (kind w) 3) (with_read w (number (read_graph w))) w

module _ (A B : Counts) (wires : List ℕ) where
  -- how many inputs of B stay
  abbrev pub free : ℕ
  free = free_below wires B.inputs

  -- THE NEW NUMBERS. Of A's graphs: inputs come first and keep theirs, outputs come after all inputs.
  unfoldable pub number_a : ℕ → ℕ
  unfolding count
  number_a g = renumbered A.inputs (λ i. i) (A.inputs + free) g

  -- Of B's graphs: input i, where it is free, comes after A's inputs and the free ones before it, else it is the graph of A that its wire names; outputs
  -- come after A's outputs.
  abbrev pub input_b : ℕ → ℕ
  input_b i = choose (is_free wires i) (A.inputs + free_below wires i) (number_a (get_or wires i 0))

  unfoldable pub number_b : ℕ → ℕ
  unfolding number_a
  number_b h = renumbered B.inputs input_b (A.graphs + free) h

  -- the joined card's inputs, graphs, nodes and observable graphs
  abbrev pub joined_counts : Counts
  joined_counts =
      counts (A.inputs + free) (A.graphs + free + (B.graphs - B.inputs)) (A.nodes + B.nodes) (A.observable + B.observable)

  -- THE JOINED CARD: a word 0 for each input, then A's outputs, then B's, each with its nodes
  unfoldable pub joined : List ℕ → List ℕ → List ℕ
  unfolding moved number_b grow
  joined a b =
      tab (always 0) (A.inputs + free)
      ++ (map (moved number_a) (drop A.inputs a) ++ map (moved number_b) (drop B.inputs b))

  -- THE TESTS after the checks of A and B, for a joined card of n words and a buffer of `room`: the number of wire words, each of them, and the size
  unfoldable pub join_tests : ℕ → ℕ → List Test
  unfolding count least
  join_tests n room =
      test (not (eqb (length wires) B.inputs)) WireForm 0
      ∷ test (ltb (least (wrong_wire A.graphs wires) (length wires)) (length wires)) WireForm (least (wrong_wire A.graphs wires) (length wires))
      ∷ size_tests joined_counts n room
