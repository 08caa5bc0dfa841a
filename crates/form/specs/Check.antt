-- What the check of a card answers: its counts, or the first rule that it breaks, and where.
-- Document 01, 'The card's words' and 'Refused words'; each test stands beside its rule, in the paper's order. Assumes nothing.
use Prim.Native.Nat.{ℕ, zero, suc, ◌+◌, ◌-◌, ◌*◌}
use Rattle.std.specs.Prelude.{List, [], ◌∷◌, Bool, true, false, ◌&&◌, ◌||◌, length, get_or, ltb, leb, eqb, Ok, Err}
use Rattle.std.proofs.Math.Bool.{not}
use Rattle.lists.specs.Counting.{choose, some_below}
use Rattle.answers.specs.Calls.{Lent}
use Rattle.answers.specs.Limits.{max_graphs, max_nodes, max_words}
use Rattle.answers.specs.Tests.{Test, test, unless, first_broken, and_then, onward}
use Rattle.word32.specs.Fields.{kind, input_spare, header_spare, read_spare, exits_spare, node_count, read_graph, exit_of}
use Rattle.answers.specs.declared.Rule.TheVariants.{CardTooLong, TooManyGraphs, NodeCount, WordNotDue, StrayBit, ReadNotBelow, ExitNotLater}
use Rattle.answers.specs.declared.Rule.TheVariants.{NodeNotNamed, NothingObservable}
use Rattle.answers.specs.declared.Counts.{Counts}
use Rattle.answers.specs.Answers.{Verdict, Answer, refused}

-- With N nodes and G graphs there are 2N + 2G faults.
abbrev pub counts : ℕ → ℕ → ℕ → ℕ → Counts
counts i g n o = record { inputs = i; graphs = g; nodes = n; observable = o; faults = 2 * n + 2 * g }

-- how many words the graphs that c counts have, and so the place due after them: each has a header, and each node two words
abbrev pub card_length : Counts → ℕ
card_length c = c.graphs + 2 * c.nodes

-- the counts with one graph more, whose header is w: kind 0 is an input, 1 hidden, 2 observable
abbrev pub with_graph : ℕ → Counts → Counts
with_graph w c =
    counts (c.inputs + choose (eqb (kind w) 0) 1 0) (c.graphs + 1) (c.nodes + node_count w) (c.observable + choose (eqb (kind w) 2) 1 0)

-- the tests of a header w: of an input, which stands at p, of an output, and of either
abbrev pub input_tests : ℕ → ℕ → Counts → List Test
input_tests w p c =
    test (ltb c.inputs c.graphs) WordNotDue p
    ∷ test (not (eqb (input_spare w) 0)) StrayBit p
    ∷ []

abbrev pub output_tests : ℕ → Counts → List Test
output_tests w c =
    test (ltb 2 (kind w)) WordNotDue (card_length c)
    ∷ test (not (eqb (header_spare w) 0)) StrayBit (card_length c)
    ∷ test (eqb (node_count w) 0 || ltb max_nodes (c.nodes + node_count w)) NodeCount (card_length c)
    ∷ []

unfoldable pub header_verdict : ℕ → Counts → Verdict
header_verdict w c =
    and_then (first_broken (test (leb max_graphs c.graphs) TooManyGraphs (card_length c) ∷ []))
    (unless (eqb (kind w) 0) (first_broken (input_tests w (card_length c) c)) (first_broken (output_tests w c)))

-- exit e of local node k in a graph of n nodes is no constant, and goes to a node not later, or not in the graph
unfoldable pub misplaced : ℕ → ℕ → ℕ → Bool
misplaced n k e = ltb 1 e && (leb e (k + 2) || leb (n + 2) e)

module _ (ws : List ℕ) where
  abbrev pub word : ℕ → ℕ
  word p = get_or ws p 0

  -- a word of kind k is due at p, and then passes the tests ts
  abbrev pub due_tests : ℕ → ℕ → List Test → List Test
  due_tests p k ts = test (leb (length ws) p) WordNotDue (length ws) ∷ test (not (eqb (kind (word p)) k)) WordNotDue p ∷ ts

  -- the word at p is a read in graph g
  unfoldable pub read_verdict : ℕ → ℕ → Verdict
  read_verdict g p =
      first_broken
      (due_tests p 3
      (test (not (eqb (read_spare (word p)) 0)) StrayBit p
      ∷ test (leb g (read_graph (word p))) ReadNotBelow p
      ∷ []))

  -- the word at p is the exits of local node k in a graph of n nodes
  unfoldable pub exits_verdict : ℕ → ℕ → ℕ → Verdict
  unfolding misplaced
  exits_verdict n k p =
      first_broken
      (due_tests p 4
      (test (not (eqb (exits_spare (word p)) 0)) StrayBit p
      ∷ test (misplaced n k (exit_of (word p) 0) || misplaced n k (exit_of (word p) 1)) ExitNotLater p
      ∷ []))

  -- local node k of graph g, whose header stands at p and has n nodes
  unfoldable pub node_verdict : ℕ → ℕ → ℕ → ℕ → Verdict
  unfolding read_verdict exits_verdict
  node_verdict g p n k = and_then (read_verdict g (p + 1 + 2 * k)) (exits_verdict n k (p + 2 + 2 * k))

  -- the local nodes from k on, `left` in all
  unfoldable pub nodes_verdict : ℕ → ℕ → ℕ → ℕ → ℕ → Verdict
  unfolding node_verdict
  nodes_verdict g p n zero k = Ok tt
  nodes_verdict g p n (suc left) k = and_then (node_verdict g p n k) (nodes_verdict g p n left (suc k))

  -- of the graph whose header stands at p: an exit of local node k names local node i; one of its n nodes does; no node names one of 1 to n - 1
  abbrev pub names : ℕ → ℕ → ℕ → Bool
  names p i k = eqb (exit_of (word (p + 2 + 2 * k)) 0) (i + 2) || eqb (exit_of (word (p + 2 + 2 * k)) 1) (i + 2)

  abbrev pub named : ℕ → ℕ → ℕ → Bool
  named p n i = some_below (names p i) n

  unfoldable pub unnamed : ℕ → ℕ → Bool
  unfolding some_below
  unnamed p n = some_below (λ i. not (named p n (suc i))) (n - 1)

  -- the graph whose header stands at the place due; an input has no nodes
  unfoldable pub graph_verdict : Counts → Verdict
  unfolding header_verdict nodes_verdict unnamed
  graph_verdict c =
      and_then (header_verdict (word (card_length c)) c)
      (and_then (nodes_verdict c.graphs (card_length c) (node_count (word (card_length c))) (node_count (word (card_length c))) 0)
      (first_broken (test (unnamed (card_length c) (node_count (word (card_length c)))) NodeNotNamed (card_length c) ∷ [])))

  -- the words end after the graphs that c counts, and `extra` bytes that are no word follow
  abbrev pub ended : ℕ → Counts → Answer
  ended extra c =
      onward
      (first_broken (test (ltb 0 extra) WordNotDue (length ws) ∷ test (eqb c.observable 0) NothingObservable (length ws) ∷ []))
      (Ok c)

  abbrev pub either : Bool → Answer → Answer → Answer
  either true a b = a
  either false a b = b

  -- the graphs from the place due on; the number bounds those to come, and 1,024 graphs at most are read
  unfoldable pub rest : ℕ → ℕ → Counts → Answer
  unfolding graph_verdict
  rest extra zero c = Err (refused TooManyGraphs (card_length c))
  rest extra (suc left) c =
      either (leb (length ws) (card_length c)) (ended extra c)
      (onward (graph_verdict c) (rest extra left (with_graph (word (card_length c)) c)))

  -- rule 1: the words are not too many
  abbrev pub long_tests : List Test
  long_tests = test (ltb max_words (length ws)) CardTooLong 0 ∷ []

  -- a card of these words and `extra` bytes more
  unfoldable pub checked_with : ℕ → Answer
  unfolding rest
  checked_with extra = onward (first_broken long_tests) (rest extra (max_graphs + 1) (counts 0 0 0 0))

  -- THE CHECK of a card
  abbrev pub checked : Answer
  checked = checked_with 0

-- the check of a card that is lent: bytes left over are rule 4 at the word count, just before rule 9
abbrev pub lent_check : Lent → Answer
lent_check card = checked_with card.words card.extra
