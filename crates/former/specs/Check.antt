-- THE FORMER CHECK: what the check of a card answered before document 02's 'Inverted reads', when bits 28..16 of a read had to be zero, so that bit 16 was
-- rule 5 at the read. As `form`'s Check, in which that one test moved; what does not come to a read is taken from there. No contract of a call cites these.
-- Assumes nothing.
use Prim.Native.Nat.{ℕ, zero, suc, ◌+◌, ◌*◌, ◌/◌, ◌%◌, ◌^◌}
use Rattle.std.specs.Prelude.{List, [], ◌∷◌, not, length, leb, eqb, Ok, Err}
use Rattle.answers.specs.Calls.{Lent}
use Rattle.answers.specs.Limits.{max_graphs}
use Rattle.answers.specs.Tests.{test, first_broken, and_then, onward}
use Rattle.answers.specs.declared.Rule.TheVariants.{TooManyGraphs, StrayBit, ReadNotBelow, NodeNotNamed}
use Rattle.answers.specs.declared.Counts.{Counts}
use Rattle.answers.specs.Answers.{Verdict, Answer, refused}
use Rattle.word32.specs.Fields.{node_count, read_graph}
use Rattle.form.specs.Check.{counts, card_length, with_graph, header_verdict, word, due_tests, exits_verdict, unnamed, ended, either, long_tests}

-- bits 28..16, which had to be zero in a read
abbrev pub former_spare : ℕ → ℕ
former_spare w = w / 2 ^ 16 % 2 ^ 13

module _ (ws : List ℕ) where
  -- the word at p is a read in graph g
  unfoldable pub former_read : ℕ → ℕ → Verdict
  former_read g p =
      first_broken
      (due_tests ws p 3
      (test (not (eqb (former_spare (word ws p)) 0)) StrayBit p
      ∷ test (leb g (read_graph (word ws p))) ReadNotBelow p
      ∷ []))

  -- local node k of graph g, whose header stands at p and has n nodes; and the local nodes from k on, `left` in all
  unfoldable pub former_node : ℕ → ℕ → ℕ → ℕ → Verdict
  unfolding former_read exits_verdict
  former_node g p n k = and_then (former_read g (p + 1 + 2 * k)) (exits_verdict ws n k (p + 2 + 2 * k))

  unfoldable pub former_nodes : ℕ → ℕ → ℕ → ℕ → ℕ → Verdict
  unfolding former_node
  former_nodes g p n zero k = Ok tt
  former_nodes g p n (suc left) k = and_then (former_node g p n k) (former_nodes g p n left (suc k))

  -- the graph whose header stands at the place due
  unfoldable pub former_graph : Counts → Verdict
  unfolding header_verdict former_nodes unnamed
  former_graph c =
      and_then (header_verdict (word ws (card_length c)) c)
      (and_then (former_nodes c.graphs (card_length c) (node_count (word ws (card_length c))) (node_count (word ws (card_length c))) 0)
      (first_broken (test (unnamed ws (card_length c) (node_count (word ws (card_length c)))) NodeNotNamed (card_length c) ∷ [])))

  -- the graphs from the place due on, at most 1,024 in all
  unfoldable pub former_rest : ℕ → ℕ → Counts → Answer
  unfolding former_graph
  former_rest extra zero c = Err (refused TooManyGraphs (card_length c))
  former_rest extra (suc left) c =
      either ws (leb (length ws) (card_length c)) (ended ws extra c)
      (onward (former_graph c) (former_rest extra left (with_graph (word ws (card_length c)) c)))

  -- a card of these words and `extra` bytes more
  unfoldable pub former_checked_with : ℕ → Answer
  unfolding former_rest
  former_checked_with extra = onward (first_broken (long_tests ws)) (former_rest extra (max_graphs + 1) (counts 0 0 0 0))

-- the former check of a card that is lent
abbrev pub former_lent_check : Lent → Answer
former_lent_check card = former_checked_with card.words card.extra
