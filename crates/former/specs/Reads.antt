-- THE READS THAT THE CHECK COMES TO, and a list of words in which none of these is inverted. The words may be a card or not: what stands after the first
-- word that is refused is not come to, whatever its bits. No contract of a call cites these. Assumes nothing.
use Rattle.std.specs.Prelude.{ℕ, zero, suc, ◌+◌, ◌*◌, ◌<◌, ◌≤◌, ◌≡◌, List, length, Ok}
use Rattle.answers.specs.Limits.{max_words}
use Rattle.answers.specs.declared.Counts.{Counts}
use Rattle.word32.specs.Fields.{kind, node_count, read_inverted}
use Rattle.form.specs.Check.{counts, card_length, with_graph, header_verdict, word, node_verdict, graph_verdict}

module _ (ws : List ℕ) where
  -- what the check has counted when graph g is due: the graphs before it
  unfoldable pub before : ℕ → Counts
  before zero = counts 0 0 0 0
  before (suc g) = with_graph (word ws (card_length (before g))) (before g)

  -- of graph g: where its header stands, how many nodes follow, and where the read of its local node k stands
  abbrev pub header_at : ℕ → ℕ
  header_at g = card_length (before g)

  abbrev pub nodes_of : ℕ → ℕ
  nodes_of g = node_count (word ws (header_at g))

  abbrev pub read_place : ℕ → ℕ → ℕ
  read_place g k = header_at g + 1 + 2 * k

  -- the check comes to the read of local node k of graph g: the words are not too many; each graph before g is sound; the header of g is there, is sound,
  -- and counts more than k nodes; each of its nodes before k is sound; and the word due is a read, be it sound or not
  pub record ComesTo (g k : ℕ) : Type 0 where
    pub few : length ws ≤ max_words
    pub graphs : (h : ℕ) → h < g → graph_verdict ws (before h) ≡ Ok tt
    pub there : header_at g < length ws
    pub header : header_verdict (word ws (header_at g)) (before g) ≡ Ok tt
    pub counted : k < nodes_of g
    pub nodes : (i : ℕ) → i < k → node_verdict ws g (header_at g) (nodes_of g) i ≡ Ok tt
    pub read : kind (word ws (read_place g k)) ≡ 3

  -- NO READ THAT THE CHECK COMES TO IS INVERTED: its bit 16 is clear
  abbrev pub NoneInverted : Type 0
  NoneInverted = (g k : ℕ) → ComesTo g k → read_inverted (word ws (read_place g k)) ≡ 0
