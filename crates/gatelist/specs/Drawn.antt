-- THE CARD OF A GATE LIST: each line is a graph of its kind, each lead a node, in order. For an accepted gate list. Assumes nothing.
use Rattle.std.specs.Prelude.{ℕ, ◌+◌, ◌-◌, List, [], ◌∷◌, Bool, ◌&&◌, ◌||◌, get_or, leb, eqb}
use Rattle.lists.specs.Counting.{choose}
use Rattle.lists.specs.Tables.{chain}
use Rattle.word32.specs.Fields.{kind, gate_function, lead_count, header_word, exits_word}
use Rattle.gatelist.specs.Lines.{first_lead}

-- the controlling value (the field's term): a lead that has it decides its gate, whatever the other leads have. 1 for OR (function 1) and NOR (3), else 0
abbrev pub controlling : ℕ → ℕ
controlling f = choose (eqb f 1 || eqb f 3) 1 0

-- the functions that complement: NAND (2), NOR (3) and NOT (4)
abbrev pub complements : ℕ → Bool
complements f = leb 2 f && leb f 4

-- the value of a gate whose walk ends at a lead with the value d
abbrev pub constant : ℕ → ℕ → ℕ
constant f d = choose (complements f) (1 - d) d

-- the exit at decision d of the node of lead k, of n: the walk ends at the controlling value and at the last lead, and else goes on to local node k + 1,
-- whose exit number is k + 3
unfoldable pub gate_exit : ℕ → ℕ → ℕ → ℕ → ℕ
gate_exit f n k d = choose (eqb d (controlling f) || leb n (k + 1)) (constant f d) (k + 3)

-- both words of that node: the read is the lead's own word w, whose bit 16 is clear
abbrev pub node_words : ℕ → ℕ → ℕ → ℕ → List ℕ
node_words f n w k = w ∷ exits_word (gate_exit f n k 0) (gate_exit f n k 1) ∷ []

module _ (gs : List ℕ) where
  -- the words of the line whose header, w, stands at p: w without its function, and a node for each lead after it
  abbrev pub lead_nodes : ℕ → ℕ → ℕ → List ℕ
  lead_nodes p w k = node_words (gate_function w) (lead_count w) (get_or gs (p + 1 + k) 0) k

  abbrev pub headed : ℕ → ℕ → List ℕ
  headed p w = header_word (kind w) (lead_count w) ∷ chain (lead_nodes p w) (lead_count w)

  unfoldable pub line_words : ℕ → List ℕ
  unfolding gate_exit chain
  line_words p = headed p (get_or gs p 0)

  -- THE WORDS of the card of n lines
  unfoldable pub drawn : ℕ → List ℕ
  unfolding first_lead line_words chain
  drawn n = chain (λ l. line_words (l + first_lead gs l)) n
