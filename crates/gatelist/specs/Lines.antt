-- Where the lines of an accepted gate list and their leads stand in its words: document 02, 'Gate lists above the engine'. The inputs and the gates are
-- its lines, numbered from 0 in word order; so are the leads, through all gates. Assumes nothing.
use Rattle.std.specs.Prelude.{ℕ, zero, suc, ◌+◌, List, Bool, get_or}
use Rattle.std.proofs.Math.Dec.{eqb}
use Rattle.word32.specs.Fields.{kind, gate_function, lead_count, lead_line}

module _ (gs : List ℕ) where
  -- the number of the first lead of line l, before whose header stand l headers and a word for each lead
  abbrev pub passed : ℕ → ℕ → ℕ
  passed l n = n + lead_count (get_or gs (l + n) 0)

  unfoldable pub first_lead : ℕ → ℕ
  first_lead zero = 0
  first_lead (suc l) = passed l (first_lead l)

  abbrev pub header : ℕ → ℕ
  header l = get_or gs (l + first_lead l) 0

  -- of line l: that it is an input, that it is observable, its function and its number of leads
  unfoldable pub input_line : ℕ → Bool
  unfolding first_lead
  input_line l = eqb (kind (header l)) 0

  unfoldable pub observable_line : ℕ → Bool
  unfolding first_lead
  observable_line l = eqb (kind (header l)) 2

  unfoldable pub function : ℕ → ℕ
  unfolding first_lead
  function l = gate_function (header l)

  unfoldable pub leads : ℕ → ℕ
  unfolding first_lead
  leads l = lead_count (header l)

  -- the word of its lead k, counted from 0 in each gate, and the line that this lead names
  abbrev pub lead_word : ℕ → ℕ → ℕ
  lead_word l k = get_or gs (l + first_lead l + 1 + k) 0

  unfoldable pub named_line : ℕ → ℕ → ℕ
  unfolding first_lead
  named_line l k = lead_line (lead_word l k)
