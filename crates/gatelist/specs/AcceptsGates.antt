-- What the words of an accepted gate list are, as plain facts. The laws use these records and never open the check. No contract of a call cites them.
-- Assumes nothing.
use Rattle.std.specs.Prelude.{ℕ, ◌+◌, ◌<◌, ◌≤◌, ◌≡◌, List, true, false, length}
use Rattle.lists.specs.Counting.{count}
use Rattle.word32.specs.Fields.{kind, lead_spare}
use Rattle.answers.specs.Limits.{max_graphs, max_nodes}
use Rattle.answers.specs.declared.Counts.{Counts}
use Rattle.form.specs.Check.{counts}
use Rattle.gatelist.specs.Lines.{first_lead, header, input_line, observable_line, function, leads, lead_word, named_line}
use Rattle.gatelist.specs.Form.{wrong_gate}

-- line l is a gate, and its leads name earlier lines
pub record Gate (gs : List ℕ) (l : ℕ) : Type 0 where
  pub hidden-or-not : (0 < kind (header gs l)) × (kind (header gs l) < 3)
  pub right : wrong_gate (function gs l) (leads gs l) ≡ false
  pub lead : (k : ℕ) → k < leads gs l → (kind (lead_word gs l k) ≡ 3) × (lead_spare (lead_word gs l k) ≡ 0)
  pub earlier : (k : ℕ) → k < leads gs l → named_line gs l k < l

pub record AcceptsGates (gs : List ℕ) (c : Counts) : Type 0 where
  pub few-lines : c.graphs ≤ max_graphs
  pub few-leads : c.nodes ≤ max_nodes
  pub fits : c.graphs + c.nodes ≤ length gs
  pub leads-in : first_lead gs c.graphs ≡ c.nodes
  pub counted : c ≡ counts (count (input_line gs) c.graphs) c.graphs (first_lead gs c.graphs) (count (observable_line gs) c.graphs)
  pub some-observable : 0 < c.observable
  -- an input's word is 0, and lines before it are inputs
  pub input : (l : ℕ) → l < c.graphs → input_line gs l ≡ true → (header gs l ≡ 0) × (count (input_line gs) l ≡ l)
  pub gate : (l : ℕ) → l < c.graphs → input_line gs l ≡ false → Gate gs l
