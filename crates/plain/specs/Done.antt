-- What a call with a list of faults gives where it is done: values with all of them holding together. No contract of a call cites it. Assumes nothing.
use Rattle.std.specs.Prelude.{ℕ, ◌≡◌, Ok}
use Rattle.lists.specs.Tables.{tab}
use Rattle.answers.specs.declared.Counts.{Counts}
use Rattle.value.specs.Settings.{Setting, faulty}
use Rattle.value.specs.Values.{value}
use Rattle.faultlist.specs.Together.{Together}
use Rattle.answers.specs.Calls.{Lent}
use Rattle.form.specs.Check.{lent_check}
use Rattle.plain.specs.Calls.{fault_outcome}

-- the card is accepted; there is a setting under which all faults of the list hold together; and the words are the graphs' values under each such setting
pub record AllHold (card v fs : Lent) (room : ℕ) : Type 0 where
  pub counted : Counts
  pub accepted : lent_check card ≡ Ok counted
  pub hold : Together fs.words (faulty fs.words)
  pub values : (s : Setting) → Together fs.words s
      → (fault_outcome card v fs room).words ≡ tab (value card.words counted s v.words) counted.graphs
