-- Document 01's number for each rule, and from 13 on document 02's; what a check finds and a call replies; and the values that a check tells. Assumes nothing.
use Rattle.std.specs.Prelude.{ℕ, List, [], ◌∷◌, Result}
use Rattle.answers.specs.declared.Rule.{Rule}
use Rattle.answers.specs.declared.Rule.TheVariants.{CardTooLong, TooManyGraphs, NodeCount, WordNotDue, StrayBit, ReadNotBelow, ExitNotLater}
use Rattle.answers.specs.declared.Rule.TheVariants.{NodeNotNamed, NothingObservable, VectorForm, NumberTooHigh, BufferTooShort, WireForm, JoinedTooLarge}
use Rattle.answers.specs.declared.Rule.TheVariants.{GateForm, LeadNotEarlier, FaultListForm}
use Rattle.answers.specs.declared.Refusal.{Refusal}
use Rattle.answers.specs.declared.Counts.{Counts}

-- a rule's number in the table of refusals
unfoldable pub number_of : Rule → ℕ
number_of CardTooLong = 1
number_of TooManyGraphs = 2
number_of NodeCount = 3
number_of WordNotDue = 4
number_of StrayBit = 5
number_of ReadNotBelow = 6
number_of ExitNotLater = 7
number_of NodeNotNamed = 8
number_of NothingObservable = 9
number_of VectorForm = 10
number_of NumberTooHigh = 11
number_of BufferTooShort = 12
number_of WireForm = 13
number_of JoinedTooLarge = 14
number_of GateForm = 15
number_of LeadNotEarlier = 16
number_of FaultListForm = 17

-- the refusal by a rule at a position; and the rule and the position of a refusal
abbrev pub refused : Rule → ℕ → Refusal
refused rule position = record { 0 = rule; 1 = position }

abbrev pub broken_rule : Refusal → Rule
broken_rule r = r.0

abbrev pub stands_at : Refusal → ℕ
stands_at r = r.1

-- what a part of a check finds: nothing, or the refusal
abbrev pub Verdict : Type 0
Verdict = Result (Unit {0}) Refusal

-- the answer of a check: the numbers of what is accepted, or the refusal
abbrev pub Answer : Type 0
Answer = Result Counts Refusal

-- the reply of a call: its number, or the refusal
abbrev pub Reply : Type 0
Reply = Result ℕ Refusal

-- the five numbers of an accepted card, in the order of document 01
abbrev pub values_of : Counts → List ℕ
values_of c = c.inputs ∷ c.graphs ∷ c.nodes ∷ c.observable ∷ c.faults ∷ []
