-- Nothing is lost in document 01's numbers: a number tells its rule. Assumes nothing.
use Prim.Native.Nat.{ℕ, zero, suc, ◌-◌, ◌<◌}
use mathlib.Core.Path.{◌≡◌, refl, ap}
use mathlib.Core.List.{List, [], ◌∷◌}
use native.Mathlib.Omega.{arith}
use lib.ListN.{get_or}
use Rattle.answers.specs.declared.Rule.{Rule}
use Rattle.answers.specs.declared.Rule.TheVariants.{CardTooLong, TooManyGraphs, NodeCount, WordNotDue, StrayBit, ReadNotBelow, ExitNotLater}
use Rattle.answers.specs.declared.Rule.TheVariants.{NodeNotNamed, NothingObservable, VectorForm, NumberTooHigh, BufferTooShort, WireForm, JoinedTooLarge}
use Rattle.answers.specs.declared.Rule.TheVariants.{GateForm, LeadNotEarlier, FaultListForm}
use Rattle.answers.specs.Answers.{number_of}

-- the rules in the order of their numbers, which start at 1
abbrev rules : List Rule
rules =
    CardTooLong ∷ TooManyGraphs ∷ NodeCount ∷ WordNotDue ∷ StrayBit ∷ ReadNotBelow
    ∷ ExitNotLater ∷ NodeNotNamed ∷ NothingObservable ∷ VectorForm ∷ NumberTooHigh ∷ BufferTooShort
    ∷ WireForm ∷ JoinedTooLarge ∷ GateForm ∷ LeadNotEarlier ∷ FaultListForm ∷ []

abbrev rule_of : ℕ → Rule
rule_of n = get_or rules (n - 1) CardTooLong

pub rule-of : (r : Rule) → rule_of (number_of r) ≡ r
unfolding number_of
rule-of CardTooLong = refl
rule-of TooManyGraphs = refl
rule-of NodeCount = refl
rule-of WordNotDue = refl
rule-of StrayBit = refl
rule-of ReadNotBelow = refl
rule-of ExitNotLater = refl
rule-of NodeNotNamed = refl
rule-of NothingObservable = refl
rule-of VectorForm = refl
rule-of NumberTooHigh = refl
rule-of BufferTooShort = refl
rule-of WireForm = refl
rule-of JoinedTooLarge = refl
rule-of GateForm = refl
rule-of LeadNotEarlier = refl
rule-of FaultListForm = refl

-- and no rule has the number 0
pub number-some : (r : Rule) → 0 < number_of r
unfolding number_of
number-some r = go (number_of r) refl
  where
    go : (n : ℕ) → number_of r ≡ n → 0 < n
    go zero e = let y : 1 ≡ number_of r = ap number_of (rw e at (rule-of r)) in absurd (omega arith)
    go (suc n) e = omega arith
