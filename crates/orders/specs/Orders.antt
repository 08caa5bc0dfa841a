-- THE ORDER OF REFUSALS in a call (document 01, 'Refused words'; document 02), as rows: each call breaks the rule that is told and one that comes after it.
-- The order inside the check of a card stands in `form`, inside that of a gate list in `gatelist`, and of 13, 14 and 12 in `wiring` (proofs/Examples.antt).
-- Assumes nothing.
use Rattle.std.specs.Prelude.{ℕ, List, [], ◌∷◌, ◌++◌, replicate}
use mathlib.Mathlib.Data.List.Defs.{Forall}
use Rattle.answers.specs.Calls.{lent, whole}
use Rattle.cardcounts.specs.Calls.{check_outcome}
use Rattle.plain.specs.Calls.{good_outcome, fault_outcome}
use Rattle.changes.specs.Calls.{change_outcome, critical_outcome}
use Rattle.grade.specs.Calls.{grade_outcome}
use Rattle.join.specs.Calls.{join_outcome}
use Rattle.gates.specs.Calls.{to_card_outcome}
use Rattle.cases.specs.Rows.{Row, refused_as, Holds}
use Rattle.cases.specs.Starred.{S, akers}

-- S without its last graph, so that nothing is observable: rule 9 at 4. A gate list of which that is so: rule 9 at 3.
abbrev pub hidden : List ℕ
hidden = 0x00000000 ∷ 0x20000001 ∷ 0x60000000 ∷ 0x80000001 ∷ []

abbrev pub hidden_gates : List ℕ
hidden_gates = 0x00000000 ∷ 0x20000001 ∷ 0x60000000 ∷ []

-- 17 inputs, so that a vector has two words, and a graph that copies input 0
abbrev pub seventeen : List ℕ
seventeen = replicate 17 0 ++ (0x40000001 ∷ 0x60000000 ∷ 0x80000001 ∷ [])

-- a word of an accepted vector, and one of another kind: rule 10
abbrev pub zeros : ℕ
zeros = 0xA0000000

abbrev pub wrong : ℕ
wrong = 0x60000000

abbrev pub orders : List Row
orders =
    -- the card's before the vectors' 10: bytes left over, and 9
    refused_as (good_outcome (lent S 1) (whole (wrong ∷ [])) 3) 4 9
    ∷ refused_as (good_outcome (whole hidden) (whole (wrong ∷ [])) 2) 9 4
    ∷ refused_as (grade_outcome (whole hidden) (whole (wrong ∷ [])) 0 0) 9 4
    -- 10, of one vector and of a list: the number of words before the words, bytes left over being a wrong number; and an earlier word before a later one
    ∷ refused_as (good_outcome (whole seventeen) (whole (zeros ∷ wrong ∷ zeros ∷ [])) 18) 10 0
    ∷ refused_as (good_outcome (whole seventeen) (lent (zeros ∷ wrong ∷ []) 1) 18) 10 0
    ∷ refused_as (grade_outcome (whole seventeen) (whole (zeros ∷ wrong ∷ zeros ∷ [])) 38 38) 10 0
    ∷ refused_as (grade_outcome (whole seventeen) (lent (zeros ∷ wrong ∷ []) 3) 38 38) 10 0
    ∷ refused_as (grade_outcome (whole S) (whole (zeros ∷ 0xA0000002 ∷ wrong ∷ [])) 12 12) 10 1
    -- the number of vectors before the words
    ∷ refused_as (grade_outcome (whole S) (whole (zeros ∷ wrong ∷ replicate 65534 zeros)) 12 12) 10 0
    -- 10 before 11, of a graph and of a fault; before 12, where no number is asked
    ∷ refused_as (change_outcome (whole S) (whole (wrong ∷ [])) 3 3) 10 0
    ∷ refused_as (fault_outcome (whole S) (whole (wrong ∷ [])) (whole (12 ∷ [])) 3) 10 0
    ∷ refused_as (good_outcome (whole S) (whole (wrong ∷ [])) 2) 10 0
    ∷ refused_as (critical_outcome (whole S) (whole (wrong ∷ [])) 2) 10 0
    ∷ refused_as (grade_outcome (whole S) (whole (zeros ∷ wrong ∷ [])) 11 11) 10 1
    -- 11 before 12, of a graph; 11 before bytes left over in a list of faults (17), and these before 12: the other rows of 11, 17 and 12 are in `several`
    ∷ refused_as (change_outcome (whole S) (whole (zeros ∷ [])) 3 2) 11 0
    ∷ refused_as (fault_outcome (whole S) (whole (zeros ∷ [])) (lent (12 ∷ []) 1) 3) 11 0
    ∷ refused_as (fault_outcome (whole S) (whole (zeros ∷ [])) (lent (6 ∷ []) 1) 2) 17 0
    -- 12 of the marks before 12 of the tallies, which alone is told at 1
    ∷ refused_as (grade_outcome (whole S) (whole (zeros ∷ [])) 11 11) 12 0
    ∷ refused_as (grade_outcome (whole S) (whole (zeros ∷ [])) 12 11) 12 1
    -- 9 before 12, of a card's check and of a gate list
    ∷ refused_as (check_outcome (whole hidden) 4) 9 4
    ∷ refused_as (to_card_outcome (whole hidden_gates) 3) 9 3
    -- two cards: A's check before B's, B's before 13, and 13 for bytes left over before a wire word
    ∷ refused_as (join_outcome (whole hidden) (whole (1 ∷ [])) (whole []) 0) 9 4
    ∷ refused_as (join_outcome (whole S) (whole hidden) (whole []) 0) 9 13
    ∷ refused_as (join_outcome (whole S) (whole akers) (lent (0 ∷ 3 ∷ 0 ∷ []) 1) 0) 13 0
    ∷ []

-- THE STATEMENT: every row holds
abbrev pub Orders : Type 0
unfolding Forall
Orders = Forall Holds orders
