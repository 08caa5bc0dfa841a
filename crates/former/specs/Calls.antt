-- THE CALLS BY THE RULES THAT KNOW OF NO INVERSION, as they were before document 02's 'Inverted reads' (that faults may be several came later, and is as
-- now), and the statement that a card with no inverted read has them still: the opening is the former check and then the form of the vectors; the tests of
-- a call are its own; and its number and its words are made of `direct_value`, in which a node's decision is the value read. No contract of a call cites
-- these. Assumes nothing.
use Rattle.std.specs.Prelude.{ℕ, ◌≡◌, List}
use Rattle.lists.specs.Counting.{choose, count}
use Rattle.lists.specs.Tables.{tab, chosen}
use Rattle.answers.specs.declared.Counts.{Counts}
use Rattle.answers.specs.Answers.{Answer}
use Rattle.answers.specs.Tests.{Test}
use Rattle.answers.specs.Calls.{Lent, Outcome, Work, work, opened, outcome}
use Rattle.cardtables.specs.Stems.{total}
use Rattle.testvectors.specs.Vectors.{vector_verdict, list_verdict, lent_form}
use Rattle.value.specs.Settings.{Setting, good, faulty}
use Rattle.value.specs.Direct.{direct_value}
use Rattle.detect.specs.Direct.{direct_changes, direct_critical, direct_tally, direct_mark, direct_marked}
use Rattle.faultlist.specs.Faults.{fault_tests}
use Rattle.cardcounts.specs.Calls.{check_work, check_outcome}
use Rattle.plain.specs.Calls.{good_tests, good_outcome, fault_outcome}
use Rattle.changes.specs.Calls.{change_tests, change_outcome, critical_tests, critical_outcome}
use Rattle.grade.specs.Calls.{grade_tests, grade_outcome}
use Rattle.textlines.specs.Text.{grading_text}
use Rattle.report.specs.Report.{unless_broken, if_accepted, graded_text}
use Rattle.former.specs.Check.{former_checked_with, former_lent_check}

-- how a call on one vector opened, and one on a list
abbrev pub former_opened_vector : Lent → Lent → Answer
former_opened_vector card v = opened (former_lent_check card) (λ c. lent_form vector_verdict c.inputs v)

abbrev pub former_opened_list : Lent → Lent → Answer
former_opened_list card v = opened (former_lent_check card) (λ c. lent_form list_verdict c.inputs v)

-- CHECK: the five numbers
abbrev pub former_check_outcome : Lent → ℕ → Outcome
former_check_outcome card room = outcome (former_lent_check card) (check_work room)

-- GOOD VALUES, AND VALUES WITH THE FAULTS fs: a word for each graph
abbrev pub former_values_work : (Counts → List Test) → Setting → List ℕ → List ℕ → Counts → Work
former_values_work own s ws x c = work (own c) 0 (tab (direct_value ws c s x) c.graphs)

abbrev pub former_good_outcome : Lent → Lent → ℕ → Outcome
former_good_outcome card v room = outcome (former_opened_vector card v) (former_values_work (good_tests room) good card.words v.words)

abbrev pub former_fault_outcome : Lent → Lent → Lent → ℕ → Outcome
former_fault_outcome card v fs room =
    outcome (former_opened_vector card v) (former_values_work (fault_tests fs.extra fs.words room) (faulty fs.words) card.words v.words)

-- THE CHANGE LIST of graph g: its length, and the graphs' numbers, rising
abbrev pub former_change_work : ℕ → ℕ → List ℕ → List ℕ → Counts → Work
former_change_work g room ws x c =
    work (change_tests g room c) (count (direct_changes ws c x g) c.graphs) (chosen (direct_changes ws c x g) c.graphs)

abbrev pub former_change_outcome : Lent → Lent → ℕ → ℕ → Outcome
former_change_outcome card v g room = outcome (former_opened_vector card v) (former_change_work g room card.words v.words)

-- CRITICAL NODES: a word for each node
abbrev pub former_critical_work : ℕ → List ℕ → List ℕ → Counts → Work
former_critical_work room ws x c = work (critical_tests room c) 0 (tab (λ j. choose (direct_critical ws c x j) 1 0) c.nodes)

abbrev pub former_critical_outcome : Lent → Lent → ℕ → Outcome
former_critical_outcome card v room = outcome (former_opened_vector card v) (former_critical_work room card.words v.words)

-- THE GRADING: the marked count, the marks, and in the second buffer the tallies
abbrev pub former_grade_work : ℕ → ℕ → List ℕ → List ℕ → Counts → Work
former_grade_work marks tallies ws xs c =
    record {
      tests = grade_tests marks tallies c;
      number = direct_marked ws c xs;
      words = tab (direct_mark ws c xs) c.faults;
      more = tab (direct_tally ws c xs) c.faults;
    }

abbrev pub former_grade_outcome : Lent → Lent → ℕ → ℕ → Outcome
former_grade_outcome card v marks tallies = outcome (former_opened_list card v) (former_grade_work marks tallies card.words v.words)

-- WHAT cardgrade PRINTED for the card ws with the vector words xs: the card's refusal, the list's, or the grading
abbrev pub former_text : List ℕ → List ℕ → List ℕ
former_text ws xs =
    if_accepted (former_checked_with ws 0) (λ c.
    unless_broken (list_verdict c.inputs xs) (grading_text c (direct_mark ws c xs) (direct_tally ws c xs) (direct_marked ws c xs) (total ws c)))

-- THE STATEMENT: every call on the card comes to what it came to, refused or not, by words or in bytes: its reply, and the words of both buffers. And the
-- program prints what it printed
pub record CallsAsBefore (card : Lent) : Type 0 where
  pub check : (room : ℕ) → check_outcome card room ≡ former_check_outcome card room
  pub good : (v : Lent) (room : ℕ) → good_outcome card v room ≡ former_good_outcome card v room
  pub faults : (v fs : Lent) (room : ℕ) → fault_outcome card v fs room ≡ former_fault_outcome card v fs room
  pub changes : (v : Lent) (g room : ℕ) → change_outcome card v g room ≡ former_change_outcome card v g room
  pub critical : (v : Lent) (room : ℕ) → critical_outcome card v room ≡ former_critical_outcome card v room
  pub grading : (v : Lent) (marks tallies : ℕ) → grade_outcome card v marks tallies ≡ former_grade_outcome card v marks tallies
  pub printed : (xs : List ℕ) → graded_text card.words xs ≡ former_text card.words xs
