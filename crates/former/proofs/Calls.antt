-- EVERY CALL ON A CARD WITH NO INVERTED READ COMES TO WHAT IT CAME TO, refused or not, by words or in bytes. Assumes nothing.
use Prim.Native.Nat.{ℕ}
use mathlib.Core.Path.{◌≡◌, refl, ap, fun_ext, ◌∙◌}
use mathlib.Core.List.{List}
use mathlib.Core.Bool.{Bool}
use Rattle.lists.specs.Counting.{choose}
use Rattle.lists.proofs.Tables.{tab-same}
use Rattle.answers.specs.declared.Counts.{Counts}
use Rattle.std.specs.Prelude.{Ok, Err}
use Rattle.answers.specs.Answers.{Verdict, Answer}
use Rattle.answers.specs.Tests.{Test, first_broken}
use Rattle.answers.specs.Calls.{Lent, Work, work, outcome_by, opened, outcome}
use Rattle.answers.proofs.Calls.{opened-accepted, following-same}
use Rattle.cardtables.specs.Stems.{total}
use Rattle.testvectors.specs.Vectors.{list_verdict}
use Rattle.form.specs.Check.{checked_with, lent_check}
use Rattle.form.proofs.Checked.{check-accepts}
use Rattle.value.specs.Settings.{Setting, good, faulty}
use Rattle.value.specs.Direct.{Direct}
use Rattle.detect.specs.Grading.{tally, mark, marked}
use Rattle.detect.specs.Direct.{direct_tally, direct_mark, direct_marked, AsBefore}
use Rattle.detect.proofs.Direct.{direct-as-before}
use Rattle.faultlist.specs.Faults.{fault_tests}
use Rattle.cardcounts.specs.Calls.{check_work}
use Rattle.plain.specs.Calls.{values_work, good_tests}
use Rattle.changes.specs.Calls.{change_work, critical_work}
use Rattle.grade.specs.Calls.{grade_work}
use Rattle.textlines.specs.Text.{grading_text}
use Rattle.report.specs.Report.{unless_broken, if_accepted, graded_text}
use Rattle.former.specs.Check.{former_lent_check}
use Rattle.former.specs.Reads.{NoneInverted}
use Rattle.former.specs.Calls.{former_values_work, former_change_work, former_critical_work, former_grade_work, former_text, CallsAsBefore}
use Rattle.former.proofs.Check.{check-as-before}
use Rattle.former.proofs.Accepted.{none-direct, direct-none, accepted-before}

-- what each call does with an accepted card of which all is as before
module _ {ws : List ℕ} {c : Counts} (a : AsBefore ws c) where
  values_same : (own : Counts → List Test) (s : Setting) (x : List ℕ) → values_work own s ws x c ≡ former_values_work own s ws x c
  values_same own s x = ap (work (own c) 0) (tab-same _ _ c.graphs (λ g l. a.values s x g))

  change-same : (g room : ℕ) (x : List ℕ) → change_work g room ws x c ≡ former_change_work g room ws x c
  change-same g room x = rw (fun_ext (a.changed x g))

  critical-same : (room : ℕ) (x : List ℕ) → critical_work room ws x c ≡ former_critical_work room ws x c
  critical-same room x = ap (work _ 0) (tab-same _ _ c.nodes (λ j l. ap (λ (b : Bool). choose b 1 0) (a.critical x j l)))

  text_same : (xs : List ℕ)
      → grading_text c (mark ws c xs) (tally ws c xs) (marked ws c xs) (total ws c)
      ≡ grading_text c (direct_mark ws c xs) (direct_tally ws c xs) (direct_marked ws c xs) (total ws c)
  text_same xs = rw (a.counted xs, fun_ext (a.marks xs), fun_ext (a.tallies xs))

  grade-same : (marks tallies : ℕ) (xs : List ℕ) → grade_work marks tallies ws xs c ≡ former_grade_work marks tallies ws xs c
  grade-same marks tallies xs = rw (a.counted xs, fun_ext (a.marks xs), fun_ext (a.tallies xs))

accepted-same : (a : Answer) (f f' : Counts → List ℕ) → ((c : Counts) → a ≡ Ok c → f c ≡ f' c) → if_accepted a f ≡ if_accepted a f'
accepted-same (Ok c) f f' same = same c refl
accepted-same (Err r) f f' same = refl

all-before : (ws : List ℕ) (extra : ℕ) → NoneInverted ws → {c : Counts} → checked_with ws extra ≡ Ok c → AsBefore ws c
all-before ws extra none {c} e = direct-as-before (check-accepts ws extra c e).shape (none-direct ws extra e none)

module _ (card : Lent) (none : NoneInverted card.words) where
  opens-same : lent_check card ≡ former_lent_check card
  opens-same = check-as-before card.words card.extra none

  -- a call whose work on such a card is the former one
  call_same : (form : Counts → Verdict) (f f' : Counts → Work) → ((c : Counts) → AsBefore card.words c → f c ≡ f' c)
      → outcome (opened (lent_check card) form) f ≡ outcome (opened (former_lent_check card) form) f'
  unfolding outcome
  call_same form f f' same =
      following-same (opened (lent_check card) form) _ _ (λ c e.
      ap (λ (w : Work). outcome_by (first_broken w.tests) w) (same c (all-before card.words card.extra none (opened-accepted (lent_check card) form e).0)))
      ∙ ap (λ (a : Answer). outcome (opened a form) f') opens-same

  printed-same : (xs : List ℕ) → graded_text card.words xs ≡ former_text card.words xs
  unfolding graded_text
  printed-same xs =
      rw (← check-as-before card.words 0 none)
      (accepted-same (checked_with card.words 0) _ _ (λ c e.
      ap (unless_broken (list_verdict c.inputs xs)) (text_same (all-before card.words 0 none e) xs)))

  -- THE CALLS
  pub calls-as-before : CallsAsBefore card
  calls-as-before = record {
    check = λ room. ap (λ (a : Answer). outcome a (check_work room)) opens-same;
    good = λ v room. call_same _ _ _ (λ c a. values_same a (good_tests room) good v.words);
    faults = λ v fs room. call_same _ _ _ (λ c a. values_same a (fault_tests fs.extra fs.words room) (faulty fs.words) v.words);
    changes = λ v g room. call_same _ _ _ (λ c a. change-same a g room v.words);
    critical = λ v room. call_same _ _ _ (λ c a. critical-same a room v.words);
    grading = λ v marks tallies. call_same _ _ _ (λ c a. grade-same a marks tallies v.words);
    printed = printed-same;
  }

-- so of every card that is accepted and has no inverted read, and of every card that was accepted
pub direct-calls : (card : Lent) {c : Counts} → lent_check card ≡ Ok c → Direct card.words c → CallsAsBefore card
direct-calls card e d = calls-as-before card (direct-none card.words card.extra e d)

pub former-calls : (card : Lent) {c : Counts} → former_lent_check card ≡ Ok c → CallsAsBefore card
former-calls card e = let (now, d) = accepted-before card.words card.extra e in direct-calls card now d
