-- A reader may stop after 9,217 words of either card and 1,025 of the wires: they tell the call all. And where its refusals stand. Assumes nothing.
use Prim.Native.Nat.{ℕ, ◌≤◌}
use mathlib.Core.Path.{◌≡◌, sym, ap, subst, ◌∙◌}
use native.Mathlib.Omega.{arith}
use native.Mathlib.Decide.{dec_le}
use lib.ListN.{length, length-take}
use lib.Seq.{length-take-le, take_all}
use Rattle.lists.proofs.Counting.{least-le}
use Rattle.answers.specs.declared.Counts.{Counts}
use Rattle.std.specs.Prelude.{Ok}
use Rattle.answers.specs.Tests.{first_broken}
use Rattle.answers.specs.Calls.{Lent, Outcome, Work, outcome_by, outcome}
use Rattle.answers.specs.Ends.{Stands, clip}
use Rattle.answers.proofs.Tests.{not_sound}
use Rattle.answers.proofs.Calls.{outcome-same, following-same}
use Rattle.answers.proofs.Positions.{outcome-stands, following-stands}
use Rattle.form.specs.Check.{lent_check}
use Rattle.form.proofs.Checked.{check-accepts, some-inputs}
use Rattle.form.proofs.Positions.{check-low, check-position}
use Rattle.form.proofs.Clip.{check-clip, accepted-clip}
use Rattle.wiring.specs.Joined.{wrong_wire, join_tests}
use Rattle.wiring.specs.Calls.{counted_on}
use Rattle.wiring.proofs.Calls.{on-accepted, on-low}
use Rattle.join.specs.Calls.{join_work, join_outcome}
use Rattle.join.proofs.Laws.{wires-other}

-- two accepted cards: more wire words than a card has inputs are told alike, whatever their number, and fewer are all read
module _ (a b wires : Lent) (room : ℕ) {A B : Counts} (ea : lent_check a ≡ Ok A) (eb : lent_check b ≡ Ok B) where
  few : B.inputs ≤ 1024
  few = (some-inputs (check-accepts _ _ _ eb)).1

  abbrev read : Work
  read = join_work (clip 9217 a) (clip 9217 b) (clip 1025 wires) room A B

  abbrev all : Work
  all = join_work a b wires room A B

  read_same : length wires.words ≤ 1025 → read ≡ all
  read_same l = rw (accepted-clip a ea, accepted-clip b eb, take_all 1025 wires.words l)

  tests_same : first_broken read.tests ≡ first_broken all.tests
  tests_same = elim (dec_le (length wires.words) 1025) [
    | yes l ↦ ap (λ (w : Work). first_broken w.tests) (read_same l)
    | no m ↦
        sym (wires-other A B (clip 1025 wires) _ room (λ e. omega (arith, few, length-take-le 1025 wires.words (omega arith))))
        ∙ wires-other A B wires _ room (λ e. omega (arith, few))
  ]

  came_same : first_broken all.tests ≡ Ok tt → outcome_by (Ok tt) read ≡ outcome_by (Ok tt) all
  came_same s = elim (dec_le (length wires.words) 1025) [
    | yes l ↦ ap (outcome_by (Ok tt)) (read_same l)
    | no m ↦ absurd (not_sound _ (wires-other A B wires _ room (λ e. omega (arith, few)) ∙ s))
  ]

pub join-clip : (a b wires : Lent) (room : ℕ) → join_outcome (clip 9217 a) (clip 9217 b) (clip 1025 wires) room ≡ join_outcome a b wires room
join-clip a b wires room =
    rw (check-clip a, check-clip b) (following-same (lent_check a) _ _ (λ A ea.
    let second : ℕ → Outcome = λ n. outcome (counted_on n (lent_check b)) (join_work (clip 9217 a) (clip 9217 b) (clip 1025 wires) room A) in
    ap second (ap length (accepted-clip a ea))
    ∙ outcome-same (counted_on (length a.words) (lent_check b)) _ (join_work a b wires room A)
    (λ B q. tests_same a b wires room ea (on-accepted _ _ q)) (λ B q s. came_same a b wires room ea (on-accepted _ _ q) s)))

-- WHERE REFUSALS STAND: of B after A's words, which are few, and a wrong wire at its own number
read-stands : (a b wires : Lent) (room : ℕ) → length wires.words ≤ 1025 → Stands (join_outcome a b wires room).reply
unfolding join_tests
read-stands a b wires room few =
    following-stands (lent_check a) _ (check-low a.words a.extra) (λ A e.
    let x = check-accepts _ _ _ e in
    outcome-stands (counted_on (length a.words) (lent_check b)) (join_work a b wires room A)
    (on-low _ _ (lent_check b) (λ r q. omega (arith, check-position b.words b.extra q, x.long, x.shape.few-graphs, x.shape.few-nodes)))
    (λ B. (omega arith, (omega arith, (omega (arith, least-le (wrong_wire A.graphs wires.words) (length wires.words)), (omega arith, (omega arith, tt)))))))

pub join_stands : (a b wires : Lent) (room : ℕ) → Stands (join_outcome a b wires room).reply
join_stands a b wires room =
    subst (λ (o : Outcome). Stands o.reply) (join-clip a b wires room)
    (read-stands (clip 9217 a) (clip 9217 b) (clip 1025 wires) room (omega (arith, length-take 1025 wires.words)))
