-- What an opened grading that passes its tests knows. Assumes nothing.
use Prim.Native.Nat.{ℕ, ◌≤◌}
use mathlib.Core.Path.{◌≡◌}
use mathlib.Core.List.{List}
use native.Mathlib.Omega.{arith}
use Rattle.answers.specs.declared.Counts.{Counts}
use Rattle.std.specs.Prelude.{Ok}
use Rattle.answers.specs.Tests.{first_broken, room_tests}
use Rattle.answers.specs.Calls.{Lent}
use Rattle.answers.proofs.Tests.{rooms-enough}
use Rattle.testvectors.specs.Vectors.{list_verdict}
use Rattle.testvectors.proofs.Laws.{list-long}
use Rattle.opening.specs.Opened.{opened_list}
use Rattle.opening.proofs.Laws.{lent-accepted, lent-sound}
use Rattle.grade.specs.Calls.{grade_tests}
use Rattle.grade.specs.Graded.{CardWithList}

-- its card and its list
pub card-with-list : (card v : Lent) {c : Counts} → opened_list card v ≡ Ok c → CardWithList card.words c v.words
card-with-list card v {c} e =
    let a = lent-accepted list_verdict card v e in
    let l = list-long c.inputs v.words a.some-input (lent-sound list_verdict card v e) in
    record { shape = a.shape; some-input = a.some-input; whole = l.0; few = l.1 }

-- a card has at most 10,240 faults
pub few-faults : {ws xs : List ℕ} {c : Counts} → CardWithList ws c xs → c.faults ≤ 10240
few-faults y = let s = y.shape in omega (arith, s.all-faults, s.few-nodes, s.few-graphs)

-- its room
pub grade-room : (marks tallies : ℕ) (c : Counts) → first_broken (grade_tests marks tallies c) ≡ Ok tt → (c.faults ≤ marks) × (c.faults ≤ tallies)
unfolding grade_tests room_tests
grade-room marks tallies c e = rooms-enough c.faults marks tallies e
