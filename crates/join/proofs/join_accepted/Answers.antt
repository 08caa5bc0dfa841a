-- `join::join_accepted` meets its contract. Assumes nothing.
use mathlib.Core.Path.{◌≡◌, refl}
use Rattle.std.specs.Prelude.{Err}
use Rattle.std.proofs.Common.{rules}
use Rattle.answers.specs.Calls.{lends}
use Rattle.answers.proofs.Ends.{breaks, finishes}
use Rattle.join.proofs.Laws.{both-within-limits, tests-told, words-fit, words-ask}
use Rattle.join.proofs.join_accepted.Goals as goal

pub test_wires-requires : goal.test_wires-requires
test_wires-requires c = let p = c.requires in both-within-limits p.0 p.1

pub returns-in_err-test_wires : goal.returns-in_err-test_wires
returns-in_err-test_wires c =
    let up : c.from_residual.result ≡ Err c.in_err-test_wires.field-0.0 = search rules in
    let a = c.args in
    rw up (breaks _ _ _ _ refl
    (tests-told (lends a.wires) a.room c.requires.0 c.requires.1 c.test_wires.ensures c.in_err-test_wires.was))

pub write_joined-n-requires : goal.write_joined-n-requires
write_joined-n-requires c =
    let p = c.requires in
    let a = c.args in
    let k = words-ask (lends a.wires) a.room p.0 p.1 c.test_wires.ensures c.in_ok-test_wires.was p.2 in
    (p.0, p.1, k.0, k.1, k.2)

pub returns : goal.returns
returns c =
    let p = c.requires in
    let wires = lends c.args.wires in
    let room = c.args.room in
    let t = c.test_wires.ensures in
    let q = c.in_ok-test_wires.was in
    let o = c.write_joined-n.ensures in
    finishes _ _ _ _ refl (tests-told wires room p.0 p.1 t q) o.0
    (record { count = o.0; fits = words-fit wires room p.0 p.1 t q; buffer = o.1 })
