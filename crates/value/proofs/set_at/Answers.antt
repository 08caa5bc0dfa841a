-- `value::set_at` meets its contract: the fault found is the first of the list at the site. Assumes nothing.
use Rattle.std.proofs.Common.{rules, tests, ◌/◌, eqb}
use Rattle.std.proofs.lemmas.Iterator.{YieldsList-from_slice}
use Rattle.std.proofs.lemmas.Iterator.Search.{find_from_yields_List}
use Rattle.value.proofs.Settings.{faulty-find}
use Rattle.value.proofs.set_at.Goals as goal

pub returns-in-Some : goal.returns-in-Some
returns-in-Some c =
    let e = find_from_yields_List (λ f. eqb (f / 2) c.args.site) _ _ c.find.result c.find.ensures.ran (YieldsList-from_slice c.args.faults.now cc) (λ x b q k. search (rules, tests)) in
    let s = rw c.in-Some.is at e in
    rw (← faulty-find c.args.faults.now c.args.site c.args.v, ← s)

pub returns-in-None : goal.returns-in-None
returns-in-None c =
    let e = find_from_yields_List (λ f. eqb (f / 2) c.args.site) _ _ c.find.result c.find.ensures.ran (YieldsList-from_slice c.args.faults.now cc) (λ x b q k. search (rules, tests)) in
    let s = rw c.in-None.is at e in
    rw (← faulty-find c.args.faults.now c.args.site c.args.v, ← s)
