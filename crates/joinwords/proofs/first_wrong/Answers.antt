-- `joinwords::first_wrong` meets its contract. Assumes nothing.
use Prim.Native.Nat.{ℕ}
use Rattle.std.proofs.Common.{◌∙◌, rules, Bool}
use Rattle.std.proofs.lemmas.Iterator.{YieldsList-from_slice}
use Rattle.std.proofs.lemmas.Iterator.Search.{position_from_yields_List}
use borrow.Author.Tests.{tests}
use Rattle.joinwords.specs.Numbers.{names_none}
use Rattle.joinwords.proofs.Laws.{first-found, place-or-end}
use Rattle.joinwords.proofs.first_wrong.Goals as goal

pub returns : goal.returns
returns c =
    let p : ℕ → Bool = names_none c.args.graphs in
    let w = c.args.wires.now in
    let e = position_from_yields_List p _ _ c.position.result c.position.ensures.ran (YieldsList-from_slice w cc) (λ x b q k. search (rules, tests)) in
    c.unwrap_or.ensures ∙ rw e (place-or-end p w) ∙ first-found p w
