-- `faultlist::at_site` meets its contract. Assumes nothing.
use Prim.Native.Nat.{ℕ, ◌/◌}
use Rattle.std.proofs.Common.{◌∙◌, eqb, rules, Bool}
use Rattle.std.proofs.lemmas.Iterator.{YieldsList-from_slice}
use Rattle.std.proofs.lemmas.Iterator.Search.{any_from_yields_List}
use borrow.Author.Tests.{tests}
use Rattle.lists.proofs.Some.{some-any}
use Rattle.faultlist.specs.Faults.{at_site}
use Rattle.faultlist.proofs.at_site.Goals as goal

pub returns : goal.returns
unfolding at_site
returns c =
    let p : ℕ → Bool = λ f. eqb (f / 2) c.args.site in
    any_from_yields_List p _ _ c.any.result c.any.ensures.ran (YieldsList-from_slice c.args.faults.now cc) (λ x b q k. search (rules, tests))
    ∙ some-any p c.args.faults.now
