-- `faultlist::too_high` meets its contract. Assumes nothing.
use Rattle.std.proofs.Common.{◌∙◌, leb, rules}
use Rattle.std.proofs.lemmas.Iterator.{YieldsList-from_slice}
use Rattle.std.proofs.lemmas.Iterator.Search.{any_from_yields_List}
use borrow.Author.Tests.{tests}
use Rattle.lists.proofs.Some.{some-any}
use Rattle.faultlist.specs.Faults.{too_high}
use Rattle.faultlist.proofs.too_high.Goals as goal

pub returns : goal.returns
unfolding too_high
returns c =
    any_from_yields_List (leb c.args.count) _ _ c.any.result c.any.ensures.ran (YieldsList-from_slice c.args.faults.now cc) (λ x b q k. search (rules, tests))
    ∙ some-any (leb c.args.count) c.args.faults.now
