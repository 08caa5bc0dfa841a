-- `cardcounts::put_counts` meets its contract. Assumes nothing.
use mathlib.Core.Path.{ap, ◌∙◌}
use mathlib.Core.List.{◌++◌}
use lib.ListN.{drop}
use Rattle.cardcounts.proofs.Counts.{five-put, five-copied}
use Rattle.cardcounts.proofs.put_counts.Goals as goal

pub returns : goal.returns
returns c =
    let d = c.args.numbers.now in
    ap (◌++ drop 5 d) c.copy_from_slice.ensures.after ∙ five-copied d _ _ _ _ _ c.requires.5 ∙ five-put d _ _ _ _ _ c.requires.5
