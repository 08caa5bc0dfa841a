-- `critical::begin` meets its contract. Assumes nothing.
use Rattle.critical.proofs.Steps.{entry_first, hidden-first, walk-starts}
use borrow.Author.Rules.{rules}
use Rattle.critical.proofs.begin.Goals as goal

pub returns : goal.returns
returns c =
    let z = c.list_graph.ensures in
    let l = c.requires.0 in
    (entry_first l z, λ ws o. hidden-first o z, λ ws x y o s. walk-starts y x _ l o s c.clear.ensures.0 c.get-own.ensures z (search rules))
