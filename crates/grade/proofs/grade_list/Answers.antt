-- `grade::grade_list` meets its contract. Assumes nothing.
use Rattle.grade.proofs.Graded.{graded-none, graded-begun}
use Rattle.grade.proofs.grade_list.Goals as goal

pub take_list-requires : goal.take_list-requires
take_list-requires c =
    let begun = c.begin-start.ensures in
    (c.requires.0, c.requires.1, begun.vector, begun.counted _, graded-none _ _ begun.marks begun.tallies)

pub returns : goal.returns
returns c =
    graded-begun c.begin-start.ensures c.requires.2 c.requires.3 c.take_list.ensures
