-- `testvectors::test_list` meets its contract. Assumes nothing.
use Rattle.testvectors.proofs.Laws.{width_some}
use Rattle.testvectors.proofs.test_list.Goals as goal

pub nonzero_rem-n : goal.nonzero_rem-n
nonzero_rem-n c = rw c.width-w.ensures (width_some _ c.requires.0)

pub nonzero_div-n : goal.nonzero_div-n
nonzero_div-n c = rw c.width-w.ensures (width_some _ c.requires.0)
