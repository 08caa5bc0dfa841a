-- `testvectors::count_vectors` meets its contract. Assumes nothing.
use Rattle.testvectors.proofs.Laws.{width_some}
use Rattle.testvectors.specs.Vectors.{vectors}
use Rattle.testvectors.proofs.count_vectors.Goals as goal

pub nonzero_div-result : goal.nonzero_div-result
nonzero_div-result c = rw c.width.ensures (width_some _ c.requires.0)

pub returns : goal.returns
unfolding vectors
returns c = rw c.width.ensures
