-- `testvectors::width` meets its contract. Assumes nothing.
use mathlib.Core.Path.{refl}
use Rattle.testvectors.specs.Vectors.{width}
use Rattle.testvectors.proofs.width.Goals as goal

pub returns : goal.returns
unfolding width
returns c = refl
