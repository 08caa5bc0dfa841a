-- `VectorList::word` meets its contract. Assumes nothing.
use mathlib.Core.Path.{◌∙◌}
use native.Mathlib.Omega.{arith}
use Rattle.testvectors.proofs.Lists.{bytes-long, bytes-at}
use Rattle.testvectors.proofs.VectorList.word.Goals as goal

pub word_at-requires : goal.word_at-requires
word_at-requires c =
    let h = rw c.in-Bytes.is at c.requires in
    omega (arith, bytes-long c.in-Bytes.bytes.now, h)

pub returns-in-Bytes : goal.returns-in-Bytes
returns-in-Bytes c =
    let h = rw c.in-Bytes.is at c.requires in
    rw c.in-Bytes.is (c.word_at.ensures ∙ bytes-at _ _ h)
