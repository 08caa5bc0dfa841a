-- `VectorList::length` meets its contract. Assumes nothing.
use mathlib.Core.Path.{sym}
use Rattle.testvectors.proofs.Lists.{bytes-long}
use Rattle.testvectors.proofs.VectorList.length.Goals as goal

pub returns-in-Bytes : goal.returns-in-Bytes
returns-in-Bytes c = rw c.in-Bytes.is (sym (bytes-long _))
