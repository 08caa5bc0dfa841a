-- `word32::bytes_of` meets its contract. The invariant: the bytes of the first i words are in, and the others as they were. Assumes nothing.
use mathlib.Core.Path.{◌≡◌}
use Prim.Native.Nat.{◌*◌}
use Rattle.lists.specs.Tables.{over}
use Rattle.word32.specs.Bytes.{byte_of}
use Rattle.word32.proofs.bytes_of.Given as goal

abbrev pub invariant-loop-i : goal.invariant-loop-i
invariant-loop-i l = l.out ≡ over (l.i * 4) (byte_of l.words) l.initial.out
