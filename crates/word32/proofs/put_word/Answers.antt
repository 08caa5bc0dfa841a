-- `word32::put_word` meets its contract: the four bytes copied are those of `set_word`. Assumes nothing.
use native.Mathlib.Omega.{arith}
use Rattle.word32.proofs.Bytes.{word-copied}
use Rattle.word32.proofs.put_word.Goals as goal

pub returns : goal.returns
returns c =
    rw (c.copy_from_slice.ensures.after, c.to_be_bytes.ensures) (word-copied c.args.b.now c.args.i c.args.w _ c.requires c.ranges.w.fits (omega arith))
