-- `word32::word_at` meets its contract: its four bytes are those of `word_at`. Assumes nothing.
use borrow.Author.Rules.{rules}
use Rattle.word32.specs.Bytes.{word_at}
use Rattle.word32.proofs.word_at.Goals as goal

pub returns : goal.returns
unfolding word_at
returns c = search rules
