-- `word32::exit0` meets its contract: its mask keeps 14 bits. Assumes nothing.
use borrow.Author.Rules.{rules}
use lib.Bits.{and_mask}
use Rattle.word32.proofs.Fields.{masked-fits}
use Rattle.word32.proofs.exit0.Goals as goal

pub overflow_cast-result : goal.overflow_cast-result
overflow_cast-result c = search (rules, masked-fits)

pub returns : goal.returns
returns c = and_mask _ 14
