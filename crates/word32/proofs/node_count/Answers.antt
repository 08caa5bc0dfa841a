-- `word32::node_count` meets its contract: its mask keeps 16 bits. Assumes nothing.
use borrow.Author.Rules.{rules}
use lib.Bits.{and_mask}
use Rattle.word32.proofs.Fields.{masked-fits}
use Rattle.word32.proofs.node_count.Goals as goal

pub overflow_cast-result : goal.overflow_cast-result
overflow_cast-result c = search (rules, masked-fits)

pub returns : goal.returns
returns c = and_mask _ 16
