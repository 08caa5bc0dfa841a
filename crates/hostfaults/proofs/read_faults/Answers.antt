-- `hostfaults::read_faults` meets its contract. Assumes nothing.
use Rattle.hostfaults.proofs.Laws.{few-read, many_read}
use Rattle.hostfaults.proofs.read_faults.Goals as goal

pub returns-then-faults-lt9 : goal.returns-then-faults-lt9
returns-then-faults-lt9 c =
    few-read _ c.requires c.read_words-n.ensures c.if-faults-lt9.true

pub returns : goal.returns
returns c =
    many_read _ c.requires c.read_words-n.ensures c.if-faults-lt9.false c.highest.ensures
