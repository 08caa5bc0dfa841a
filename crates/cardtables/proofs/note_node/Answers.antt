-- `cardtables::note_node` meets its contract. Assumes nothing.
use Rattle.layout.proofs.NodeNumbers.{read_at}
use Rattle.cardtables.proofs.Readers.{node-noted}
use borrow.Author.Rules.{rules}
use Rattle.cardtables.proofs.note_node.Goals as goal

pub returns : goal.returns
returns c =
    let q = c.graph_read-read.ensures in
    let w = c.sole_with.ensures in
    λ f k l e a d. node-noted _ k d c.requires.2 l e a (read_at _ _ k e q) (rw q c.requires.1) c.readers_of.ensures c.put.ensures.0 c.put.ensures.1
    (search rules) c.sole_reader-had.ensures w.0 w.1 c.put-2.ensures
