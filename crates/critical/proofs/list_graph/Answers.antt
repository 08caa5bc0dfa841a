-- `critical::list_graph` meets its contract. Assumes nothing.
use Rattle.critical.proofs.Steps.{list-stores}
use Rattle.critical.proofs.list_graph.Goals as goal

pub returns : goal.returns
returns c =
    let d = c.note_due.ensures in
    list-stores _ _ _ c.requires.0 c.requires.1 c.requires.4 c.put.ensures c.put-2.ensures d.0 d.1
