-- `layout::decision` meets its contract. Assumes nothing.
use Rattle.layout.proofs.Firsts.{decided-same, decided-other}
use Rattle.layout.proofs.decision.Goals as goal

pub returns-then-get-read_inverted : goal.returns-then-get-read_inverted
returns-then-get-read_inverted c =
    let e = rw (c.read_inverted.ensures, c.get.ensures, c.read_graph.ensures, c.get-w.ensures) at c.if-get-read_inverted.true in
    λ h. decided-same _ _ h e

pub returns : goal.returns
returns c =
    let n = rw (c.read_inverted.ensures, c.get.ensures, c.read_graph.ensures, c.get-w.ensures) at c.if-get-read_inverted.false in
    λ h. decided-other _ _ h n
