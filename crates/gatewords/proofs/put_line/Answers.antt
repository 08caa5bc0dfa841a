-- `gatewords::put_line` meets its contract. Assumes nothing.
use native.Mathlib.Omega.{arith}
use lib.ListN.{get_or}
use Rattle.lists.specs.Tables.{chain}
use Rattle.word32.specs.Fields.{kind, lead_count, header_word}
use Rattle.gatelist.specs.Drawn.{lead_nodes, line_words}
use Rattle.gatewords.proofs.Written.{put_then}
use Rattle.gatewords.proofs.put_line.Goals as goal

pub returns-in-Some : goal.returns-in-Some
unfolding line_words
returns-in-Some c =
    let a = c.args in
    let w = get_or a.gates.now a.p 0 in
    put_then a.out.now a.at (header_word (kind w) (lead_count w)) (chain (lead_nodes a.gates.now a.p w) (lead_count w)) (omega (arith, c.requires.3))
    (rw (c.header_word.ensures, c.node_count.ensures, c.kind.ensures, c.get-w.ensures) at c.put_nodes.ensures)
