use Rattle.gatewords.proofs.Written.{drawing-start, line-asks, line-drawn, all-drawn}
use Rattle.gatewords.proofs.write_card.Goals as goal

pub loop-line-init : goal.loop-line-init
loop-line-init c = drawing-start _ _ _

pub put_line-requires : goal.put_line-requires
put_line-requires c =
    let p = c.requires in
    line-asks _ _ _ p.0 c.loop-line.invariant c.loop-line-test.true p.1

pub loop-line-preserved : goal.loop-line-preserved
loop-line-preserved c =
    line-drawn _ _ _ c.requires.0 c.loop-line.invariant c.loop-line-test.true c.put_line.auto.out c.put_line.ensures
    c.get.ensures c.node_count-leads.ensures

pub returns : goal.returns
returns c = all-drawn _ _ _ c.requires.0 c.loop-line.invariant c.loop-line-test.false
