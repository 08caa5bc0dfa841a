-- `nodecheck::name_exit` meets its contract. Assumes nothing.
use Rattle.nodecheck.proofs.Table.{name-none, name-one}
use Rattle.nodecheck.proofs.name_exit.Goals as goal

pub returns-then-e-le1 : goal.returns-then-e-le1
returns-then-e-le1 c = name-none _ _ c.if-e-le1.true

pub returns : goal.returns
returns c = name-one _ _ c.if-e-le1.false
