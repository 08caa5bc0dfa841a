-- `joinwords::write_joined` meets its contract. Assumes nothing.
use Rattle.joinwords.proofs.Written.{kept-asks, parts-ask, joined-left}
use Rattle.joinwords.proofs.write_joined.Goals as goal

-- the inputs of a card are no more than a table has places
pub wired_inputs-wired-requires : goal.wired_inputs-wired-requires
wired_inputs-wired-requires c =
    let p = c.requires in
    let k = kept-asks p.0 p.1 p.2 p.3 c.count_free-free.ensures c.kept_inputs-kept.ensures.1 in
    (p.2, k.0, k.1)

pub write_parts-requires : goal.write_parts-requires
write_parts-requires c =
    let p = c.requires in
    parts-ask p.0 p.1 p.2 p.3 c.count_free-free.ensures c.kept_inputs-kept.ensures.1
    (rw p.3 at c.wired_inputs-wired.ensures.1) p.4

pub returns : goal.returns
returns c =
    let p = c.requires in
    let o = c.write_parts.ensures in
    joined-left p.0 p.1 p.2 p.3 c.count_free-free.ensures c.kept_inputs-kept.ensures.1
    (rw p.3 at c.wired_inputs-wired.ensures.1) c.args.out.now o.0 o.1
