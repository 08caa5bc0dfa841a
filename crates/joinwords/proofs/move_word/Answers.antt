-- `joinwords::move_word` meets its contract. Assumes nothing.
use Rattle.wiring.specs.Joined.{moved}
use Rattle.joinwords.proofs.move_word.Goals as goal

pub returns-then-not-is_kind : goal.returns-then-not-is_kind
unfolding moved
returns-then-not-is_kind c = rw (← c.is_kind.ensures, c.if-not-is_kind.true)

pub returns : goal.returns
unfolding moved
returns c =
    rw (← c.is_kind.ensures, c.if-not-is_kind.false, c.with_read.ensures, c.new_number.ensures, c.read_graph.ensures)
