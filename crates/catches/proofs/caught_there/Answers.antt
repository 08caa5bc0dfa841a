-- `catches::caught_there` meets its contract. Assumes nothing.
use Rattle.catches.proofs.caught_there.Goals as goal

pub exit_value-v1-requires : goal.exit_value-v1-requires
exit_value-v1-requires c = λ b. rw c.exit_at-2.ensures (c.requires.2 1 (rw c.exit_at-2.ensures at b))
