-- `gatecheck::check_lines` meets its contract. The invariant is `Reading`: the lines before the place due are sound. Assumes nothing.
use Prim.Native.Nat.{◌-◌}
use lib.ListN.{length}
use Rattle.gatecheck.proofs.Turns.{Reading}
use Rattle.gatecheck.proofs.check_lines.Given as goal

abbrev pub invariant-loop-at : goal.invariant-loop-at
invariant-loop-at l = Reading l.gates l.extra l.c l.at

abbrev pub decreases-loop-at : goal.decreases-loop-at
decreases-loop-at l = length l.gates - l.at
