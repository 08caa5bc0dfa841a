-- `gatewords::write_card` meets its contract. The invariant is `Drawing`: the words of some lines are in the front of the buffer. Assumes nothing.
use Rattle.gatewords.proofs.Written.{Drawing}
use Rattle.gatewords.proofs.write_card.Given as goal

abbrev pub invariant-loop-line : goal.invariant-loop-line
invariant-loop-line l = Drawing l.gates l.c l.initial.out l.out l.line l.leads
