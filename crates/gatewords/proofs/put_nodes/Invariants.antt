-- `gatewords::put_nodes` meets its contract. The invariant: the words of k nodes follow the buffer's first words. Assumes nothing.
use mathlib.Core.Path.{◌≡◌}
use mathlib.Core.List.{◌++◌}
use lib.ListN.{take}
use Rattle.lists.specs.Tables.{chain, front}
use Rattle.gatelist.specs.Drawn.{lead_nodes}
use Rattle.gatewords.proofs.put_nodes.Given as goal

abbrev pub invariant-loop-k : goal.invariant-loop-k
invariant-loop-k l = l.out ≡ front (take l.at l.initial.out ++ chain (lead_nodes l.gates l.p l.w) l.k) l.initial.out
