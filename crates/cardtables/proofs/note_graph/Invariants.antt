-- `cardtables::note_graph` meets its contract. The invariant: the nodes before the graph's node k are noted. Assumes nothing.
use Prim.Native.Nat.{ℕ, ◌+◌}
use Rattle.cardtables.specs.Tables.{ReadIn, Noted}
use Rattle.cardtables.proofs.note_graph.Given as goal

abbrev pub invariant-loop-k : goal.invariant-loop-k
invariant-loop-k l = (q : ℕ → ℕ) → ReadIn l.card q l.h → Noted l.card q l.first l.initial.tables → Noted l.card q (l.first + l.k) l.tables
