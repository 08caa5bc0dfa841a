-- `cardtables::note_readers` meets its contract. The invariant: the nodes of the graphs below h are noted. Assumes nothing.
use Rattle.layout.specs.Layout.{first}
use Rattle.cardtables.specs.Stems.{read_by}
use Rattle.cardtables.specs.Tables.{Noted}
use Rattle.cardtables.proofs.note_readers.Given as goal

abbrev pub invariant-loop-h : goal.invariant-loop-h
invariant-loop-h l = Noted l.card (read_by l.card l.fn.c) (first l.card l.h) l.tables
