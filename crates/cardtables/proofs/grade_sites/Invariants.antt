-- `cardtables::grade_sites` meets its contract. The invariant: the words of the sites below p are put, and those of the graphs stay. Assumes nothing.
use Rattle.cardtables.proofs.Stems.{GradedSites}
use Rattle.cardtables.proofs.grade_sites.Given as goal

abbrev pub invariant-loop-p : goal.invariant-loop-p
invariant-loop-p l = GradedSites l.card l.c l.p l.initial.tables l.tables
