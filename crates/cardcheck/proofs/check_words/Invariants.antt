-- The reader goes on over the card's words. The answer from the place due on is the answer from the start, the reader stands at the place due, the graphs
-- read so far have the shape of an accepted card, and the table is blank.
use Rattle.std.proofs.Common.{◌≡◌, ◌-◌}
use Rattle.cardcheck.proofs.Graphs.{Going}
use Rattle.cardcheck.proofs.check_words.Given as goal

abbrev pub invariant-loop-h : goal.invariant-loop-h
invariant-loop-h l = (l.r.words.now ≡ l.card) × Going l.card l.extra l.c l.r.at l.table

abbrev pub decreases-loop-h : goal.decreases-loop-h
decreases-loop-h l = 1025 - l.c.graphs
