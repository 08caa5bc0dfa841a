-- `cardcheck::check_lent` meets its contract. Assumes nothing.
use mathlib.Core.Path.{sym, ◌∙◌}
use native.Mathlib.Omega.{arith}
use Rattle.nodecheck.proofs.Table.{blank-filled}
use Rattle.cardcheck.proofs.Turns.{too_long, not-long}
use Rattle.cardcheck.proofs.check_lent.Goals as goal

pub returns-then-card-gt-MAX_WORDS : goal.returns-then-card-gt-MAX_WORDS
returns-then-card-gt-MAX_WORDS c = sym (too_long _ _ (omega (arith, c.if-card-gt-MAX_WORDS.true)))

pub check_words-requires : goal.check_words-requires
check_words-requires c = blank-filled c.filled-table.ensures.0 c.filled-table.ensures.1

pub returns : goal.returns
returns c =
    c.check_words.ensures ∙ sym (not-long _ _ (omega (arith, c.if-card-gt-MAX_WORDS.false)))
