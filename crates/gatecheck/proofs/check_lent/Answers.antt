-- `gatecheck::check_lent` meets its contract. Assumes nothing.
use mathlib.Core.Path.{◌∙◌}
use native.Mathlib.Omega.{arith}
use Rattle.gatecheck.proofs.Turns.{too_long, not-long}
use Rattle.gatecheck.proofs.check_lent.Goals as goal

pub returns-then-gates-gt-MAX_WORDS : goal.returns-then-gates-gt-MAX_WORDS
returns-then-gates-gt-MAX_WORDS c = too_long _ _ (omega (arith, c.if-gates-gt-MAX_WORDS.true))

pub returns : goal.returns
returns c = c.check_lines.ensures ∙ not-long _ _ (omega (arith, c.if-gates-gt-MAX_WORDS.false))
