-- `report::wanted` meets its contract. Assumes nothing.
use Rattle.report.proofs.Cases.{wanted-none, wanted-over, wanted-all}
use mathlib.Core.Path.{sym}
use native.Mathlib.Omega.{arith}
use Rattle.report.proofs.wanted.Goals as goal

pub returns-then-input-lt4 : goal.returns-then-input-lt4
returns-then-input-lt4 c = (sym (wanted-none _ c.if-input-lt4.true), omega arith, omega arith)

pub returns-then-n-gt-MAX_WORDS : goal.returns-then-n-gt-MAX_WORDS
returns-then-n-gt-MAX_WORDS c =
    (sym (wanted-over _ (rw c.word_at-n.ensures at c.if-n-gt-MAX_WORDS.true)), omega arith, omega arith)

pub returns : goal.returns
returns c =
    (rw c.word_at-n.ensures (sym (wanted-all _ c.if-input-lt4.false (rw c.word_at-n.ensures at c.if-n-gt-MAX_WORDS.false))), omega arith, omega arith)
