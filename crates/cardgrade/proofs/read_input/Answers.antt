-- What `cardgrade::read_input` read of a reader whose bytes are known: by its first read, and by the second where there was one. Assumes nothing.
use Rattle.std.proofs.Common.{rules}
use Rattle.cardgrade.proofs.Whole.{had, at-start}
use Rattle.cardgrade.proofs.read_input.Goals as goal

pub returns-in_err-source-clause-first : goal.returns-in_err-source-clause-first
returns-in_err-source-clause-first g c =
    let first = had _ _ _ _ (c.in_err-source.ensures.front _ (at-start _ _ _ c.start.ensures.0 c.start.ensures.1)) in search (rules, first)

pub returns-then-handed-lt4-clause-first : goal.returns-then-handed-lt4-clause-first
returns-then-handed-lt4-clause-first g c = had _ _ _ _ (c.in_ok-source.ensures.front _ (at-start _ _ _ c.start.ensures.0 c.start.ensures.1))

pub returns-clause-first : goal.returns-clause-first
returns-clause-first g c =
    had _ _ _ _ (c.read_on-2.ensures.front _ (c.in_ok-source.ensures.front _ (at-start _ _ _ c.start.ensures.0 c.start.ensures.1)))
