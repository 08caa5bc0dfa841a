-- `nodecheck::read_exits` meets its contract. Assumes nothing.
use mathlib.Core.Path.{sym, ◌∙◌}
use borrow.Author.Tests.{le-leb}
use Rattle.reader.proofs.Laws.{due-word, due-end}
use Rattle.form.specs.Check.{exits_verdict}
use Rattle.nodecheck.specs.Table.{exits_told}
use Rattle.nodecheck.proofs.read_exits.Goals as goal

pub returns-in-Ok : goal.returns-in-Ok
returns-in-Ok c = λ ws p e.
    let (h, has, at) = due-word ws p _ _ (sym e ∙ c.in-Ok.is) in
    rw (← has, ← at) (c.word_as_exits.ensures ws (rw at h) (rw at has))

pub returns-in-Err : goal.returns-in-Err
unfolding exits_verdict exits_told
returns-in-Err c = λ ws p e.
    let (h, len) = due-end ws p _ (sym e ∙ c.in-Err.is) in
    rw (le-leb _ _ h, len)
