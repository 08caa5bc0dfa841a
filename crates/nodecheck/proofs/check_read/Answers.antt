-- `nodecheck::check_read` meets its contract. Assumes nothing.
use mathlib.Core.Path.{sym, ◌∙◌}
use borrow.Author.Tests.{le-leb}
use Rattle.reader.proofs.Laws.{due-word, due-end}
use Rattle.form.specs.Check.{read_verdict}
use Rattle.nodecheck.proofs.check_read.Goals as goal

pub returns-in-Ok : goal.returns-in-Ok
returns-in-Ok c = λ ws p e.
    let (h, has, at) = due-word ws p _ _ (sym e ∙ c.in-Ok.is) in
    rw (← at) (c.word_as_read.ensures ws (rw at h) (rw at has))

pub returns-in-Err : goal.returns-in-Err
unfolding read_verdict
returns-in-Err c = λ ws p e.
    let (h, len) = due-end ws p _ (sym e ∙ c.in-Err.is) in
    rw (le-leb _ _ h, len)
