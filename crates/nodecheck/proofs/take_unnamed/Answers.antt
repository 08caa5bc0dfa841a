-- `nodecheck::take_unnamed` meets its contract. Assumes nothing.
use mathlib.Core.Path.{◌∙◌}
use borrow.Author.Rules.{rules}
use Rattle.nodecheck.proofs.Table.{zero-unnamed, blank-again}
use Rattle.nodecheck.proofs.take_unnamed.Goals as goal

pub returns : goal.returns
returns c =
    let args = c.args in
    record {
      verdict = λ ws p s. c.has_unnamed-unnamed.ensures ∙ zero-unnamed ws p args.n _ s;
      blank = λ z. rw c.fill.ensures (blank-again args.n _ (search rules) (search rules) z);
    }
