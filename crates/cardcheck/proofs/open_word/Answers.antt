-- `cardcheck::open_word` meets its contract. Assumes nothing.
use mathlib.Core.Path.{◌≡◌, sym, ◌∙◌}
use Rattle.std.specs.Prelude.{Err}
use Rattle.std.proofs.Common.{rules}
use Rattle.cardcheck.specs.Graph.{opening_of}
use Rattle.cardcheck.proofs.open_word.Goals as goal

pub returns-in_err-check_header : goal.returns-in_err-check_header
unfolding opening_of
returns-in_err-check_header c =
    let up : c.from_residual.result ≡ Err c.in_err-check_header.field-0.0 = search rules in
    rw (up, sym c.check_header.ensures ∙ c.in_err-check_header.was)

pub returns : goal.returns
unfolding opening_of
returns c =
    rw (sym c.check_header.ensures ∙ c.in_ok-check_header.was, c.node_count-nodes.ensures)
