-- `gatecheck::check_line` meets its contract. Assumes nothing.
use mathlib.Core.Path.{◌≡◌, sym, ◌∙◌}
use Rattle.std.specs.Prelude.{Err}
use Rattle.std.proofs.Common.{rules}
use native.Mathlib.Omega.{arith}
use Rattle.gatelist.proofs.Sound.{header-few}
use Rattle.gatecheck.proofs.Turns.{line-stop, line-go}
use Rattle.gatecheck.proofs.check_line.Goals as goal

pub returns-in_err-check_header : goal.returns-in_err-check_header
returns-in_err-check_header c =
    let up : c.from_residual.result ≡ Err c.in_err-check_header.field-0.0 = search rules in
    let e = rw (c.get-w.ensures, c.requires.0) at c.check_header.ensures in
    let q = c.in_err-check_header.was in
    up ∙ sym q ∙ e ∙ line-stop _ _ (sym e ∙ q)

pub check_leads-requires : goal.check_leads-requires
check_leads-requires c =
    let few = header-few _ _ c.requires.3 (sym c.check_header.ensures ∙ c.in_ok-check_header.was) in
    omega (arith, c.node_count.ensures, few, c.requires.1, c.requires.2)

pub returns : goal.returns
returns c =
    let g = c.get-w.ensures in
    let e = rw (g, c.requires.0) at c.check_header.ensures in
    rw (c.node_count.ensures, g, c.requires.0) at c.check_leads.ensures ∙ line-go _ _ (sym e ∙ c.in_ok-check_header.was)
