use mathlib.Core.Path.{◌≡◌, refl, sym, ◌∙◌}
use Rattle.std.specs.Prelude.{Err}
use Rattle.std.proofs.Common.{rules}
use Rattle.form.specs.Check.{counts}
use native.Mathlib.Omega.{arith}
use Rattle.gatecheck.proofs.Turns.{reading-start, few-lines, reading-over, reading-stop, reading-next}
use Rattle.gatecheck.proofs.check_lines.Goals as goal

pub loop-at-init : goal.loop-at-init
loop-at-init c =
    let none : c.default-c.result ≡ counts 0 0 0 0 = search rules in
    rw none (reading-start _ _)

pub check_line-requires : goal.check_line-requires
check_line-requires c =
    let y = c.loop-at.invariant in
    (y.here, c.loop-at-test.true, c.requires, y.leads)

pub returns-in_err-check_line : goal.returns-in_err-check_line
returns-in_err-check_line c =
    let up : c.from_residual.result ≡ Err c.in_err-check_line.field-0.0 = search rules in
    up ∙ sym (reading-stop c.loop-at.invariant c.loop-at-test.true (sym c.check_line.ensures ∙ c.in_err-check_line.was))

pub with_graph-c-requires : goal.with_graph-c-requires
with_graph-c-requires c = few-lines c.loop-at.invariant

pub loop-at-preserved : goal.loop-at-preserved
loop-at-preserved c =
    reading-next c.loop-at.invariant c.loop-at-test.true (sym c.check_line.ensures ∙ c.in_ok-check_line.was)
    c.get.ensures c.with_graph-c.ensures

pub overflow_add-at : goal.overflow_add-at
overflow_add-at c = let y = loop-at-preserved c in omega (arith, y.lines, y.leads)

pub loop-at-smaller : goal.loop-at-smaller
loop-at-smaller c = rw c.with_graph-c.ensures (omega (arith, c.loop-at.invariant.here))

pub returns : goal.returns
returns c = c.finish.ensures c.args.gates.now refl ∙ sym (reading-over c.loop-at.invariant (omega arith))
