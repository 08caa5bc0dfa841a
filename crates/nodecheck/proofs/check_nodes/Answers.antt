use Rattle.std.proofs.Common.{arith, refl, rules, ◌≡◌, ◌∙◌}
use Rattle.std.specs.Prelude.{Err}
use Rattle.nodecheck.proofs.Nodes.{begin, finished, bad-read, bad-exits, onward}
use Rattle.nodecheck.proofs.check_nodes.Goals as goal

pub loop-k-init : goal.loop-k-init
loop-k-init c = (refl, begin _ _ _ _ c.requires.0 _ _ (omega arith) c.requires.2)

pub returns-in_err-check_read : goal.returns-in_err-check_read
returns-in_err-check_read c =
    let up : c.from_residual.result ≡ Err c.in_err-check_read.field-0.0 = search rules in
    let due = rw c.loop-k.invariant.0 at c.next.ensures.0 in (
      rw up (bad-read _ _ _ _ c.requires.0 c.loop-k.invariant.1 c.loop-k-test.true _ due _ _ _ c.in_err-check_read.ensures),
      c.next.ensures.1.0 ∙ c.loop-k.invariant.0,
    )

pub returns-in_err-check_exits : goal.returns-in_err-check_exits
returns-in_err-check_exits c =
    let up : c.from_residual-in_err-check_exits.result ≡ Err c.in_err-check_exits.field-0.0 = search rules in
    let due = rw c.loop-k.invariant.0 at c.next.ensures.0 in
    let next = rw (c.next.ensures.1.1, c.next.ensures.1.0, c.loop-k.invariant.0) at c.next-in-loop-k.ensures.0 in (
      rw up
          (bad-exits _ _ _ _ c.requires.0 c.loop-k.invariant.1 c.loop-k-test.true _ due c.in_ok-check_read.ensures _ next _ _ _ (c.in_err-check_exits.ensures)),
      c.next-in-loop-k.ensures.1.0 ∙ c.next.ensures.1.0 ∙ c.loop-k.invariant.0,
    )

pub loop-k-preserved : goal.loop-k-preserved
loop-k-preserved c =
    let due = rw c.loop-k.invariant.0 at c.next.ensures.0 in
    let next = rw (c.next.ensures.1.1, c.next.ensures.1.0, c.loop-k.invariant.0) at c.next-in-loop-k.ensures.0 in
    let at = rw (c.next.ensures.1.1, c.next.ensures.1.0, c.loop-k.invariant.0) at c.next-in-loop-k.ensures.1.1 in (
      c.next-in-loop-k.ensures.1.0 ∙ c.next.ensures.1.0 ∙ c.loop-k.invariant.0,
      rw at (onward _ _ _ _ c.requires.0 c.loop-k.invariant.1 c.loop-k-test.true _ due c.in_ok-check_read.ensures _ next _ (c.in_ok-check_exits.ensures)),
    )

pub returns : goal.returns
returns c = (finished _ _ _ _ c.requires.0 c.loop-k.invariant.1 (omega arith), c.loop-k.invariant.0)
