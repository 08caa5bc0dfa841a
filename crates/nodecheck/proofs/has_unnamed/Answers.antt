use Prim.Native.Nat.{◌-◌}
use mathlib.Core.Path.{◌≡◌, sym}
use native.Mathlib.Omega.{arith}
use Rattle.nodecheck.proofs.Table.{zero-none, zero-found, zero_more}
use Rattle.nodecheck.proofs.has_unnamed.Goals as goal

pub loop-i-init : goal.loop-i-init
loop-i-init c = (omega arith, zero-none _)

pub returns-then-table-i-eq0 : goal.returns-then-table-i-eq0
returns-then-table-i-eq0 c = sym (zero-found _ _ c.loop-i.i (omega arith) c.if-table-i-eq0.true)

pub loop-i-preserved : goal.loop-i-preserved
loop-i-preserved c = (omega arith, zero_more _ _ c.loop-i.invariant.1 c.if-table-i-eq0.false)

pub returns : goal.returns
returns c =
    let l = c.loop-i in
    let e : l.i ≡ c.args.n - 1 = omega arith in
    sym (rw e at l.invariant.1)
