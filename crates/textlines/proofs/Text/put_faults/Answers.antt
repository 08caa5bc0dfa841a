use Rattle.std.proofs.Common.{arith}
use Rattle.textlines.proofs.Lines.{lines_none, lines_next}
use Rattle.textlines.proofs.Puts.{grew_none, grew_then}
use Rattle.textlines.proofs.Text.put_faults.Goals as goal

pub loop-f-init : goal.loop-f-init
loop-f-init c = record { few = omega arith; put = rw (lines_none _ _) (grew_none _ (omega arith)) }

pub loop-f-preserved : goal.loop-f-preserved
loop-f-preserved c =
    let inv = c.loop-f.invariant in
    let p = c.put_fault.ensures in record {
      few = omega (arith, p.1, inv.few);
      put = rw (← lines_next _ _ c.loop-f.f, ← c.get.ensures, ← c.get-in-loop-f.ensures) (grew_then inv.put p.0);
    }
