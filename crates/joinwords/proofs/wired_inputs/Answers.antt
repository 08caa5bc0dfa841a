use mathlib.Core.Path.{◌≡◌, sym, ap, ◌∙◌}
use native.Mathlib.Omega.{arith}
use native.Mathlib.Nat.{add-zero}
use lib.ListN.{length}
use Rattle.lists.proofs.Tables.{over_none, over-front, length_over}
use Rattle.joinwords.proofs.Laws.{free-none, free-few, wired-named, wired-free}
use Rattle.joinwords.proofs.wired_inputs.Goals as goal
use Rattle.joinwords.proofs.wired_inputs.Goals.{in-Some, in-None}

pub loop-i-init : goal.loop-i-init
loop-i-init c = (rw (free-none c.args.wires.now, add-zero), sym (over_none _ _))

pub overflow_cast-table-in-None : goal.overflow_cast-table-in-None
overflow_cast-table-in-None c = omega (arith, c.loop-i.invariant.0, free-few c.args.wires.now c.loop-i.i, c.requires.0.few, c.requires.2)

pub overflow_add-due : goal.overflow_add-due
overflow_add-due c = omega (arith, c.loop-i.invariant.0, free-few c.args.wires.now c.loop-i.i, c.requires.0.few, c.requires.2)

pub loop-i-preserved : goal.loop-i-preserved
loop-i-preserved c =
    let l = c.loop-i in
    elim c.match-wire_of.branch [
      | in-Some w ↦
          let (q, o) = wired-named _ _ _ l.i c.filled-table.result l.invariant.0 l.invariant.1 (omega arith) (sym c.wire_of.ensures ∙ w.in-Some.is) w.new_number.ensures in
          (w.due-is ∙ q, w.table-is ∙ o)
      | in-None w ↦
          let (q, o) = wired-free _ _ _ l.i c.filled-table.result l.invariant.0 l.invariant.1 (omega arith) (sym c.wire_of.ensures ∙ w.in-None.is) in
          (w.due-is ∙ q, w.table-is ∙ o)
    ]

pub returns : goal.returns
returns c =
    let l = c.loop-i in
    let e : l.i ≡ length c.args.wires.now = omega arith in
    let m : length l.table ≡ length c.filled-table.result =
    ap length l.invariant.1 ∙ length_over _ c.filled-table.result l.i (omega (arith, c.requires.0.few, c.filled-table.ensures.0)) in
    (omega (arith, m, c.filled-table.ensures.0), rw (l.invariant.1, e) (over-front _ _ (length c.args.wires.now)))
