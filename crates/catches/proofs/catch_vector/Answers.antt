use Rattle.std.proofs.Common.{◌≡◌, ◌+◌, ◌-◌, refl, rules, arith}
use Rattle.testvectors.proofs.Laws.{wide}
use Rattle.change.proofs.Laws.{own-bit, values-copied}
use Rattle.catches.proofs.Words.{detections-none}
use Rattle.catches.proofs.Steps.{swept-bits}
use Rattle.catches.proofs.catch_vector.Goals as goal

pub sweep-requires : goal.sweep-requires
sweep-requires c =
    (c.requires.0.ready, wide _ _ c.requires.1, c.requires.2.values-long)

pub loop-g-init : goal.loop-g-init
loop-g-init c =
    record {
      flat = values-copied _ c.sweep.ensures (omega (arith, c.requires.2.walk-long, c.requires.0.ready.shape.few-graphs)) c.copy_values.ensures;
      detections = detections-none c.requires.2.caught-long;
    }

pub catch_graph-requires : goal.catch_graph-requires
catch_graph-requires c =
    let a = c.requires.0.ready.shape in
    let i = c.loop-g.invariant in
    (c.requires.0, swept-bits a c.sweep.ensures, omega (arith, c.loop-g.auto.g), search rules, own-bit a _ _ i.flat (omega (arith, c.loop-g.auto.g)) refl, i.detections.long)

pub loop-g-preserved : goal.loop-g-preserved
loop-g-preserved c =
    let e : c.loop-g.g - 1 + 1 ≡ c.loop-g.g = omega arith in
    c.catch_graph.ensures _ c.sweep.ensures (rw e c.loop-g.invariant)
