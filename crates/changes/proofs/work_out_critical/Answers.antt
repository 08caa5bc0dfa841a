-- `changes::work_out_critical` meets its contract. Assumes nothing.
use Prim.Native.Nat.{ℕ}
use mathlib.Core.Path.{ap, ◌∙◌}
use mathlib.Core.Bool.{Bool}
use native.Mathlib.Omega.{arith}
use lib.Dec.{ltb}
use Rattle.lists.specs.Counting.{choose}
use Rattle.lists.proofs.Tables.{over-same}
use Rattle.catches.proofs.Caught.{critical-word}
use Rattle.catches.proofs.Detections.{detections-node}
use Rattle.changes.proofs.work_out_critical.Goals as goal

pub catch_vector-requires : goal.catch_vector-requires
catch_vector-requires c =
    let f = c.requires.0.few-graphs in
    let n = c.requires.0.few-nodes in (
      c.make_tables-tables.ensures,
      c.requires.1,
      record {
        values-long = omega (arith, f, n, c.filled-values.ensures.0);
        walk-long = omega (arith, c.filled-walk.ensures.0);
        caught-long = omega (arith, f, n, c.filled-caught.ensures.0);
      },
    )

pub flag_sites-requires : goal.flag_sites-requires
flag_sites-requires c =
    (omega (arith, c.catch_vector.ensures.long), c.requires.2)

pub returns : goal.returns
returns c =
    c.flag_sites.ensures ∙ over-same _ _ _ _ (λ j h.
    let t = detections-node c.requires.0 c.catch_vector.ensures j h in
    ap (λ (b : Bool). choose b 1 0) (ap (λ (n : ℕ). ltb n 2) t ∙ critical-word c.requires.0 _ j h))
