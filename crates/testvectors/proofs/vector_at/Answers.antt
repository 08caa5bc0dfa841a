-- `testvectors::vector_at` meets its contract. Assumes nothing.
use Prim.Native.Nat.{◌+◌, ◌-◌, ◌*◌}
use mathlib.Core.Path.{◌≡◌}
use native.Mathlib.Omega.{arith}
use Rattle.testvectors.proofs.Laws.{part-inside}
use Rattle.testvectors.specs.Vectors.{vector}
use Rattle.testvectors.proofs.vector_at.Goals as goal

pub overflow_mul-start : goal.overflow_mul-start
overflow_mul-start c = omega (arith, part-inside _ _ _ _ c.width-w.ensures c.requires.1)

pub overflow_add-result : goal.overflow_add-result
overflow_add-result c = omega (arith, part-inside _ _ _ _ c.width-w.ensures c.requires.1)

pub offset_bounds-list-start : goal.offset_bounds-list-start
offset_bounds-list-start c = omega (arith, part-inside _ _ _ _ c.width-w.ensures c.requires.1)

pub slice_bounds-result-end : goal.slice_bounds-result-end
slice_bounds-result-end c = omega (arith, part-inside _ _ _ _ c.width-w.ensures c.requires.1)

pub returns : goal.returns
unfolding vector
returns c =
    let start = c.args.t * c.width-w.result in
    let e : start + c.width-w.result - start ≡ c.width-w.result = omega arith in
    rw (e, c.width-w.ensures)
