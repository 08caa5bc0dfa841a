-- `critical::is_critical` meets its contract. Assumes nothing.
use Prim.Native.Nat.{◌+◌, ◌-◌}
use mathlib.Core.Path.{◌≡◌, ◌∙◌}
use native.Mathlib.Omega.{arith}
use Rattle.layout.proofs.NodeNumbers.{walkable}
use Rattle.critical.specs.Walking.{list_from}
use Rattle.critical.proofs.WalkEnd.{last-tells, listed-alone}
use borrow.Author.Rules.{rules}
use Rattle.critical.proofs.is_critical.Goals as goal

pub is_observable-requires : goal.is_observable-requires
is_observable-requires c =
    let w = c.stopped_walk-n.ensures.2 in
    let n = c.stopped_walk-n.result in
    let e : list_from + n - 1 ≡ list_from + (n - 1) = omega (arith, w.some) in
    walkable c.requires.0.ready (rw (c.get-last.ensures, e) (w.inside (n - 1) (omega (arith, w.some))))

pub returns : goal.returns
returns c =
    let a = c.requires.0.ready.shape in
    let w = c.stopped_walk-n.ensures in
    let n = c.stopped_walk-n.result in
    let e : list_from + n - 1 ≡ list_from + (n - 1) = omega (arith, w.2.some) in
    λ x p s.
    let t = w.1 x s in (
      c.is_observable.ensures ∙ last-tells a x _ t w.2.some (rw (← e) c.get-last.ensures),
      c.put_back.ensures _ p.graphs (listed-alone t (search rules)),
    )
