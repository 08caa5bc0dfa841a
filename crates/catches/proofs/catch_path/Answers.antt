use mathlib.Core.Path.{refl}
use native.Mathlib.Omega.{arith}
use Rattle.layout.proofs.NodeNumbers.{walkable, node-inside, read_below, node-number-below, exit-later, exit_below}
use Rattle.catches.proofs.ActivePath.{path-first}
use Rattle.catches.proofs.Steps.{caught-word, read-bit, path-ends, path-goes}
use borrow.Author.Rules.{rules}
use Rattle.catches.proofs.catch_path.Goals as goal

pub loop-c-init : goal.loop-c-init
loop-c-init c =
    (c.requires.3, refl, λ x p q s. (s, path-first c.requires.0.shape x _ c.requires.2 c.requires.3))

pub overflow_add-j : goal.overflow_add-j
overflow_add-j c =
    omega (arith, node-inside (walkable c.requires.0 c.requires.2) c.loop-c.invariant.0 c.first_node-first.ensures)

pub decision-d-requires : goal.decision-d-requires
decision-d-requires c =
    let y = walkable c.requires.0 c.requires.2 in
    let f = c.first_node-first.ensures in
    (omega (arith, node-inside y c.loop-c.invariant.0 f), omega (arith, read_below y c.loop-c.invariant.0 f, c.requires.2, c.requires.1.long))

pub caught_there-v-requires : goal.caught_there-v-requires
caught_there-v-requires c =
    let l = c.loop-c.invariant.0 in
    let f = c.first_node-first.ensures in
    (node-inside (walkable c.requires.0 c.requires.2) l f, read-bit c.requires.0 c.requires.1 c.requires.2 l f c.decision-d.ensures, λ b e. omega (arith, exit_below c.requires.0 c.requires.2 l f b refl e, c.requires.1.long))

pub exit_at-e-requires : goal.exit_at-e-requires
exit_at-e-requires c =
    node-inside (walkable c.requires.0 c.requires.2) c.loop-c.invariant.0 c.first_node-first.ensures

pub put-requires : goal.put-requires
put-requires c =
    omega (arith, node-number-below c.requires.0 c.requires.2 c.loop-c.invariant.0 c.first_node-first.ensures, c.requires.4, c.loop-c.invariant.1)

pub returns-then-e-lt2 : goal.returns-then-e-lt2
returns-then-e-lt2 c =
    λ x p q s.
    let i = c.loop-c.invariant.2 x p q s in
    path-ends c.requires.0 p c.requires.2 c.loop-c.invariant.0 c.first_node-first.ensures q i.0 i.1 (omega (arith, c.requires.4, c.loop-c.invariant.1)) c.decision-d.ensures (caught-word _ _ c.caught_there-v.ensures c.unwrap_or.ensures) c.put.ensures c.exit_at-e.ensures c.if-e-lt2.true

pub loop-c-smaller : goal.loop-c-smaller
loop-c-smaller c =
    let n = exit-later (walkable c.requires.0 c.requires.2) c.loop-c.invariant.0 c.first_node-first.ensures c.decision-d.result c.exit_at-e.ensures c.if-e-lt2.false in
    omega (arith, n.0, n.1)

pub loop-c-preserved : goal.loop-c-preserved
loop-c-preserved c =
    let n = exit-later (walkable c.requires.0 c.requires.2) c.loop-c.invariant.0 c.first_node-first.ensures c.decision-d.result c.exit_at-e.ensures c.if-e-lt2.false in (
      n.1,
      search rules,
      λ x p q s.
          let i = c.loop-c.invariant.2 x p q s in
          let m = path-goes c.requires.0 p c.requires.2 c.loop-c.invariant.0 c.first_node-first.ensures q i.0 i.1 (omega (arith, c.requires.4, c.loop-c.invariant.1)) c.decision-d.ensures (caught-word _ _ c.caught_there-v.ensures c.unwrap_or.ensures) c.put.ensures c.exit_at-e.ensures c.if-e-lt2.false in
          (m.2, m.3),
    )
