use native.Mathlib.Omega.{arith}
use Rattle.layout.proofs.NodeNumbers.{walkable}
use Rattle.critical.proofs.WalkEnd.{all_listed}
use Rattle.critical.proofs.Steps.{skipped}
use borrow.Author.Rules.{rules}
use Rattle.critical.proofs.stopped_walk.Goals as goal

pub returns-then-c-h : goal.returns-then-c-h
returns-then-c-h c =
    let a = c.requires.0.ready.shape in
    let inv = c.loop-c.invariant in (
      omega (arith, inv.0, inv.1),
      λ x s. all_listed a x _ c.requires.1 (skipped a (inv.5 x (c.begin.ensures.2 _ x c.requires.0 c.requires.2 s)) c.next-h.ensures _ inv.1 c.if-c-h.true (omega arith)),
      inv.3,
    )

pub is_last-requires : goal.is_last-requires
is_last-requires c =
    walkable c.requires.0.ready (omega (arith, c.if-c-h.false))

pub returns-then-is_last : goal.returns-then-is_last
returns-then-is_last c =
    let a = c.requires.0.ready.shape in
    let inv = c.loop-c.invariant in
    let r = c.step-m.ensures in (
      omega (arith, r.0, c.if-c-h.false),
      λ x s.
          let w = skipped a (inv.5 x (c.begin.ensures.2 _ x c.requires.0 c.requires.2 s)) c.next-h.ensures _ c.next-h.ensures.onward (omega arith) (omega (arith, c.if-c-h.false)) in
          (r.3 x _ w).seen (rw c.is_last.ensures at c.if-is_last.true),
      r.1,
    )

pub loop-c-preserved : goal.loop-c-preserved
loop-c-preserved c =
    let a = c.requires.0.ready.shape in
    let inv = c.loop-c.invariant in
    let r = c.step-m.ensures in (
      r.0,
      omega (arith, c.if-c-h.false),
      search rules,
      r.1,
      r.2 (rw c.is_last.ensures at c.if-is_last.false),
      λ x s.
          let w = skipped a (inv.5 x s) c.next-h.ensures _ c.next-h.ensures.onward (omega arith) (omega (arith, c.if-c-h.false)) in
          (r.3 x _ w).goes (rw c.is_last.ensures at c.if-is_last.false),
    )
