use Rattle.std.proofs.Common.{arith, refl, rules, ap, ◌≡◌, ◌∙◌}
use Rattle.std.specs.Prelude.{None, Ok, Err}
use Rattle.form.specs.Check.{counts}
use Rattle.cardcheck.proofs.Graphs.{begin, few, here, may-open, ends-now, stops-now, few-nodes, next-at, stops-then, refused-then, onward, nearer}
use Rattle.cardcheck.proofs.check_words.Goals as goal

pub loop-h-init : goal.loop-h-init
loop-h-init c =
    let none : c.default-c.result ≡ counts 0 0 0 0 = search rules in
    (ap (λ w. w.now) c.new-r.ensures.0, rw (c.new-r.ensures.1, none) (begin _ _ _ c.requires))

pub open_graph-requires : goal.open_graph-requires
open_graph-requires c = may-open _ _ c.loop-h.invariant.1 _ (rw c.loop-h.invariant.0 at c.next.ensures.0)

pub returns-in_err-h : goal.returns-in_err-h
returns-in_err-h c =
    let up : c.from_residual.result ≡ Err c.in_err-h.field-0.0 = search rules in
    let due = rw c.loop-h.invariant.0 at c.next.ensures.0 in
    up ∙ stops-now _ _ c.loop-h.invariant.1 _ due _ c.in_err-h.ensures _ refl

pub check_nodes-requires : goal.check_nodes-requires
check_nodes-requires c =
    let i = c.loop-h.invariant.1 in
    let due = rw c.loop-h.invariant.0 at c.next.ensures.0 in
    let o = c.in_ok-h.ensures.graph _ (here _ _ i _ due) _ (ap Ok c.in-Some.is) in
    let at = rw c.loop-h.invariant.0 at c.next.ensures.1.1 in
    (few-nodes _ _ i _ o, omega (arith, at, next-at _ _ i _ o), i.blanks)

pub returns-in_err-check_nodes : goal.returns-in_err-check_nodes
returns-in_err-check_nodes c =
    let up : c.from_residual-in_err-check_nodes.result ≡ Err c.in_err-check_nodes.field-0.0 = search rules in
    let i = c.loop-h.invariant.1 in
    let due = rw c.loop-h.invariant.0 at c.next.ensures.0 in
    let o = c.in_ok-h.ensures.graph _ (here _ _ i _ due) _ (ap Ok c.in-Some.is) in
    let told = rw (c.next.ensures.1.1, c.next.ensures.1.0, c.loop-h.invariant.0) at c.in_err-check_nodes.ensures.0 in
    up ∙ stops-then _ _ i _ o _ _ _ told _ refl

pub close_graph-requires : goal.close_graph-requires
close_graph-requires c =
    let i = c.loop-h.invariant.1 in
    let due = rw c.loop-h.invariant.0 at c.next.ensures.0 in
    let o = c.in_ok-h.ensures.graph _ (here _ _ i _ due) _ (ap Ok c.in-Some.is) in
    (few-nodes _ _ i _ o, few _ _ i)

pub returns-in_err-c : goal.returns-in_err-c
returns-in_err-c c =
    let up : c.from_residual-in_err-c.result ≡ Err c.in_err-c.field-0.0 = search rules in
    let i = c.loop-h.invariant.1 in
    let due = rw c.loop-h.invariant.0 at c.next.ensures.0 in
    let o = c.in_ok-h.ensures.graph _ (here _ _ i _ due) _ (ap Ok c.in-Some.is) in
    let told = rw (c.next.ensures.1.1, c.next.ensures.1.0, c.loop-h.invariant.0) at c.in_ok-check_nodes.ensures.0 in
    up ∙ refused-then _ _ i _ o _ _ told _ _ c.in_err-c.ensures _ refl

pub loop-h-smaller : goal.loop-h-smaller
loop-h-smaller c =
    let i = c.loop-h.invariant.1 in
    let due = rw c.loop-h.invariant.0 at c.next.ensures.0 in
    let o = c.in_ok-h.ensures.graph _ (here _ _ i _ due) _ (ap Ok c.in-Some.is) in
    let told = rw (c.next.ensures.1.1, c.next.ensures.1.0, c.loop-h.invariant.0) at c.in_ok-check_nodes.ensures.0 in
    nearer _ _ i _ o _ _ told _ _ c.in_ok-c.ensures _ refl

pub loop-h-preserved : goal.loop-h-preserved
loop-h-preserved c =
    let i = c.loop-h.invariant.1 in
    let due = rw c.loop-h.invariant.0 at c.next.ensures.0 in
    let o = c.in_ok-h.ensures.graph _ (here _ _ i _ due) _ (ap Ok c.in-Some.is) in
    let told = rw (c.next.ensures.1.1, c.next.ensures.1.0, c.loop-h.invariant.0) at c.in_ok-check_nodes.ensures.0 in (
      ap (λ w. w.now) (c.check_nodes.ensures.1 ∙ c.next.ensures.1.0) ∙ c.loop-h.invariant.0,
      onward _ _ i _ o _ _ told _ _ c.in_ok-c.ensures _ refl,
    )

pub returns : goal.returns
returns c =
    let i = c.loop-h.invariant.1 in
    let due = rw c.loop-h.invariant.0 at c.next.ensures.0 in
    let none : c.in_ok-h.field-0 ≡ None = c.in_default.is in
    ends-now _ _ i _ due _ c.in_ok-h.ensures (ap Ok none)
