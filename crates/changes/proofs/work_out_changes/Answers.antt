-- `changes::work_out_changes` meets its contract. Assumes nothing.
use Prim.Native.Nat.{ℕ}
use mathlib.Core.Path.{refl, sym, ap, ◌∙◌}
use mathlib.Core.List.{List}
use native.Mathlib.Omega.{arith}
use Rattle.lists.specs.Tables.{front}
use Rattle.lists.proofs.Counting.{count_same}
use Rattle.lists.proofs.Tables.{chosen-same}
use Rattle.layout.proofs.NodeNumbers.{made-ready}
use Rattle.testvectors.proofs.Laws.{wide}
use Rattle.rules.proofs.ByRules.{changes-told}
use Rattle.change.proofs.Laws.{own-bit, values-copied}
use Rattle.changes.proofs.Laws.{listed-is}
use Rattle.changes.proofs.work_out_changes.Goals as goal

pub first_nodes-requires : goal.first_nodes-requires
first_nodes-requires c =
    (c.requires.0, omega (arith, c.requires.0.few-graphs, c.filled-firsts.ensures.0))

pub sweep-requires : goal.sweep-requires
sweep-requires c =
    (made-ready _ c.requires.0 (omega (arith, c.requires.0.few-graphs, c.filled-firsts.ensures.0)) c.first_nodes.ensures, wide _ _ c.requires.1, omega (arith, c.requires.0.few-graphs, c.requires.0.few-nodes, c.filled-values.ensures.0))

pub copy_values-requires : goal.copy_values-requires
copy_values-requires c =
    (c.sweep.ensures.long, omega (arith, c.requires.0.few-graphs, c.filled-flips.ensures.0))

pub change-requires : goal.change-requires
change-requires c =
    let few = c.requires.0.few-graphs in
    let good = values-copied _ c.sweep.ensures (omega (arith, few, c.filled-flips.ensures.0)) c.copy_values.ensures in
    (made-ready _ c.requires.0 (omega (arith, few, c.filled-firsts.ensures.0)) c.first_nodes.ensures, omega (arith, c.requires.2), good.long, own-bit c.requires.0 _ _ good (omega (arith, c.requires.2)) refl)

pub list_changes-requires : goal.list_changes-requires
list_changes-requires c =
    let few = c.requires.0.few-graphs in
    let good = values-copied _ c.sweep.ensures (omega (arith, few, c.filled-flips.ensures.0)) c.copy_values.ensures in
    (few, c.sweep.ensures.long, (c.change.ensures _ good).long, c.requires.3)

pub returns : goal.returns
returns c =
    let few = c.requires.0.few-graphs in
    let good = values-copied _ c.sweep.ensures (omega (arith, few, c.filled-flips.ensures.0)) c.copy_values.ensures in
    let flips = c.change.ensures _ good in
    let o = c.list_changes.ensures in (
      rw o.0 (count_same _ _ _ (λ h l. listed-is _ c.sweep.ensures flips h l ∙ sym (changes-told c.requires.0 _ _ h c.requires.2 l))),
      rw o.1 (ap (λ (r : List ℕ). front r c.args.list.now) (chosen-same _ _ _ (λ h l. listed-is _ c.sweep.ensures flips h l ∙ sym (changes-told c.requires.0 _ _ h c.requires.2 l)))),
    )
