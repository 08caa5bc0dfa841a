-- `cardtables::grade_word` meets its contract. Assumes nothing.
use Prim.Native.Nat.{◌-◌, ◌<◌}
use mathlib.Core.Path.{sym, ap, ◌∙◌}
use native.Mathlib.Omega.{arith}
use borrow.Author.Tests.{lt-ltb}
use Rattle.std.specs.Int.{from_bool}
use Rattle.layout.proofs.NodeNumbers.{walkable}
use Rattle.cardtables.proofs.Stems.{node-graded, graph-word, flag-word}
use Rattle.cardtables.proofs.grade_word.Goals as goal
use Rattle.cardtables.proofs.grade_word.Goals.{then-p-c, else-p-c}

pub has_stem-requires : goal.has_stem-requires
has_stem-requires c =
    let l : c.args.p - c.args.c.nodes < c.args.c.graphs = omega (arith, c.if-p-c.false, c.requires.3) in
    (walkable c.requires.0 l, omega (arith, l, c.requires.0.shape.few-graphs), c.requires.2)

pub returns : goal.returns
returns c = elim c.if-p-c.branch [
  | then-p-c w ↦ c.from.ensures ∙ ap from_bool (w.from-is ∙ lt-ltb _ _ w.if-p-c.true) ∙ node-graded _ _ _ w.if-p-c.true
  | else-p-c w ↦
      let l : c.args.p - c.args.c.nodes < c.args.c.graphs = omega (arith, w.if-p-c.false, c.requires.3) in
      c.from.ensures ∙ ap from_bool (w.from-is ∙ sym (graph-word c.requires.0.shape c.requires.1 c.args.p w.if-p-c.false l w.has_stem.ensures)) ∙ flag-word _
]
