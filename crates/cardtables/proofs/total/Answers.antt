-- `cardtables::total` meets its contract. Assumes nothing.
use borrow.Author.Rules.{rules}
use Rattle.std.proofs.Common.{◌≡◌, ◌+◌, ◌-◌, ◌*◌, ◌∙◌, ap, arith, take, drop, eqb, count_by}
use Rattle.lists.proofs.Counting.{count-part}
use Rattle.cardtables.specs.Tables.{grade_from}
use Rattle.cardtables.proofs.Stems.{total-is}
use Rattle.cardtables.proofs.total.Goals as goal

pub returns : goal.returns
returns c =
    let t = c.args.tables.now in
    let n = c.args.c.nodes + c.args.c.graphs in
    let m : grade_from + c.args.c.nodes + c.args.c.graphs - grade_from ≡ n = omega arith in
    let e : c.count.result ≡ count_by (λ w. eqb w 1) (take (grade_from + c.args.c.nodes + c.args.c.graphs - grade_from) (drop grade_from t)) = search rules in
    λ ws y. total-is (ap (2 *◌) (rw m at e ∙ count-part (λ w. eqb w 1) t grade_from n (omega arith))) y
