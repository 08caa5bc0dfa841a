use Rattle.std.proofs.Common.{◌*◌, arith}
use Rattle.running.proofs.Fold.{found-more, found-few, tallies-rest, folded_more}
use Rattle.running.specs.Running.{in_grade_by}
use Rattle.running.proofs.take_sites.Goals as goal

pub take_site-m-requires : goal.take_site-m-requires
take_site-m-requires c =
    let l = c.loop-p in
    let here = c.loop-p-test.true in (
      c.requires.0,
      omega (arith, c.requires.1, l.invariant.number, found-few (in_grade_by c.args.graded.now) l.tallies (2 * c.args.n)),
      omega (arith, c.requires.1, here),
      omega (arith, c.requires.3, here),
      omega (arith, c.requires.4, l.auto.marks, here),
      omega (arith, c.requires.5, l.auto.tallies, here),
      tallies-rest c.requires.7 l.invariant.folded (omega (arith, here)),
    )

pub loop-p-preserved : goal.loop-p-preserved
loop-p-preserved c =
    let l = c.loop-p in
    let took = c.take_site-m in
    let here = c.loop-p-test.true in record {
      number = found-more c.args.graded.now took.ensures here (omega (arith, c.requires.5, l.auto.tallies)) l.invariant.number;
      folded = folded_more l.invariant.folded c.get.ensures (omega (arith, c.requires.4, l.auto.marks, here)) (omega (arith, c.requires.5, l.auto.tallies, here)) took.ensures;
    }
