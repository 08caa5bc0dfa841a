use Rattle.std.proofs.Common.{sym, arith}
use Rattle.block.proofs.InGrade.{words_long, words_are}
use Rattle.block.proofs.Updated.{all-sites, took_more}
use Rattle.running.proofs.Fold.{counted-as}
use Rattle.testvectors.proofs.Laws.{vector-inside, vector-width}
use Rattle.block.proofs.take_block.Goals as goal

pub catch_vector-requires : goal.catch_vector-requires
catch_vector-requires c =
    let shape = c.requires.0.ready.shape in
    let inv = c.loop-i.invariant in
    let inside = vector-inside c.args.c.inputs c.args.vectors.now c.loop-i.i c.requires.1.whole
    (omega (arith, c.loop-i-test.true, c.count_vectors-n.ensures)) in (
      c.requires.0,
      rw c.vector_at-vector.ensures (omega (arith, vector-width c.args.c.inputs c.args.vectors.now c.loop-i.i inside)),
      record {
        values-long = omega (arith, inv.values, shape.few-nodes, shape.few-graphs);
        walk-long = omega (arith, inv.walk);
        caught-long = omega (arith, inv.caught, shape.few-nodes, shape.few-graphs);
      },
    )

pub take_in-q-requires : goal.take_in-q-requires
take_in-q-requires c =
    let shape = c.requires.0.ready.shape in
    let took = c.loop-i.invariant.took in (
      omega (arith, took.vector, c.requires.1.few, c.loop-i-test.true, c.count_vectors-n.ensures),
      omega (arith, shape.few-nodes, shape.few-graphs),
      c.catch_vector.ensures.long,
      words_long c.requires.0 c.grade_words.ensures,
      rw (all-sites shape) (counted-as (λ f l. sym (words_are c.requires.0 c.grade_words.ensures f l)) took.counted),
    )

pub loop-i-preserved : goal.loop-i-preserved
loop-i-preserved c =
    let inv = c.loop-i.invariant in
    let tabled = c.requires.0 in
    let told = c.catch_vector.ensures in
    let took = c.take_in-q in
    let kept = c.catch_vector.auto in record {
      values = omega (arith, inv.values, kept.values);
      walk = omega (arith, inv.walk, kept.walk);
      caught = omega (arith, inv.caught, kept.caught);
      took = took_more tabled.ready.shape (rw c.vector_at-vector.ensures at told) inv.took took.ensures.0 took.ensures.1
          (counted-as (words_are tabled c.grade_words.ensures) (rw (all-sites tabled.ready.shape) at took.ensures.2));
    }
