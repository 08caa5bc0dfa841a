use native.Mathlib.Omega.{arith}
use Rattle.cardtables.proofs.Stems.{ready-kept, noted-kept}
use Rattle.cardtables.proofs.grade_sites.Goals as goal

pub grade_word-word-requires : goal.grade_word-word-requires
grade_word-word-requires c =
    let k = c.loop-p.invariant in
    (ready-kept k c.requires.0, noted-kept k c.requires.1, omega arith, omega arith)

pub returns : goal.returns
returns c =
    let k = c.loop-p.invariant in
    record {
      ready = ready-kept k c.requires.0;
      long = omega (arith, k.long, c.requires.2);
      noted = noted-kept k c.requires.1;
      sites = λ p l. k.sites p (omega arith);
    }
