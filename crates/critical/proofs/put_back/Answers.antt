use Rattle.std.proofs.Common.{◌∙◌}
use Rattle.critical.proofs.WalkEnd.{back_more, entries-kept}
use Rattle.critical.proofs.put_back.Goals as goal

pub loop-e-preserved : goal.loop-e-preserved
loop-e-preserved c =
    let i = c.get-i.ensures in
    let b = rw (← i) at (c.loop-e.invariant.entries.inside c.loop-e.e c.loop-e-test.true) in
    record {
      entries = entries-kept _ c.loop-e.invariant.entries c.requires.1 b c.put.ensures;
      back = λ v s d. back_more (c.loop-e.invariant.back v s d) c.requires.1 i b (c.get-own.ensures ∙ s _ b) c.put.ensures;
    }
