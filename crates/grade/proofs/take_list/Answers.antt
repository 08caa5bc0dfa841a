use Rattle.std.proofs.Common.{◌≡◌, ◌/◌, min, sym, refl, ◌∙◌, arith}
use Rattle.std.proofs.lemmas.List.{length-take-le}
use Rattle.grade.proofs.Graded.{list-ends, list-fits, list-part, block_of, block-number, graded-block, graded-last}
use Rattle.testvectors.proofs.Laws.{width_some}
use Rattle.grade.proofs.take_list.Goals as goal

pub nonzero_div-n : goal.nonzero_div-n
nonzero_div-n c =
    omega (arith, c.width-w.ensures, width_some _ c.requires.0.some-input)

pub part-requires : goal.part-requires
part-requires c =
    let wide = c.width-w.ensures in
    let ends = list-ends c.requires.0 wide c.length.ensures c.block_end-end.ensures.0 (omega arith) in
    let fits = list-fits c.requires.0 wide c.length.ensures c.block_end-end.ensures.0 (omega arith) in
    (omega (arith, ends), omega (arith, ends), omega (arith, fits, c.loop-t.invariant.room))

pub slice_bounds-buffer-end : goal.slice_bounds-buffer-end
slice_bounds-buffer-end c =
    omega (arith, list-fits c.requires.0 c.width-w.ensures c.length.ensures c.block_end-end.ensures.0 (omega arith), c.part.auto.out, c.loop-t.invariant.room)

pub slice_bounds-take_block-end : goal.slice_bounds-take_block-end
slice_bounds-take_block-end c =
    let fits = list-fits c.requires.0 c.width-w.ensures c.length.ensures c.block_end-end.ensures.0 (omega arith) in
    sym (length-take-le _ _ (omega (arith, c.part.auto.out, c.loop-t.invariant.room, fits)))

pub take_block-r-requires : goal.take_block-r-requires
take_block-r-requires c =
    let inv = c.loop-t.invariant in
    let wide = c.width-w.ensures in
    let long = c.length.ensures in
    let end = c.block_end-end.ensures.0 in
    let part = list-part c.requires.0 wide long end (omega arith) _ c.part.ensures in
    (c.requires.1, block_of c.requires.0 wide long end (omega arith) part (omega (arith, inv.vector, c.loop-t-test.true)), inv.counted)

pub loop-t-preserved : goal.loop-t-preserved
loop-t-preserved c =
    let inv = c.loop-t.invariant in
    let took = c.take_block-r in
    let end = c.block_end-end.ensures.0 in
    let part = list-part c.requires.0 c.width-w.ensures c.length.ensures end (omega arith) _ c.part.ensures in
    let here : min c.loop-t.t (c.length.result / c.width-w.result) ≡ c.loop-t.t = omega (arith, c.loop-t-test.true) in
    let due = rw here at inv.vector in record {
      room = omega (arith, inv.room, c.part.auto.out);
      vector = rw (← c.block_end-end.ensures.1) (block-number _ _ _ part end due took.ensures);
      counted = took.ensures.counted;
      graded = rw (← c.block_end-end.ensures.1) (graded-block _ _ _ part end due took.ensures (rw here at inv.graded));
    }

pub returns : goal.returns
returns c =
    let l = c.loop-t in
    let all : min l.t (c.length.result / c.width-w.result) ≡ c.length.result / c.width-w.result = omega (arith, c.loop-t-test.false) in
    graded-last _ _ _ c.width-w.ensures c.length.ensures refl c.requires.3 l.invariant.counted l.auto.marks l.auto.tallies (rw all at l.invariant.graded)

-- after a block that ends with the list's last vector
pub returns-2 : goal.returns-2
returns-2 c =
    let l = c.loop-t in
    let took = c.take_block-r in
    let end = c.block_end-end.ensures.0 in
    let part = list-part c.requires.0 c.width-w.ensures c.length.ensures end (omega arith) _ c.part.ensures in
    let here : min l.t (c.length.result / c.width-w.result) ≡ l.t = omega (arith, c.loop-t-test.true) in
    let all : c.block_end-end.result ≡ c.length.result / c.width-w.result = omega (arith, c.block_end-end.ensures.1) in
    graded-last _ _ _ c.width-w.ensures c.length.ensures all c.requires.3 took.ensures.counted (took.auto.marks ∙ l.auto.marks) (took.auto.tallies ∙ l.auto.tallies)
    (graded-block _ _ _ part end (rw here at l.invariant.vector) took.ensures (rw here at l.invariant.graded))
