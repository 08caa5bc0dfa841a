-- `report::report_counted` meets its contract. Assumes nothing.
use Rattle.answers.specs.Answers.{number_of}
use Rattle.report.proofs.Cases.{text-over, text-cut, text-long, text-left, text-parts}
use Rattle.report.proofs.report_counted.Goals as goal

pub returns-then-n-gt-MAX_WORDS : goal.returns-then-n-gt-MAX_WORDS
unfolding number_of
returns-then-n-gt-MAX_WORDS c =
    let s = c.requires in
    rw (text-over _ s.0 (rw s.1 at c.if-n-gt-MAX_WORDS.true)) (rw c.from.ensures at c.put_refused.ensures)

pub returns-then-input-start : goal.returns-then-input-start
returns-then-input-start c =
    let s = c.requires in
    rw (text-cut _ s.0 (rw s.1 at c.if-n-gt-MAX_WORDS.false) (rw s.1 at c.if-input-start.true)) c.put.ensures

pub returns-then-rest-gt-MAX_VECTOR_WORDS : goal.returns-then-rest-gt-MAX_VECTOR_WORDS
returns-then-rest-gt-MAX_VECTOR_WORDS c =
    let s = c.requires in
    let l = rw s.1 at c.if-rest-gt-MAX_VECTOR_WORDS.true in
    rw (text-long _ s.0 (rw s.1 at c.if-n-gt-MAX_WORDS.false) (rw s.1 at c.if-input-start.false) l) c.put-then-rest-gt-MAX_VECTOR_WORDS.ensures

pub returns-then-rest-ne0 : goal.returns-then-rest-ne0
returns-then-rest-ne0 c =
    let s = c.requires in
    let room = rw s.1 at c.if-rest-gt-MAX_VECTOR_WORDS.false in
    let l = rw s.1 at c.if-rest-ne0.true in
    rw (text-left _ s.0 (rw s.1 at c.if-n-gt-MAX_WORDS.false) (rw s.1 at c.if-input-start.false) room l) c.put-then-rest-ne0.ensures

pub returns : goal.returns
returns c =
    let s = c.requires in
    let g = text-parts _ _ s.1 s.0 c.if-n-gt-MAX_WORDS.false c.if-input-start.false c.if-rest-gt-MAX_VECTOR_WORDS.false c.if-rest-ne0.false in
    rw g c.report_parts.ensures
