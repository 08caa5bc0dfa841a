-- `cardtables::make_tables` meets its contract. Assumes nothing.
use native.Mathlib.Omega.{arith}
use Rattle.layout.proofs.NodeNumbers.{made-ready}
use Rattle.cardtables.proofs.Readers.{none-noted, noted-same}
use Rattle.lists.proofs.Tables.{over-rest}
use borrow.Author.Rules.{rules}
use Rattle.cardtables.proofs.make_tables.Goals as goal

pub note_readers-requires : goal.note_readers-requires
note_readers-requires c =
    let e = c.filled-tables.ensures in (
      made-ready _ c.requires (omega (arith, c.requires.few-graphs, c.filled-firsts.ensures.0)) c.first_nodes.ensures,
      omega (arith, e.0),
      none-noted _ e.1,
    )

pub grade_sites-requires : goal.grade_sites-requires
grade_sites-requires c =
    let few = c.requires.few-graphs in
    let u = c.first_nodes-2.ensures in (
      made-ready _ c.requires (search rules) u,
      noted-same (λ i h l. rw u (over-rest _ _ _ i (omega arith))) c.note_readers.ensures,
      search rules,
    )
