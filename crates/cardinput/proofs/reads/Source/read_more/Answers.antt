-- What `cardinput::reads::Source::read_more` did to a reader whose bytes are known: those that it took stand behind those that were there. Assumes nothing.
use Rattle.std.proofs.Common.{◌+◌, ◌-◌, ◌<◌, ◌≤◌, ◌∙◌, length, arith}
use Rattle.cardinput.proofs.Known.{read-front}
use Rattle.cardinput.proofs.reads.Source.read_more.Goals as goal
use borrow.Rule.Slice.PartMut.{mid_len, same_len_mid}

pub returns-clause-front : goal.returns-clause-front
returns-clause-front g c =
    let at = c.args.self.handed in
    let part = mid_len at c.args.wanted c.args.input.now c.requires.1 in
    let room = c.read_some-got.auto.room ∙ part in
    let within : at + length c.read_some-got.new.room ≤ length c.args.input.now = omega (arith, room) in
    let same = same_len_mid at (c.args.wanted - at) c.args.input.now c.read_some-got.new.room c.read_some-got.auto.room in
    let some : 0 < length c.read_some-got.new.room = omega (arith, room) in
    rw c.told.ensures
    (read-front c.args.self (c.args.wanted - at) c.args.input.now c.read_some-got.new.room c.read_some-got.result (g.R.Read.remaining c.args.reader.now)
    (g.R.Read.remaining c.read_some-got.new.reader) within same some c.read_some-got.ensures.moved c.read_some-got.ensures.gave)
