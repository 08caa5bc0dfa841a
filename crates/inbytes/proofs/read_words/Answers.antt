-- `inbytes::read_words` meets its contract. Assumes nothing.
use Rattle.std.proofs.Common.{◌≡◌, ◌/◌, min, length, refl, rules, arith}
use Rattle.inbytes.proofs.Laws.{words-read}
use Rattle.inbytes.proofs.read_words.Goals as goal

pub returns : goal.returns
returns c =
    let m : c.min-n.result ≡ min (length c.args.b.now / 4) (length c.args.out.now) = search (arith, rules) in
    words-read _ _ c.min-n.result m refl c.words_of.ensures.0 c.words_of.ensures.1
