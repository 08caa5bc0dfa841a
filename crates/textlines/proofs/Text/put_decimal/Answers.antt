-- `textlines::Text::put_decimal` meets its contract: the library's digits are those of `decimal`. Assumes nothing.
use Rattle.std.proofs.Common.{◌≡◌, ◌∙◌, arith}
use Rattle.textlines.specs.Text.{decimal}
use Rattle.textlines.proofs.Digits.{printed}
use Rattle.textlines.proofs.Text.put_decimal.Goals as goal

pub put-requires : goal.put-requires
put-requires c =
    let same : c.as_bytes.result.now ≡ decimal c.args.n = c.as_bytes.ensures.value ∙ c.format.ensures.text ∙ printed c.args.n (omega arith) in
    rw same c.requires

pub returns : goal.returns
returns c =
    let same : c.as_bytes.result.now ≡ decimal c.args.n = c.as_bytes.ensures.value ∙ c.format.ensures.text ∙ printed c.args.n (omega arith) in
    rw (← same) c.put.ensures
