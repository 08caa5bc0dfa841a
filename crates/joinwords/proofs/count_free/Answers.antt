-- `joinwords::count_free` meets its contract. Assumes nothing.
use Prim.Native.Nat.{ℕ}
use Rattle.std.proofs.Common.{◌≡◌, ◌∙◌, Bool, eqb, rules, count_by}
use Rattle.joinwords.proofs.Laws.{words-counted}
use Rattle.joinwords.proofs.count_free.Goals as goal

pub returns : goal.returns
returns c =
    let p : ℕ → Bool = λ w. eqb w 0xFFFFFFFF in
    let e : c.count.result ≡ count_by p c.args.wires.now = search rules in
    e ∙ words-counted p c.args.wires.now
