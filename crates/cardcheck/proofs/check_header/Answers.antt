-- `cardcheck::check_header` meets its contract. Assumes nothing.
use Rattle.answers.specs.Tests.{first_broken}
use Rattle.form.specs.Check.{output_tests, header_verdict}
use Rattle.cardcheck.specs.Graph.{header_by}
use Rattle.cardcheck.proofs.check_header.Goals as goal

pub returns : goal.returns
unfolding header_verdict header_by
returns c =
    let told = c.check_header_by.ensures (first_broken (output_tests c.args.w c.args.c)) (λ r q. q.1) in
    rw c.requires.0 at told
