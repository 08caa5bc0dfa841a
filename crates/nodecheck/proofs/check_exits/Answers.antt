-- `nodecheck::check_exits` meets its contract. Assumes nothing.
use mathlib.Core.Path.{◌≡◌, sym, ap, ◌∙◌}
use native.Mathlib.Omega.{arith}
use Rattle.std.specs.Prelude.{Err}
use Rattle.std.proofs.Common.{rules}
use Rattle.answers.proofs.Tests.{not_sound}
use Rattle.form.proofs.Verdicts.{exits-inside}
use Rattle.reader.proofs.Laws.{list_of, position_of, some-list}
use Rattle.nodecheck.proofs.Table.{both-sound, bad-broken}
use Rattle.nodecheck.proofs.check_exits.Goals as goal

pub returns-in_err-e0 : goal.returns-in_err-e0
returns-in_err-e0 c =
    let up : c.from_residual.result ≡ Err c.in_err-e0.field-0.0 = search rules in
    rw up (record {
      verdict = λ ws p e. sym (bad-broken _ _ _ (sym (c.read_exits.ensures ws p e) ∙ c.in_err-e0.was));
      table = λ ws p e z. absurd (not_sound _ z);
    })

pub name_exit-requires : goal.name_exit-requires
name_exit-requires c =
    let d = c.args.due in
    let v = both-sound _ _ _ (sym (c.read_exits.ensures (list_of d) (position_of d) (some-list d)) ∙ c.in_ok-e0.was) in
    omega (arith, exits-inside (list_of d) _ _ (position_of d) 0 v.0, ap (λ x. x.0) v.1, c.requires)

pub name_exit-requires-2 : goal.name_exit-requires-2
name_exit-requires-2 c =
    let d = c.args.due in
    let v = both-sound _ _ _ (sym (c.read_exits.ensures (list_of d) (position_of d) (some-list d)) ∙ c.in_ok-e0.was) in
    omega (arith, exits-inside (list_of d) _ _ (position_of d) 1 v.0, ap (λ x. x.1) v.1, c.requires)

pub returns : goal.returns
returns c =
    record {
      verdict = λ ws p e. sym (both-sound _ _ _ (sym (c.read_exits.ensures ws p e) ∙ c.in_ok-e0.was)).0;
      table = λ ws p e z.
          let v = both-sound _ _ _ (sym (c.read_exits.ensures ws p e) ∙ c.in_ok-e0.was) in
          c.name_exit-2.ensures ∙ rw (c.name_exit.ensures, ap (λ x. x.0) v.1, ap (λ x. x.1) v.1);
    }
