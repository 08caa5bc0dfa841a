-- `cardcheck::close_graph` meets its contract. Assumes nothing.
use mathlib.Core.Path.{◌≡◌, refl, sym, ap, ◌∙◌}
use Rattle.std.specs.Prelude.{Err}
use Rattle.answers.specs.declared.Rule.TheVariants.{NodeNotNamed}
use Rattle.answers.specs.Answers.{refused}
use Rattle.cardcheck.specs.declared.Header.{Header}
use native.Mathlib.Omega.{arith}
use Prim.Native.Nat.{ℕ}
use Rattle.cardcheck.proofs.Turns.{same_graph, names-stop, graph-sound, rest-stop}
use Rattle.cardcheck.proofs.close_graph.Goals as goal

pub returns-then-take_unnamed : goal.returns-then-take_unnamed
returns-then-take_unnamed c = record {
  read = λ ws nr d q. let z : ◌≡◌ {A = ℕ} 0 1 = cc q in absurd (omega arith);
  stops = λ ws extra s nr e q.
      let unnamed = sym (c.take_unnamed.ensures.verdict ws _ (nr.names refl)) ∙ c.if-take_unnamed.true in
      rest-stop s extra nr.opened.inside _ (names-stop nr refl unnamed) ∙ ap (λ (k : Header). Err (refused NodeNotNamed k.at)) (sym nr.opened.header) ∙ q;
}

pub returns : goal.returns
returns c = record {
  read = λ ws nr d q.
      let named = sym (c.take_unnamed.ensures.verdict ws _ (nr.names refl)) ∙ c.if-take_unnamed.false in (
        graph-sound nr refl named,
        cc q ∙ c.with_graph.ensures ∙ same_graph nr,
        c.take_unnamed.ensures.blank (nr.names refl).rest,
      );
  stops = λ ws extra s nr e q. let z : ◌≡◌ {A = ℕ} 0 1 = cc q in absurd (omega arith);
}
