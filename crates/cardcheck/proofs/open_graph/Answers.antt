-- `cardcheck::open_graph` meets its contract. Assumes nothing.
use Prim.Native.Nat.{ℕ}
use mathlib.Core.Path.{◌≡◌, sym, ap, ◌∙◌}
use native.Mathlib.Omega.{arith}
use Rattle.std.specs.Prelude.{Err}
use Rattle.std.proofs.Common.{rules}
use Rattle.reader.proofs.Laws.{due-word, due-end}
use Rattle.cardcheck.proofs.Turns.{rest_end, graph-opened, header-over, ended-counts}
use Rattle.cardcheck.proofs.open_graph.Goals as goal

pub open_word-requires : goal.open_word-requires
open_word-requires c = (c.requires.1 _ _ c.in-Ok.is, c.requires.0)

pub returns-in_err-open_word-in-Ok : goal.returns-in_err-open_word-in-Ok
returns-in_err-open_word-in-Ok c =
    let up : c.from_residual.result ≡ Err c.in_err-open_word-in-Ok.field-0.0 = search rules in
    rw up (record {
      graph = λ ws e h q. let z : ◌≡◌ {A = ℕ} 0 1 = cc q in absurd (omega arith);
      over = λ ws s e q. let z : ◌≡◌ {A = ℕ} 0 1 = cc q in absurd (omega arith);
      stops = λ ws s e r q.
          let (inside, has, here) = due-word ws _ _ _ (sym e ∙ c.in-Ok.is) in
          let same : c.in_err-open_word-in-Ok.field-0.0 ≡ r = cc q in
          header-over s _ inside _ r (rw has at (sym c.open_word.ensures ∙ c.in_err-open_word-in-Ok.was ∙ ap Err same));
    })

pub returns-in_ok-open_word-in-Ok : goal.returns-in_ok-open_word-in-Ok
returns-in_ok-open_word-in-Ok c = record {
  graph = λ ws e h q.
      let (inside, has, here) = due-word ws _ _ _ (sym e ∙ c.in-Ok.is) in
      let (sound, header) = graph-opened _ _ _ _ (sym c.open_word.ensures ∙ c.in_ok-open_word-in-Ok.was) in
      record { inside = inside; header = cc q ∙ header ∙ rw (has, here); sound = rw has at sound };
  over = λ ws s e q. let z : ◌≡◌ {A = ℕ} 0 1 = cc q in absurd (omega arith);
  stops = λ ws s e r q. let z : ◌≡◌ {A = ℕ} 0 1 = cc q in absurd (omega arith);
}

pub returns-in_err-finish-in-Err : goal.returns-in_err-finish-in-Err
returns-in_err-finish-in-Err c =
    let up : c.from_residual-in_err-finish-in-Err.result ≡ Err c.in_err-finish-in-Err.field-0.0 = search rules in
    rw up (record {
      graph = λ ws e h q. let z : ◌≡◌ {A = ℕ} 0 1 = cc q in absurd (omega arith);
      over = λ ws s e q. let z : ◌≡◌ {A = ℕ} 0 1 = cc q in absurd (omega arith);
      stops = λ ws s e r q.
          let (out, len) = due-end ws _ _ (sym e ∙ c.in-Err.is) in
          let same : c.in_err-finish-in-Err.field-0.0 ≡ r = cc q in
          rest_end s _ out ∙ sym (c.finish.ensures ws len) ∙ c.in_err-finish-in-Err.was ∙ ap Err same;
    })

pub returns-in_ok-finish-in-Err : goal.returns-in_ok-finish-in-Err
returns-in_ok-finish-in-Err c = record {
  graph = λ ws e h q. let z : ◌≡◌ {A = ℕ} 0 1 = cc q in absurd (omega arith);
  over = λ ws s e q.
      let (out, len) = due-end ws _ _ (sym e ∙ c.in-Err.is) in
      rest_end s _ out ∙ ended-counts ws _ _ _ (sym (c.finish.ensures ws len) ∙ c.in_ok-finish-in-Err.was);
  stops = λ ws s e r q. let z : ◌≡◌ {A = ℕ} 0 1 = cc q in absurd (omega arith);
}
