-- FROM THE CALL TO ITS MEANING: where a call with faults is done, its words are the values with all faults of the list holding together. Assumes nothing.
use Prim.Native.Nat.{ℕ}
use mathlib.Core.Path.{◌≡◌, sym, ap, ◌∙◌}
use Rattle.lists.specs.Tables.{tab}
use Rattle.std.specs.Prelude.{Ok}
use Rattle.answers.proofs.Calls.{call-went}
use Rattle.testvectors.specs.Vectors.{vector_verdict}
use Rattle.value.specs.Settings.{Setting, faulty}
use Rattle.value.specs.Values.{value}
use Rattle.faultlist.specs.Faults.{fault_tests}
use Rattle.faultlist.proofs.Tested.{faults-apart}
use Rattle.faultlist.proofs.Together.{faulty-together, together-is}
use Rattle.answers.specs.Calls.{Lent, Outcome}
use Rattle.opening.specs.Opened.{opened_vector}
use Rattle.opening.proofs.Laws.{lent-checked}
use Rattle.plain.specs.Calls.{values_work, fault_outcome}
use Rattle.plain.specs.Done.{AllHold}

pub fault-done : (card v fs : Lent) (room : ℕ) {n : ℕ} → (fault_outcome card v fs room).reply ≡ Ok n → AllHold card v fs room
fault-done card v fs room e =
    let w = call-went (opened_vector card v) (values_work (fault_tests fs.extra fs.words room) (faulty fs.words) card.words v.words) e in
    let c = w.counted in
    let apart = faults-apart fs.extra fs.words room c w.passed in
    record {
      counted = c;
      accepted = lent-checked vector_verdict card v w.accepted;
      hold = faulty-together fs.words apart;
      values = λ s t.
          ap (λ (o : Outcome). o.words) w.came
          ∙ ap (λ (u : Setting). tab (value card.words c u v.words) c.graphs) (sym (together-is fs.words apart t));
    }
