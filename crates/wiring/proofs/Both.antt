-- THE THEOREM: two accepted cards and wires that pass the tests of a joining give a card that is both. Assumes nothing.
use Prim.Native.Nat.{ℕ, ◌+◌, ◌-◌}
use mathlib.Core.Path.{◌≡◌}
use mathlib.Core.List.{List}
use native.Mathlib.Omega.{arith}
use Rattle.answers.specs.declared.Counts.{Counts}
use Rattle.std.specs.Prelude.{Ok}
use Rattle.answers.specs.Tests.{first_broken}
use Rattle.layout.specs.Shape.{Shape}
use Rattle.form.specs.Check.{checked}
use Rattle.form.proofs.Checked.{check-accepts}
use Rattle.wiring.specs.Joined.{joined_counts, joined, join_tests}
use Rattle.wiring.specs.Both.{Both}
use Rattle.wiring.proofs.Stands.{Wired}
use Rattle.wiring.proofs.BothWritten.{joined-input, written-a, written-b}
use Rattle.wiring.proofs.Accepted.{joined-accepted, tests-wired}
use Rattle.wiring.proofs.Sites.{stays}
use Rattle.wiring.proofs.Part.{Joins, written-part, joined-observable-a, joined-observable-b}
use Rattle.wiring.proofs.Values.{joined-values}
use Rattle.wiring.proofs.Faults.{both-inside, joined-faults}
use Rattle.wiring.proofs.Whose.{joined-whose}
use Rattle.wiring.proofs.Caught.{joined-shown, joined-catches-a, joined-catches-b}

-- both cards are parts of the joined card
joined-joins : (a b : List ℕ) {A B : Counts} (wires : List ℕ) → checked a ≡ Ok A → checked b ≡ Ok B → Wired A B wires → Joins a b A B wires
joined-joins a b {A} {B} wires ea eb w =
    let shape : Shape (joined A B wires a b) (joined_counts A B wires) =
    (check-accepts (joined A B wires a b) 0 (joined_counts A B wires) (joined-accepted a b wires ea eb w)).shape in
    record {
      wired = w;
      input = λ g l. (joined-input a b wires ea eb w g l).0;
      part-a = written-part (written-a a b wires ea eb w) shape (omega (arith, (check-accepts a 0 A ea).shape.inputs_in));
      part-b = written-part (written-b a b wires ea eb w) shape (omega arith);
    }

pub joined-both : (a b : List ℕ) {A B : Counts} (wires : List ℕ) (n room : ℕ) → checked a ≡ Ok A → checked b ≡ Ok B
    → first_broken (join_tests A B wires n room) ≡ Ok tt → Both a b A B wires
joined-both a b {A} {B} wires n room ea eb e =
    let w = (tests-wired A B wires n room e).0 in
    let joins = joined-joins a b wires ea eb w in
    record {
      accepted = joined-accepted a b wires ea eb w;
      observable-a = joined-observable-a joins;
      observable-b = λ h l s.
          let z : B.nodes + h - B.nodes ≡ h = omega arith in
          joined-observable-b joins h l (rw z at (stays A B wires (B.nodes + h) s (omega arith)));
      values = joined-values joins;
      faults = λ fs gs of-a of-b. (both-inside joins fs gs of-a of-b, joined-faults joins fs gs of-a of-b);
      whose = joined-whose joins;
      shown = joined-shown joins;
      catches-a = joined-catches-a joins;
      catches-b = joined-catches-b joins;
    }
