-- What passed tests tell, and a list that takes in numbers. Assumes nothing.
use Prim.Native.Nat.{ℕ, ◌+◌, ◌<◌, ◌≤◌}
use mathlib.Core.Path.{◌≡◌, refl, sym, ap}
use mathlib.Core.List.{List, append-nil}
use mathlib.Core.Bool.{Bool, true, false, not}
use native.Mathlib.Omega.{arith}
use native.Mathlib.Numerals.{add-one}
use lib.ListN.{length, get_or}
use lib.Dec.{eqb}
use borrow.Author.Tests.{ltb-false, leb-false}
use Rattle.lists.specs.Counting.{count}
use Rattle.lists.specs.Tables.{chosen, front}
use Rattle.lists.proofs.Counting.{count-le}
use Rattle.lists.proofs.Tables.{length-chosen, front-more}
use Rattle.answers.specs.declared.Counts.{Counts}
use Rattle.std.specs.Prelude.{Ok}
use Rattle.answers.specs.Tests.{first_broken}
use Rattle.answers.proofs.Tests.{all-passed}
use Rattle.rules.specs.Rules.{flipped, listed}
use Rattle.sweep.specs.Swept.{Swept}
use Rattle.change.specs.Flips.{Has}
use Rattle.changes.specs.Calls.{change_tests, critical_tests}
use Rattle.changes.specs.Appended.{stored_if}

-- the front of a buffer after h numbers were looked at
pub chosen_none : (p : ℕ → Bool) (d : List ℕ) → d ≡ front (chosen p 0) d
unfolding chosen
chosen_none p d = refl

pub chosen_more : (p : ℕ → Bool) (d : List ℕ) (h : ℕ) (b : Bool) → p h ≡ b → h < length d
    → stored_if b (front (chosen p h) d) (count p h) h ≡ front (chosen p (h + 1)) d
unfolding chosen
chosen_more p d h true e l = rw (add-one, e) (front-more (chosen p h) d (count p h) h (length-chosen p h) (omega (arith, count-le p h)))
chosen_more p d h false e l = rw (add-one, e) (ap (λ (r : List ℕ). front r d) (sym (append-nil (chosen p h))))

-- the graphs whose words differ from their good values are those that are listed
pub listed-is : {ws x values flips : List ℕ} {c : Counts} (g : ℕ) → Swept ws c x c.graphs values → Has (flipped ws c x g) c.graphs flips
    → (h : ℕ) → h < c.graphs → not (eqb (get_or flips h 0) (get_or values (c.nodes + h) 0)) ≡ listed ws c x g h
listed-is g s f h l = rw (f.word h l, s.graphs h l)

-- a call that passes its tests: its graph is one of the card's, and it has room
pub change-room : (g room : ℕ) (c : Counts) → first_broken (change_tests g room c) ≡ Ok tt → (g < c.graphs) × (c.graphs ≤ room)
unfolding change_tests
change-room g room c e =
    let p = all-passed (change_tests g room c) e in
    (leb-false c.graphs g p.0, ltb-false room c.graphs p.1.0)

pub critical-room : (room : ℕ) (c : Counts) → first_broken (critical_tests room c) ≡ Ok tt → c.nodes ≤ room
unfolding critical_tests
critical-room room c e = ltb-false room c.nodes (all-passed (critical_tests room c) e).0
