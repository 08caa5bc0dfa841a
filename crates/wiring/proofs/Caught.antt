-- WHAT A VECTOR CATCHES of a joined card: where A shows a fault, or B does. Assumes nothing.
use Prim.Native.Nat.{ℕ, ◌+◌, ◌-◌, ◌/◌, ◌<◌, ◌≤◌}
use mathlib.Core.Path.{◌≡◌, refl, ap, ◌∙◌}
use mathlib.Core.List.{List, [], ◌∷◌}
use mathlib.Core.Bool.{Bool, false, not, ◌&&◌, ◌||◌}
use native.Mathlib.Omega.{arith}
use lib.Dec.{eqb}
use Rattle.lists.proofs.Tests.{some-none, some-shifted}
use Rattle.answers.specs.declared.Counts.{Counts}
use Rattle.layout.specs.Layout.{observable}
use Rattle.layout.proofs.Firsts.{input-hidden}
use Rattle.value.specs.Settings.{Setting, good, faulty}
use Rattle.value.specs.Values.{value}
use Rattle.value.proofs.Settings.{faulty-none}
use Rattle.detect.specs.Detects.{observed, detects}
use Rattle.detect.proofs.Detects.{observed-none}
use Rattle.wiring.specs.Joined.{free, joined_counts, joined}
use Rattle.wiring.specs.Parts.{is_wired, fault_a, fault_b, vector_a}
use Rattle.wiring.specs.Both.{FaultsA, FaultsB, both_faults, graph_a, given_b, graph_b, ValuesOfBoth}
use Rattle.wiring.proofs.Numbers.{output-a, output-b}
use Rattle.wiring.proofs.Part.{PartOf, Joins}
use Rattle.wiring.proofs.Faults.{joined-faults}

-- an observable graph g whose value w differs from v
abbrev shown : List ℕ → (ℕ → ℕ) → (ℕ → ℕ) → ℕ → Bool
shown ws v w g = observable ws g && not (eqb (w g) (v g))

-- A part whose outputs are the graphs from `start` on, where its graphs have the values v there and v' of its own, and others w and w': past the graphs
-- before it, what is seen there is what is seen in it, as no input is observable.
module _ {ws js : List ℕ} {c C : Counts} {number : ℕ → ℕ} {before : ℕ} (part : PartOf ws js c C number before)
    (start : ℕ) (numbered : (g : ℕ) → c.inputs ≤ g → number g ≡ start + (g - c.inputs)) (v w : ℕ → ℕ) {v' w' : ℕ → ℕ}
    (one : (g : ℕ) → g < c.graphs → v (number g) ≡ v' g) (other : (g : ℕ) → g < c.graphs → w (number g) ≡ w' g) where
  shown-there : (g : ℕ) → c.inputs ≤ g → g < c.graphs → shown js v w (number g) ≡ shown ws v' w' g
  shown-there g i l = rw ((part.stands g i l).seen, one g l, other g l)

  shown-from : (i : ℕ) → i < c.graphs - c.inputs → shown js v w (start + i) ≡ shown ws v' w' (c.inputs + i)
  shown-from i l =
      let e : number (c.inputs + i) ≡ start + i = numbered (c.inputs + i) (omega arith) ∙ omega arith in
      rw e at (shown-there (c.inputs + i) (omega arith) (omega arith))

  observed-part : observed js (start + (c.graphs - c.inputs)) v w ≡ observed js start v w || observed ws c.graphs v' w'
  unfolding observed
  observed-part =
      let e : c.inputs + (c.graphs - c.inputs) ≡ c.graphs = omega (arith, part.own.inputs_in) in
      rw e at (some-shifted (shown js v w) (shown ws v' w') start c.inputs (c.graphs - c.inputs) shown-from
      (λ g l. rw (input-hidden ws g (part.own.input g l).0)))

module _ {a b : List ℕ} {A B : Counts} {wires : List ℕ} (joins : Joins a b A B wires) where
  abbrev js : List ℕ
  js = joined A B wires a b

  abbrev C : Counts
  C = joined_counts A B wires

  abbrev n : ℕ
  n = A.inputs + free A B wires

  -- inputs come first, then A's outputs, then B's
  observed-inputs : (v w : ℕ → ℕ) → observed js n v w ≡ false
  unfolding observed
  observed-inputs v w = some-none (shown js v w) n (λ g l. rw (input-hidden js g (joins.input g l)))

  module _ {s t u s' t' u' : Setting} (one : ValuesOfBoth a b A B wires s t u) (other : ValuesOfBoth a b A B wires s' t' u') (x : List ℕ) where
    observed-both : observed js C.graphs (value js C s x) (value js C s' x)
        ≡ observed a A.graphs (graph_a a b A B wires t x) (graph_a a b A B wires t' x)
        || observed b B.graphs (graph_b a b A B wires t u x) (graph_b a b A B wires t' u' x)
    observed-both =
        let e : n + (A.graphs - A.inputs) ≡ A.graphs + free A B wires = omega (arith, joins.part-a.own.inputs_in) in
        let v = value js C s x in
        let w = value js C s' x in
        let outputs-a = rw (e, observed-inputs v w) at (observed-part joins.part-a n (output-a A B wires) v w (one.value-a x) (other.value-a x)) in
        observed-part joins.part-b (A.graphs + free A B wires) (output-b A B wires) v w (one.value-b x) (other.value-b x)
        ∙ ap (λ (k : Bool). k || observed b B.graphs (graph_b a b A B wires t u x) (graph_b a b A B wires t' u' x)) outputs-a

  -- no fault at all
  values-of-both-good : ValuesOfBoth a b A B wires good good good
  values-of-both-good = rw faulty-none at (joined-faults joins [] [] tt tt)

  -- FAULTS OF BOTH TOGETHER, seen against none
  pub joined-shown : (fs gs : List ℕ) → FaultsA A B wires fs → FaultsB A B wires gs → (x : List ℕ)
      → observed js C.graphs (value js C good x) (value js C (faulty (both_faults A B wires fs gs)) x)
      ≡ observed a A.graphs (graph_a a b A B wires good x) (graph_a a b A B wires (faulty fs) x)
      || observed b B.graphs (graph_b a b A B wires good good x) (graph_b a b A B wires (faulty fs) (faulty gs) x)
  joined-shown fs gs of-a of-b x = observed-both values-of-both-good (joined-faults joins fs gs of-a of-b) x

  -- ONE FAULT: of A, and of B, under which A has its good values and shows nothing
  pub joined-catches-a : (f : ℕ) → f < A.faults → (x : List ℕ)
      → detects js C x (fault_a A B wires f)
      ≡ detects a A (vector_a A B wires x) f
      || observed b B.graphs (graph_b a b A B wires good good x) (graph_b a b A B wires (faulty (f ∷ [])) good x)
  unfolding detects
  joined-catches-a f l x = rw faulty-none at (joined-shown (f ∷ []) [] (l, tt) tt x)

  pub joined-catches-b : (f : ℕ) → f < B.faults → is_wired A B wires (f / 2) ≡ false → (x : List ℕ)
      → detects js C x (fault_b A B wires f) ≡ detects b B (given_b a b A B wires good x) f
  unfolding detects
  joined-catches-b f l e x =
      rw (faulty-none, observed-none a A.graphs (graph_a a b A B wires good x) (graph_a a b A B wires good x) (λ g h. refl)) at
      (joined-shown [] (f ∷ []) tt ((l, e), tt) x)
