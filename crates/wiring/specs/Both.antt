-- THE JOINED CARD IS BOTH CARDS, as one statement: `Both`. The law `joined-both` (proofs/Both.antt) has it of any two accepted cards and all wires that
-- pass the tests of a joining. No contract of a call cites it. Assumes nothing.
use Rattle.std.specs.Prelude.{ℕ, ◌+◌, ◌/◌, ◌<◌, ◌≡◌, List, [], ◌∷◌, ◌++◌, map, false, ◌||◌, Ok}
use Rattle.lists.specs.Each.{Each}
use Rattle.answers.specs.declared.Counts.{Counts}
use Rattle.layout.specs.Layout.{observable}
use Rattle.form.specs.Check.{checked}
use Rattle.testvectors.specs.Vectors.{vector_verdict}
use Rattle.value.specs.Settings.{Setting, Keeps, good, faulty}
use Rattle.value.specs.Values.{value}
use Rattle.detect.specs.Detects.{observed, detects}
use Rattle.wiring.specs.Joined.{number_a, number_b, joined_counts, joined}
use Rattle.wiring.specs.Parts.{is_wired, fault_a, fault_b, setting_a, setting_b, vector_a, vector_b}

module _ (A B : Counts) (wires : List ℕ) where
  -- faults of A; faults of B, none at a wired input; and both in the joined card
  abbrev pub FaultsA : List ℕ → Type 0
  FaultsA fs = Each (λ f. f < A.faults) fs

  abbrev pub FaultsB : List ℕ → Type 0
  FaultsB fs' = Each (λ f. (f < B.faults) × (is_wired A B wires (f / 2) ≡ false)) fs'

  abbrev pub both_faults : List ℕ → List ℕ → List ℕ
  both_faults fs fs' = map (fault_a A B wires) fs ++ map (fault_b A B wires) fs'

  -- whose a fault f of the joined card is: fault e of A, or fault e of B, at no wired input
  pub data Whose (f : ℕ) : Type 0 where
    of_a : (e : ℕ) → e < A.faults → fault_a A B wires e ≡ f → Whose f
    of_b : (e : ℕ) → e < B.faults → is_wired A B wires (e / 2) ≡ false → fault_b A B wires e ≡ f → Whose f

module _ (a b : List ℕ) (A B : Counts) (wires : List ℕ) where
  -- the joined card and its counts
  abbrev js : List ℕ
  js = joined A B wires a b

  abbrev C : Counts
  C = joined_counts A B wires

  -- THE CARDS ONE AFTER THE OTHER under a vector x of the joined card: the values of A, with a setting t of its sites; the vector that B gets, whose
  -- wired inputs have those values; and under it the values of B, with a setting u
  abbrev pub graph_a : Setting → List ℕ → ℕ → ℕ
  graph_a t x = value a A t (vector_a A B wires x)

  abbrev pub given_b : Setting → List ℕ → List ℕ
  given_b t x = vector_b A B wires x (graph_a t x)

  abbrev pub graph_b : Setting → Setting → List ℕ → ℕ → ℕ
  graph_b t u x = value b B u (given_b t x)

  -- with the setting s the joined card has, under every vector, the values of A with t and B with u; what A and B get are vectors of the accepted form
  pub record ValuesOfBoth (s t u : Setting) : Type 0 where
    pub vector-a : (x : List ℕ) → vector_verdict A.inputs (vector_a A B wires x) ≡ Ok tt
    pub vector-b : (x : List ℕ) → vector_verdict B.inputs (given_b t x) ≡ Ok tt
    pub value-a : (x : List ℕ) (g : ℕ) → g < A.graphs → value js C s x (number_a A B wires g) ≡ graph_a t x g
    pub value-b : (x : List ℕ) (h : ℕ) → h < B.graphs → value js C s x (number_b A B wires h) ≡ graph_b t u x h

  -- THE JOINED CARD IS BOTH CARDS
  pub record Both : Type 0 where
    -- it is accepted, and its graphs are observable as those of A and B are
    pub accepted : checked js ≡ Ok C
    pub observable-a : (g : ℕ) → g < A.graphs → observable js (number_a A B wires g) ≡ observable a g
    pub observable-b : (h : ℕ) → h < B.graphs → is_wired A B wires (B.nodes + h) ≡ false → observable js (number_b A B wires h) ≡ observable b h
    -- ITS VALUES, with every setting that gives bits
    pub values : (s : Setting) → Keeps s → ValuesOfBoth s (setting_a A B wires s) (setting_b A B wires s)
    -- ITS FAULTS: those of A and of B, holding together, are faults of it, and give it the values of A with A's and of B with B's
    pub faults : (fs fs' : List ℕ) → FaultsA A B wires fs → FaultsB A B wires fs'
        → Each (λ f. f < C.faults) (both_faults A B wires fs fs') × ValuesOfBoth (faulty (both_faults A B wires fs fs')) (faulty fs) (faulty fs')
    -- and it has no others, so that each site of it, a node or a graph, is one of A or of B
    pub whose : (f : ℕ) → f < C.faults → Whose A B wires f
    -- WHAT A VECTOR CATCHES: faults show in it exactly where they show in A or in B
    pub shown : (fs fs' : List ℕ) → FaultsA A B wires fs → FaultsB A B wires fs' → (x : List ℕ)
        → observed js C.graphs (value js C good x) (value js C (faulty (both_faults A B wires fs fs')) x)
        ≡ observed a A.graphs (graph_a good x) (graph_a (faulty fs) x)
        || observed b B.graphs (graph_b good good x) (graph_b (faulty fs) (faulty fs') x)
    -- so a fault of A is caught where A catches it, or B shows what it gets from A; and a fault of B where B, with what good A gives it, catches it
    pub catches-a : (f : ℕ) → f < A.faults → (x : List ℕ)
        → detects js C x (fault_a A B wires f)
        ≡ detects a A (vector_a A B wires x) f || observed b B.graphs (graph_b good good x) (graph_b (faulty (f ∷ [])) good x)
    pub catches-b : (f : ℕ) → f < B.faults → is_wired A B wires (f / 2) ≡ false → (x : List ℕ)
        → detects js C x (fault_b A B wires f) ≡ detects b B (given_b good x) f
