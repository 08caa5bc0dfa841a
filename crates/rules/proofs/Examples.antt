-- Worked examples, by computing: the stopped list beside the change list, and the cards on which a grade goes astray. Assumes nothing.
use Prim.Native.Nat.{ℕ}
use mathlib.Core.List.{List, [], ◌∷◌, map}
use mathlib.Core.Path.{◌≡◌, refl}
use Rattle.lists.specs.Tables.{chosen}
use Rattle.answers.specs.declared.Counts.{Counts}
use Rattle.layout.specs.Layout.{is_input, observable, size, reads, exits, decides}
use Rattle.testvectors.specs.Vectors.{bit}
use Rattle.value.specs.Values.{value}
use Rattle.detect.specs.Detects.{observed}
use Rattle.rules.specs.Rules.{flipped, listed, critical, critical_node, marks_node}
use Rattle.rules.specs.Stopped.{stopped}

-- a card with its counts, and both lists of one of its graphs under the vector A0000000
pub record Case : Type 0 where
  pub card : List ℕ
  pub counted : Counts
  pub graph : ℕ
  pub changed : List ℕ
  pub upto : List ℕ

-- graph 0 is an input, and each of 1, 2 and 3 reads the one below it; 1 and 3 are observable
abbrev chain : List ℕ
chain =
    0 ∷ 0x40000001 ∷ 0x60000000 ∷ 0x80000001 ∷ 0x20000001 ∷ 0x60000001 ∷ 0x80000001 ∷ 0x40000001 ∷ 0x60000002 ∷ 0x80000001 ∷ []

-- graphs 0 and 1 are inputs; 2 reads 0, 3 reads 1, and 4 reads 2; 3 alone is observable
abbrev apart : List ℕ
apart =
    0 ∷ 0 ∷ 0x20000001 ∷ 0x60000000 ∷ 0x80000001 ∷ 0x40000001 ∷ 0x60000001 ∷ 0x80000001 ∷ 0x20000001 ∷ 0x60000002 ∷ 0x80000001 ∷ []

abbrev of-chain : Counts
of-chain = record { inputs = 1; graphs = 4; nodes = 3; observable = 2; faults = 14 }

abbrev of-apart : Counts
of-apart = record { inputs = 2; graphs = 5; nodes = 3; observable = 1; faults = 16 }

-- it ends with the least observable graph, with g itself where that is observable, and nowhere where none on the list is
abbrev pub table : List Case
table =
    record { card = chain; counted = of-chain; graph = 0; changed = 0 ∷ 1 ∷ 2 ∷ 3 ∷ []; upto = 0 ∷ 1 ∷ [] }
    ∷ record { card = chain; counted = of-chain; graph = 1; changed = 1 ∷ 2 ∷ 3 ∷ []; upto = 1 ∷ [] }
    ∷ record { card = chain; counted = of-chain; graph = 2; changed = 2 ∷ 3 ∷ []; upto = 2 ∷ 3 ∷ [] }
    ∷ record { card = apart; counted = of-apart; graph = 0; changed = 0 ∷ 2 ∷ 4 ∷ []; upto = 0 ∷ 2 ∷ 4 ∷ [] }
    ∷ record { card = apart; counted = of-apart; graph = 1; changed = 1 ∷ 3 ∷ []; upto = 1 ∷ 3 ∷ [] }
    ∷ []

abbrev x : List ℕ
x = 0xA0000000 ∷ []

pub changed-examples : map (λ (r : Case). chosen (listed r.card r.counted x r.graph) r.counted.graphs) table ≡ map (λ (r : Case). r.changed) table
unfolding chosen flipped value is_input observable size reads exits decides bit
changed-examples = refl

pub stopped-examples : map (λ (r : Case). chosen (stopped r.card r.counted x r.graph) r.counted.graphs) table ≡ map (λ (r : Case). r.upto) table
unfolding chosen stopped observed flipped value is_input observable size reads exits decides bit
stopped-examples = refl

-- WHERE A GRADE GOES ASTRAY (document 01): for each of the four ways what the rules tell on a card and a vector on which the wrong rule tells something else.
-- The cards are those of tests/astray.c, and the wrong rules are must-fail edits. S: graph 1 reads 0, and 2, which is observable, reads 1 and then 0.
abbrev S : List ℕ
S = 0 ∷ 0x20000001 ∷ 0x60000000 ∷ 0x80000001 ∷ 0x40000002 ∷ 0x60000001 ∷ 0x80000003 ∷ 0x60000000 ∷ 0x80000001 ∷ []

-- S with the exits of its last node exchanged
abbrev crossed : List ℕ
crossed = 0 ∷ 0x20000001 ∷ 0x60000000 ∷ 0x80000001 ∷ 0x40000002 ∷ 0x60000001 ∷ 0x80000003 ∷ 0x60000000 ∷ 0x80004000 ∷ []

abbrev of-S : Counts
of-S = record { inputs = 1; graphs = 3; nodes = 3; observable = 1; faults = 12 }

-- each of graphs 1 and 2 reads the one below it; 1 alone is observable
abbrev seen_below : List ℕ
seen_below = 0 ∷ 0x40000001 ∷ 0x60000000 ∷ 0x80000001 ∷ 0x20000001 ∷ 0x60000001 ∷ 0x80000001 ∷ []

abbrev of-seen-below : Counts
of-seen-below = record { inputs = 1; graphs = 3; nodes = 2; observable = 1; faults = 10 }

-- the criticality of the only graph left: graph 0 is critical, though graph 1, which alone is left on its list, is not
pub astray-only-graph : chosen (critical S of-S x) 3 ≡ 0 ∷ 2 ∷ []
unfolding chosen critical value is_input observable size reads exits decides bit
astray-only-graph = refl

-- a graph decided by the other good exits: graph 2 is not listed, since the other exit of its first node changes too
pub astray-other-exits : chosen (listed crossed of-S x 0) 3 ≡ 0 ∷ 1 ∷ []
unfolding chosen flipped value is_input observable size reads exits decides bit
astray-other-exits = refl

-- both faults of a critical node: of graph 1's node, under A0000001, the one at the 0-exit alone is marked
pub astray-both-faults : chosen (marks_node S of-S (0xA0000001 ∷ []) 1 0) 2 ≡ 0 ∷ []
unfolding chosen critical_node value is_input observable size reads exits decides bit
astray-both-faults = refl

-- an observable graph's readers left unchanged: graph 2 reads graph 1, and changes with it
pub astray-readers-left : chosen (listed seen_below of-seen-below x 0) 3 ≡ 0 ∷ 1 ∷ 2 ∷ []
unfolding chosen flipped value is_input observable size reads exits decides bit
astray-readers-left = refl
