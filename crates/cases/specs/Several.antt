-- SEVERAL FAULTS AT ONCE (document 02), as rows: what the call with a list of faults tells and leaves. Assumes nothing.
use Rattle.std.specs.Prelude.{ℕ, List, [], ◌∷◌}
use mathlib.Mathlib.Data.List.Defs.{Forall}
use Rattle.answers.specs.declared.Counts.{Counts}
use Rattle.answers.specs.Calls.{whole}
use Rattle.plain.specs.Calls.{fault_outcome}
use Rattle.cases.specs.Rows.{Row, faulted, refused_as, Holds}
use Rattle.cases.specs.Starred.{S, counts_s}

-- Graph 2 is the exclusive or of the inputs 0 and 1: node 0 reads input 0, and sends on to node 1 or 2, which read input 1. Faults 6 and 7 hold input 0,
-- 8 and 9 input 1.
abbrev pub differs : List ℕ
differs = 0x00000000 ∷ 0x00000000 ∷ 0x40000003 ∷ 0x60000000 ∷ 0x8000C004 ∷ 0x60000001 ∷ 0x80000001 ∷ 0x60000001 ∷ 0x80004000 ∷ []

abbrev pub counts_differs : Counts
counts_differs = record { inputs = 2; graphs = 3; nodes = 3; observable = 1; faults = 12 }

-- Eight inputs, and graph 8, which copies input 0. Fault 3 + 2g holds input g at 1.
abbrev pub wide : List ℕ
wide = 0x00000000 ∷ 0x00000000 ∷ 0x00000000 ∷ 0x00000000 ∷ 0x00000000 ∷ 0x00000000 ∷ 0x00000000 ∷ 0x00000000 ∷ 0x40000001 ∷ 0x60000000 ∷ 0x80000001 ∷ []

abbrev pub counts_wide : Counts
counts_wide = record { inputs = 8; graphs = 9; nodes = 1; observable = 1; faults = 20 }

-- under one vector: the values with these faults in; and the number of a refusal, with a buffer of so many words
abbrev pub with_in : List ℕ → Counts → ℕ → List ℕ → List ℕ → Row
with_in card counts x faults values = faulted (record { card = card; counts = counts; under = x ∷ []; faults = faults; values = values })

abbrev pub refused-by : List ℕ → ℕ → List ℕ → ℕ → Row
refused-by card number faults room = refused_as (fault_outcome (whole card) (whole (0xA0000000 ∷ [])) (whole faults) room) number 0

abbrev pub several : List Row
several =
    -- no fault, and one
    with_in S counts_s 0xA0000001 [] (1 ∷ 1 ∷ 1 ∷ [])
    ∷ with_in S counts_s 0xA0000001 (10 ∷ []) (1 ∷ 1 ∷ 0 ∷ [])
    -- two faults that mask each other: each alone alters graph 2, and both do not; in either order
    ∷ with_in differs counts_differs 0xA0000000 (7 ∷ []) (1 ∷ 0 ∷ 1 ∷ [])
    ∷ with_in differs counts_differs 0xA0000000 (9 ∷ []) (0 ∷ 1 ∷ 1 ∷ [])
    ∷ with_in differs counts_differs 0xA0000000 (7 ∷ 9 ∷ []) (1 ∷ 1 ∷ 0 ∷ [])
    ∷ with_in differs counts_differs 0xA0000000 (9 ∷ 7 ∷ []) (1 ∷ 1 ∷ 0 ∷ [])
    -- node 0 of S is stuck at its 0-exit, and with it graph 1 shows 0; held at 1, the graph shows that, in either order
    ∷ with_in S counts_s 0xA0000001 (0 ∷ []) (1 ∷ 0 ∷ 0 ∷ [])
    ∷ with_in S counts_s 0xA0000001 (0 ∷ 9 ∷ []) (1 ∷ 1 ∷ 1 ∷ [])
    ∷ with_in S counts_s 0xA0000001 (9 ∷ 0 ∷ []) (1 ∷ 1 ∷ 1 ∷ [])
    -- eight numbers, and nine; a number too high as the ninth is told, not the nine
    ∷ with_in wide counts_wide 0xA0000000 (3 ∷ 5 ∷ 7 ∷ 9 ∷ 11 ∷ 13 ∷ 15 ∷ 17 ∷ []) (1 ∷ 1 ∷ 1 ∷ 1 ∷ 1 ∷ 1 ∷ 1 ∷ 1 ∷ 1 ∷ [])
    ∷ refused-by wide 17 (3 ∷ 5 ∷ 7 ∷ 9 ∷ 11 ∷ 13 ∷ 15 ∷ 17 ∷ 19 ∷ []) 9
    ∷ refused-by wide 11 (3 ∷ 5 ∷ 7 ∷ 9 ∷ 11 ∷ 13 ∷ 15 ∷ 17 ∷ 20 ∷ []) 9
    -- one site twice: a node's at both values and at one, a graph's
    ∷ refused-by S 17 (0 ∷ 1 ∷ []) 3
    ∷ refused-by S 17 (1 ∷ 4 ∷ 1 ∷ []) 3
    ∷ refused-by S 17 (7 ∷ 6 ∷ []) 3
    ∷ refused-by S 17 (6 ∷ 6 ∷ []) 3
    -- the order of the refusals: 11, then 17, then 12
    ∷ refused-by S 11 (12 ∷ 12 ∷ []) 2
    ∷ refused-by S 17 (6 ∷ 6 ∷ []) 2
    ∷ refused-by S 12 (6 ∷ []) 2
    ∷ []

-- THE STATEMENT: every row holds
abbrev pub Several : Type 0
unfolding Forall
Several = Forall Holds several
