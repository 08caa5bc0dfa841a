-- THE STARRED CASES of document 01, 'Card S and its neighbours', as one list, and one statement over the whole list. A row is whole: it tells of every
-- graph and every node, starred or not. The comment above a row says what of it stands in document 01 with a star. Assumes nothing.
use Rattle.std.specs.Prelude.{ℕ, ◌+◌, List, [], ◌∷◌, map, Bool, not, ◌&&◌, ◌||◌, replicate}
use mathlib.Mathlib.Data.List.Defs.{Forall}
use Rattle.answers.specs.declared.Counts.{Counts}
use Rattle.cases.specs.Rows.{Row, case, grading, function, numbers, Holds}

-- card S; starred: N = 3, G = 3, F = 12
abbrev pub S : List ℕ
S = 0x00000000 ∷ 0x20000001 ∷ 0x60000000 ∷ 0x80000001 ∷ 0x40000002 ∷ 0x60000001 ∷ 0x80000003 ∷ 0x60000000 ∷ 0x80000001 ∷ []

abbrev pub counts_s : Counts
counts_s = record { inputs = 1; graphs = 3; nodes = 3; observable = 1; faults = 12 }

-- the card of Akers's f, and the function: A, B and C are the inputs 0, 1 and 2
abbrev pub akers : List ℕ
akers = 0x00000000 ∷ 0x00000000 ∷ 0x00000000 ∷ 0x40000003 ∷ 0x60000000 ∷ 0x8000C001 ∷ 0x60000001 ∷ 0x80010000 ∷ 0x60000002 ∷ 0x80000001 ∷ []

abbrev pub counts_akers : Counts
counts_akers = record { inputs = 3; graphs = 4; nodes = 3; observable = 1; faults = 14 }

-- the same with an inverter: node 1 reads B inverted, and has its exits the other way round
abbrev pub inverter : List ℕ
inverter = 0x00000000 ∷ 0x00000000 ∷ 0x00000000 ∷ 0x40000003 ∷ 0x60000000 ∷ 0x8000C001 ∷ 0x60010001 ∷ 0x80000004 ∷ 0x60000002 ∷ 0x80000001 ∷ []

abbrev pub akers_f : Bool → Bool → Bool → Bool
akers_f A B C = A || (not B && C)

-- the vectors A0000000 to A0000007
abbrev pub eight : List (List ℕ)
eight = map (λ n. (0xA0000000 + n) ∷ []) (numbers 8)

-- marks: unmarked, and marked first by vector 0 or 1
abbrev pub none : ℕ
none = 0xC0000000

abbrev pub by0 : ℕ
by0 = 0xE0000000

abbrev pub by1 : ℕ
by1 = 0xE0000001

abbrev pub starred : List Row
starred =
    -- starred: the values, the change lists of graphs 0 and 1, the faults caught, the critical nodes (none)
    case
    (record {
      card = S;
      counts = counts_s;
      under = 0xA0000000 ∷ [];
      values = 0 ∷ 0 ∷ 0 ∷ [];
      changes = (0 ∷ 1 ∷ 2 ∷ []) ∷ (1 ∷ []) ∷ (2 ∷ []) ∷ [];
      caught = 7 ∷ 11 ∷ [];
      critical = 0 ∷ 0 ∷ 0 ∷ [];
    })
    -- starred: the values, the faults caught
    ∷ case
    (record {
      card = S;
      counts = counts_s;
      under = 0xA0000001 ∷ [];
      values = 1 ∷ 1 ∷ 1 ∷ [];
      changes = (0 ∷ 1 ∷ 2 ∷ []) ∷ (1 ∷ 2 ∷ []) ∷ (2 ∷ []) ∷ [];
      caught = 0 ∷ 2 ∷ 4 ∷ 6 ∷ 8 ∷ 10 ∷ [];
      critical = 1 ∷ 1 ∷ 1 ∷ [];
    })
    -- starred: that the card is this function
    ∷ function (record { card = akers; counts = counts_akers; under = eight; graph = 3; computes = λ i. akers_f (i 0) (i 1) (i 2) })
    -- starred: the values, the faults caught
    ∷ case
    (record {
      card = akers;
      counts = counts_akers;
      under = 0xA0000004 ∷ [];
      values = 0 ∷ 0 ∷ 1 ∷ 1 ∷ [];
      changes = (0 ∷ []) ∷ (1 ∷ 3 ∷ []) ∷ (2 ∷ 3 ∷ []) ∷ (3 ∷ []) ∷ [];
      caught = 3 ∷ 4 ∷ 9 ∷ 10 ∷ 12 ∷ [];
      critical = 0 ∷ 1 ∷ 1 ∷ [];
    })
    -- starred: the marks
    ∷ grading
    (record {
      card = S;
      counts = counts_s;
      under = [];
      marked = 0;
      total = 10;
      left_out = 8 ∷ 9 ∷ [];
      marks = replicate 12 none;
      tallies = replicate 12 0;
    })
    -- without a star: what cardgrade prints of S. Graph 1 has one reader, so that its faults 8 and 9 are left out (document 02).
    ∷ grading
    (record {
      card = S;
      counts = counts_s;
      under = 0xA0000000 ∷ 0xA0000001 ∷ [];
      marked = 7;
      total = 10;
      left_out = 8 ∷ 9 ∷ [];
      marks = by1 ∷ none ∷ by1 ∷ none ∷ by1 ∷ none ∷ by1 ∷ by0 ∷ by1 ∷ none ∷ by1 ∷ by0 ∷ [];
      tallies = 1 ∷ 0 ∷ 1 ∷ 0 ∷ 1 ∷ 0 ∷ 1 ∷ 1 ∷ 1 ∷ 0 ∷ 1 ∷ 1 ∷ [];
    })
    -- without a star: an inverted read (document 02). The card is the same function,
    ∷ function (record { card = inverter; counts = counts_akers; under = eight; graph = 3; computes = λ i. akers_f (i 0) (i 1) (i 2) })
    -- and all is as in the fourth row but for node 1, whose decision is 1 where B is 0: stuck at its 0-exit it is caught, for its 1-exit there
    ∷ case
    (record {
      card = inverter;
      counts = counts_akers;
      under = 0xA0000004 ∷ [];
      values = 0 ∷ 0 ∷ 1 ∷ 1 ∷ [];
      changes = (0 ∷ []) ∷ (1 ∷ 3 ∷ []) ∷ (2 ∷ 3 ∷ []) ∷ (3 ∷ []) ∷ [];
      caught = 2 ∷ 4 ∷ 9 ∷ 10 ∷ 12 ∷ [];
      critical = 0 ∷ 1 ∷ 1 ∷ [];
    })
    -- The inputs are leads. The pairing crosses over at the inverted read of B, whose faults 8 and 9 go with 3 and 2 of node 1; those of A and C, 6, 7, 10
    -- and 11, go with 0, 1, 4 and 5.
    ∷ grading
    (record {
      card = inverter;
      counts = counts_akers;
      under = 0xA0000004 ∷ 0xA0000006 ∷ [];
      marked = 6;
      total = 8;
      left_out = 6 ∷ 7 ∷ 8 ∷ 9 ∷ 10 ∷ 11 ∷ [];
      marks = none ∷ by1 ∷ by0 ∷ by1 ∷ by0 ∷ none ∷ none ∷ by1 ∷ by1 ∷ by0 ∷ by0 ∷ none ∷ by0 ∷ by1 ∷ [];
      tallies = 0 ∷ 1 ∷ 1 ∷ 1 ∷ 1 ∷ 0 ∷ 0 ∷ 1 ∷ 1 ∷ 1 ∷ 1 ∷ 0 ∷ 1 ∷ 1 ∷ [];
    })
    ∷ []

-- THE STATEMENT: every row holds
abbrev pub Starred : Type 0
unfolding Forall
Starred = Forall Holds starred
