-- LEADS THAT COUNT A SINGLE TIME (document 02), as rows: which graphs have no stem, and so which faults are left out of the marked count and the total. All
-- faults have their marks and tallies. Assumes nothing.
use Rattle.std.specs.Prelude.{List, [], ◌∷◌}
use mathlib.Mathlib.Data.List.Defs.{Forall}
use Rattle.cases.specs.Rows.{Row, grading, Holds}
use Rattle.cases.specs.Starred.{none, by0, by1}

abbrev pub leads : List Row
leads =
    -- graph 1 is read by both nodes of graph 2: two nodes read it, and it counts; the input has one reader and does not
    grading
    (record {
      card = 0x00000000 ∷ 0x20000001 ∷ 0x60000000 ∷ 0x80000001 ∷ 0x40000002 ∷ 0x60000001 ∷ 0x80000003 ∷ 0x60000001 ∷ 0x80000001 ∷ [];
      counts = record { inputs = 1; graphs = 3; nodes = 3; observable = 1; faults = 12 };
      under = 0xA0000000 ∷ 0xA0000001 ∷ [];
      marked = 8;
      total = 10;
      left_out = 6 ∷ 7 ∷ [];
      marks = by1 ∷ by0 ∷ by1 ∷ none ∷ by1 ∷ none ∷ by1 ∷ by0 ∷ by1 ∷ by0 ∷ by1 ∷ by0 ∷ [];
      tallies = 1 ∷ 1 ∷ 1 ∷ 0 ∷ 1 ∷ 0 ∷ 1 ∷ 1 ∷ 1 ∷ 1 ∷ 1 ∷ 1 ∷ [];
    })
    -- nobody reads the input 1 and graph 2: both count; and so does the input 0, which two nodes read
    ∷ grading
    (record {
      card = 0x00000000 ∷ 0x00000000 ∷ 0x20000001 ∷ 0x60000000 ∷ 0x80000001 ∷ 0x40000001 ∷ 0x60000000 ∷ 0x80004000 ∷ [];
      counts = record { inputs = 2; graphs = 4; nodes = 2; observable = 1; faults = 12 };
      under = 0xA0000000 ∷ 0xA0000001 ∷ [];
      marked = 6;
      total = 12;
      left_out = [];
      marks = none ∷ none ∷ by1 ∷ by0 ∷ by1 ∷ by0 ∷ none ∷ none ∷ none ∷ none ∷ by0 ∷ by1 ∷ [];
      tallies = 0 ∷ 0 ∷ 1 ∷ 1 ∷ 1 ∷ 1 ∷ 0 ∷ 0 ∷ 0 ∷ 0 ∷ 1 ∷ 1 ∷ [];
    })
    -- graph 1 is observable: it counts, though one node alone reads it
    ∷ grading
    (record {
      card = 0x00000000 ∷ 0x40000001 ∷ 0x60000000 ∷ 0x80000001 ∷ 0x40000001 ∷ 0x60000001 ∷ 0x80004000 ∷ [];
      counts = record { inputs = 1; graphs = 3; nodes = 2; observable = 2; faults = 10 };
      under = 0xA0000000 ∷ 0xA0000001 ∷ [];
      marked = 8;
      total = 8;
      left_out = 4 ∷ 5 ∷ [];
      marks = by1 ∷ by0 ∷ by1 ∷ by0 ∷ by1 ∷ by0 ∷ by1 ∷ by0 ∷ by0 ∷ by1 ∷ [];
      tallies = 1 ∷ 1 ∷ 1 ∷ 1 ∷ 1 ∷ 1 ∷ 1 ∷ 1 ∷ 1 ∷ 1 ∷ [];
    })
    -- a chain of leads: the input, graph 1 and graph 2 have one reader each, and none counts
    ∷ grading
    (record {
      card = 0x00000000 ∷ 0x20000001 ∷ 0x60000000 ∷ 0x80000001 ∷ 0x20000001 ∷ 0x60000001 ∷ 0x80004000 ∷ 0x40000001 ∷ 0x60000002 ∷ 0x80000001 ∷ [];
      counts = record { inputs = 1; graphs = 4; nodes = 3; observable = 1; faults = 14 };
      under = 0xA0000001 ∷ [];
      marked = 4;
      total = 8;
      left_out = 6 ∷ 7 ∷ 8 ∷ 9 ∷ 10 ∷ 11 ∷ [];
      marks = by0 ∷ none ∷ by0 ∷ none ∷ none ∷ by0 ∷ by0 ∷ none ∷ by0 ∷ none ∷ none ∷ by0 ∷ none ∷ by0 ∷ [];
      tallies = 1 ∷ 0 ∷ 1 ∷ 0 ∷ 0 ∷ 1 ∷ 1 ∷ 0 ∷ 1 ∷ 0 ∷ 0 ∷ 1 ∷ 0 ∷ 1 ∷ [];
    })
    -- a tree: every graph but the observable one is left out
    ∷ grading
    (record {
      card = 0x00000000 ∷ 0x00000000 ∷ 0x00000000 ∷ 0x20000002 ∷ 0x60000000 ∷ 0x80000003 ∷ 0x60000001 ∷ 0x80000001 ∷ 0x40000002 ∷ 0x60000003 ∷ 0x8000C001 ∷ 0x60000002 ∷ 0x80000001 ∷ [];
      counts = record { inputs = 3; graphs = 5; nodes = 4; observable = 1; faults = 18 };
      under = 0xA0000003 ∷ 0xA0000000 ∷ [];
      marked = 7;
      total = 10;
      left_out = 8 ∷ 9 ∷ 10 ∷ 11 ∷ 12 ∷ 13 ∷ 14 ∷ 15 ∷ [];
      marks = by0 ∷ none ∷ by0 ∷ none ∷ by0 ∷ by1 ∷ none ∷ by1 ∷ by0 ∷ none ∷ by0 ∷ none ∷ none ∷ by1 ∷ by0 ∷ by1 ∷ by0 ∷ by1 ∷ [];
      tallies = 1 ∷ 0 ∷ 1 ∷ 0 ∷ 1 ∷ 1 ∷ 0 ∷ 1 ∷ 1 ∷ 0 ∷ 1 ∷ 0 ∷ 0 ∷ 1 ∷ 1 ∷ 1 ∷ 1 ∷ 1 ∷ [];
    })
    ∷ []

-- THE STATEMENT: every row holds
abbrev pub Leads : Type 0
unfolding Forall
Leads = Forall Holds leads
