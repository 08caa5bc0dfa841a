-- The joined card's definition on worked examples, by computing. Assumes nothing.
use Prim.Native.Nat.{ℕ}
use mathlib.Core.List.{List, [], ◌∷◌, ◌++◌, map}
use mathlib.Core.Path.{◌≡◌, refl}
use Rattle.answers.specs.declared.Counts.{Counts}
use Rattle.answers.specs.Told.{Told, refusal, result, answer_told, reply_told}
use Rattle.answers.specs.Tests.{first_broken}
use Rattle.answers.specs.Calls.{work, outcome_by}
use Rattle.form.specs.Check.{counts, card_length, checked_with, checked}
use Rattle.form.proofs.Examples.{S, F}
use Rattle.wiring.specs.Joined.{joined_counts, joined, join_tests}

-- a card, its counts and its wires, the words of what it makes on S, and what the check tells of these
pub record Case : Type 0 where
  pub card : List ℕ
  pub counted : Counts
  pub wires : List ℕ
  pub words : List ℕ
  pub told : Told

abbrev counts_s : Counts
counts_s = counts 1 3 3 1

abbrev counts_f : Counts
counts_f = counts 3 4 3 1

-- S on S, by each of its graphs: its input, the hidden one and the observable one; and S beside S. Then F on S: two inputs wired to the hidden graph
-- and one free; and all three wired. Where no input is free, the words of A come first as they are.
abbrev pub table : List Case
table =
    record {
      card = S;
      counted = counts_s;
      wires = 0 ∷ [];
      words = S ++ (0x20000001 ∷ 0x60000000 ∷ 0x80000001 ∷ 0x40000002 ∷ 0x60000003 ∷ 0x80000003 ∷ 0x60000000 ∷ 0x80000001 ∷ []);
      told = result (1 ∷ 5 ∷ 6 ∷ 2 ∷ 22 ∷ []);
    }
    ∷ record {
      card = S;
      counted = counts_s;
      wires = 1 ∷ [];
      words = S ++ (0x20000001 ∷ 0x60000001 ∷ 0x80000001 ∷ 0x40000002 ∷ 0x60000003 ∷ 0x80000003 ∷ 0x60000001 ∷ 0x80000001 ∷ []);
      told = result (1 ∷ 5 ∷ 6 ∷ 2 ∷ 22 ∷ []);
    }
    ∷ record {
      card = S;
      counted = counts_s;
      wires = 2 ∷ [];
      words = S ++ (0x20000001 ∷ 0x60000002 ∷ 0x80000001 ∷ 0x40000002 ∷ 0x60000003 ∷ 0x80000003 ∷ 0x60000002 ∷ 0x80000001 ∷ []);
      told = result (1 ∷ 5 ∷ 6 ∷ 2 ∷ 22 ∷ []);
    }
    ∷ record {
      card = S;
      counted = counts_s;
      wires = 0xFFFFFFFF ∷ [];
      words =
          0 ∷ 0 ∷ 0x20000001 ∷ 0x60000000 ∷ 0x80000001 ∷ 0x40000002 ∷ 0x60000002 ∷ 0x80000003 ∷ 0x60000000 ∷ 0x80000001
          ∷ 0x20000001 ∷ 0x60000001 ∷ 0x80000001 ∷ 0x40000002 ∷ 0x60000004 ∷ 0x80000003 ∷ 0x60000001 ∷ 0x80000001 ∷ [];
      told = result (2 ∷ 6 ∷ 6 ∷ 2 ∷ 24 ∷ []);
    }
    ∷ record {
      card = F;
      counted = counts_f;
      wires = 1 ∷ 0xFFFFFFFF ∷ 1 ∷ [];
      words =
          0 ∷ 0 ∷ 0x20000001 ∷ 0x60000000 ∷ 0x80000001 ∷ 0x40000002 ∷ 0x60000002 ∷ 0x80000003 ∷ 0x60000000 ∷ 0x80000001
          ∷ 0x40000003 ∷ 0x60000002 ∷ 0x8000C001 ∷ 0x60000001 ∷ 0x80010000 ∷ 0x60000002 ∷ 0x80000001 ∷ [];
      told = result (2 ∷ 5 ∷ 6 ∷ 2 ∷ 22 ∷ []);
    }
    ∷ record {
      card = F;
      counted = counts_f;
      wires = 0 ∷ 1 ∷ 2 ∷ [];
      words = S ++ (0x40000003 ∷ 0x60000000 ∷ 0x8000C001 ∷ 0x60000001 ∷ 0x80010000 ∷ 0x60000002 ∷ 0x80000001 ∷ []);
      told = result (1 ∷ 4 ∷ 6 ∷ 2 ∷ 20 ∷ []);
    }
    -- an inverter on the hidden graph of S: the read keeps its bit 16
    ∷ record {
      card = 0 ∷ 0x40000001 ∷ 0x60010000 ∷ 0x80000001 ∷ [];
      counted = counts 1 2 1 1;
      wires = 1 ∷ [];
      words = S ++ (0x40000001 ∷ 0x60010001 ∷ 0x80000001 ∷ []);
      told = result (1 ∷ 4 ∷ 4 ∷ 2 ∷ 16 ∷ []);
    }
    ∷ []

abbrev pub answered : Case → Case
answered c =
    let js = joined counts_s c.counted c.wires S c.card in
    record { card = c.card; counted = c.counted; wires = c.wires; words = js; told = answer_told (checked js) }

-- the counts of two cards, wires and a buffer's room, and what the tests after the checks tell of them
pub record Tried : Type 0 where
  pub first : Counts
  pub second : Counts
  pub wires : List ℕ
  pub room : ℕ
  pub told : Told

abbrev try : Counts → Counts → List ℕ → ℕ → Told → Tried
try A B wires room told = record { first = A; second = B; wires = wires; room = room; told = told }

-- Rule 13: another number of wire words is told before any word, and then the first wrong word. It comes before 14, that before 12. At the limits
-- 1,024 graphs and 4,096 nodes pass; one more does not.
abbrev pub orders : List Tried
orders =
    try counts_s counts_s [] 17 (refusal 13 0)
    ∷ try counts_s counts_f (0 ∷ 9 ∷ []) 0 (refusal 13 0)
    ∷ try counts_s counts_f (2 ∷ 3 ∷ 9 ∷ []) 0 (refusal 13 1)
    ∷ try counts_s counts_f (0xFFFFFFFF ∷ 0 ∷ 0xFFFFFFFE ∷ []) 17 (refusal 13 2)
    ∷ try (counts 1 1023 1022 1) counts_s (1023 ∷ []) 0 (refusal 13 0)
    ∷ try (counts 1 1023 1022 1) counts_s (1022 ∷ []) 0 (refusal 14 0)
    ∷ try (counts 1 1022 1021 1) counts_s (1021 ∷ []) 3072 (result (3072 ∷ []))
    ∷ try (counts 1 2 4094 1) counts_s (0 ∷ []) 0 (refusal 14 0)
    ∷ try (counts 1 2 4093 1) counts_s (0 ∷ []) 0 (refusal 12 0)
    ∷ try counts_s counts_s (0 ∷ []) 16 (refusal 12 0)
    ∷ try counts_s counts_s (0 ∷ []) 17 (result (17 ∷ []))
    ∷ []

abbrev pub tried : Tried → Tried
tried t =
    let n = card_length (joined_counts t.first t.second t.wires) in
    let w = work (join_tests t.first t.second t.wires n t.room) n [] in
    try t.first t.second t.wires t.room (reply_told (outcome_by (first_broken w.tests) w).reply)

pub join-examples : (map answered table ≡ table) × (map tried orders ≡ orders)
unfolding joined join_tests checked_with answer_told reply_told
join-examples = (refl, refl)
