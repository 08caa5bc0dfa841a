-- The check's definition on document 01's examples of refusals 1 to 9, in the order of its table, on cards that break two rules that stand side by side in
-- document 01's order, and on inverted reads, by computing. Assumes nothing.
use Prim.Native.Nat.{ℕ, ◌-◌}
use mathlib.Core.List.{List, [], ◌∷◌, ◌++◌, map}
use mathlib.Core.Path.{◌≡◌, refl}
use lib.ListN.{replicate}
use Rattle.form.specs.Check.{counts, rest, checked_with}
use Rattle.answers.specs.declared.Counts.{Counts}
use Rattle.answers.specs.Told.{Told, refusal, result, answer_told}

abbrev pub S : List ℕ
S = 0x00000000 ∷ 0x20000001 ∷ 0x60000000 ∷ 0x80000001 ∷ 0x40000002 ∷ 0x60000001 ∷ 0x80000003 ∷ 0x60000000 ∷ 0x80000001 ∷ []

-- Akers's f
abbrev pub F : List ℕ
F = 0 ∷ 0 ∷ 0 ∷ 0x40000003 ∷ 0x60000000 ∷ 0x8000C001 ∷ 0x60000001 ∷ 0x80010000 ∷ 0x60000002 ∷ 0x80000001 ∷ []

-- a card, the bytes after it that make no word, and what its check tells: inputs, graphs, nodes, observable graphs, faults; or a refusal's number and
-- position
pub record Case : Type 0 where
  pub card : List ℕ
  pub extra : ℕ
  pub told : Told

abbrev check : List ℕ → ℕ → Told → Case
check card extra told = record { card = card; extra = extra; told = told }

abbrev pub table : List Case
table =
    check S 0 (result (1 ∷ 3 ∷ 3 ∷ 1 ∷ 12 ∷ []))
    ∷ check F 0 (result (3 ∷ 4 ∷ 3 ∷ 1 ∷ 14 ∷ []))
    ∷ check (replicate 9217 0) 0 (refusal 1 0)
    ∷ check (replicate 1025 0) 0 (refusal 2 1024)
    ∷ check (0 ∷ 0x20000000 ∷ []) 0 (refusal 3 1)
    ∷ check (0 ∷ 0x60000000 ∷ []) 0 (refusal 4 1)
    ∷ check (1 ∷ []) 0 (refusal 5 0)
    ∷ check (0 ∷ 0x40000001 ∷ 0x60000001 ∷ 0x80000001 ∷ []) 0 (refusal 6 2)
    ∷ check (0 ∷ 0x40000001 ∷ 0x60000000 ∷ 0x80000002 ∷ []) 0 (refusal 7 3)
    ∷ check (0 ∷ 0x40000002 ∷ 0x60000000 ∷ 0x80000001 ∷ 0x60000000 ∷ 0x80000001 ∷ []) 0 (refusal 8 1)
    ∷ check (0 ∷ []) 0 (refusal 9 1)
    ∷ check [] 0 (refusal 9 0)
    ∷ check S 1 (refusal 4 9)
    ∷ []

-- a graph of two nodes of which no exit names the second, rule 8, with the header w
abbrev unnamed-second : ℕ → List ℕ
unnamed-second w = w ∷ 0x60000000 ∷ 0x80000001 ∷ 0x60000000 ∷ 0x80000001 ∷ []

-- THE ORDER: each row breaks the rule that is told and one that comes after it
abbrev pub twice-broken : List Case
twice-broken =
    -- 1 before any word's rule, here 5 at word 0
    check (replicate 9217 1) 0 (refusal 1 0)
    -- at one word 2 first, as the rows of `too_many` have it, and then the kind (4) before the bits that must be zero (5): of a header, of an input after an
    -- output, of a read, of exits
    ∷ check (0 ∷ 0x60010000 ∷ []) 0 (refusal 4 1)
    ∷ check (0 ∷ 0x40000001 ∷ 0x60000000 ∷ 0x80000001 ∷ 0x00000001 ∷ []) 0 (refusal 4 4)
    ∷ check (0 ∷ 0x40000001 ∷ 0x80020000 ∷ 0x80000001 ∷ []) 0 (refusal 4 2)
    ∷ check (0 ∷ 0x40000001 ∷ 0x60000000 ∷ 0x70000001 ∷ []) 0 (refusal 4 3)
    -- and these bits before the count (3), none and 4,097, the graph read (6) and the exits (7)
    ∷ check (0 ∷ 0x20010000 ∷ []) 0 (refusal 5 1)
    ∷ check (0 ∷ 0x40011001 ∷ []) 0 (refusal 5 1)
    ∷ check (0 ∷ 0x40000001 ∷ 0x60020001 ∷ 0x80000001 ∷ []) 0 (refusal 5 2)
    ∷ check (0 ∷ 0x40000001 ∷ 0x60000000 ∷ 0x90000002 ∷ []) 0 (refusal 5 3)
    -- an earlier word before a later one: 3 at a header, 6 at a read and 7 at exits before 4 at the next word; 6 and 7 before the end inside a graph (4)
    ∷ check (0 ∷ 0x40000000 ∷ 0x60000000 ∷ []) 0 (refusal 3 1)
    ∷ check (0 ∷ 0x40000001 ∷ 0x60000001 ∷ 0x60000000 ∷ []) 0 (refusal 6 2)
    ∷ check (0 ∷ 0x40000002 ∷ 0x60000000 ∷ 0x80000002 ∷ 0x80000001 ∷ []) 0 (refusal 7 3)
    ∷ check (0 ∷ 0x40000001 ∷ 0x60000001 ∷ []) 0 (refusal 6 2)
    ∷ check (0 ∷ 0x40000002 ∷ 0x60000000 ∷ 0x80000002 ∷ []) 0 (refusal 7 3)
    -- 8 after the graph's last word: 7 at that word comes first, and so does the end before it (4)
    ∷ check (0 ∷ 0x40000002 ∷ 0x60000000 ∷ 0x80000001 ∷ 0x60000000 ∷ 0x80000002 ∷ []) 0 (refusal 7 5)
    ∷ check (0 ∷ 0x40000002 ∷ 0x60000000 ∷ 0x80000001 ∷ 0x60000000 ∷ []) 0 (refusal 4 5)
    -- and before the next word's: 4, 5 and 3; before bytes left over (4), and before 9
    ∷ check (0 ∷ unnamed-second 0x40000002 ++ (0x60000000 ∷ [])) 0 (refusal 8 1)
    ∷ check (0 ∷ unnamed-second 0x40000002 ++ (0x40010001 ∷ [])) 0 (refusal 8 1)
    ∷ check (0 ∷ unnamed-second 0x40000002 ++ (0x40000000 ∷ [])) 0 (refusal 8 1)
    ∷ check (0 ∷ unnamed-second 0x40000002) 1 (refusal 8 1)
    ∷ check (0 ∷ unnamed-second 0x20000002) 0 (refusal 8 1)
    -- every word's before bytes left over, and these before 9
    ∷ check (1 ∷ []) 3 (refusal 5 0)
    ∷ check (0 ∷ []) 1 (refusal 4 1)
    ∷ []

-- A card, what the check has counted of its first graphs, and what it tells from there on. Of a card of 1,024 graphs the whole check takes long to compute.
pub record Part : Type 0 where
  pub card : List ℕ
  pub counted : Counts
  pub told : Told

abbrev part : List ℕ → Counts → Told → Part
part card counted told = record { card = card; counted = counted; told = told }

-- 1,023 inputs, an output of one node, and then the word w, where the header of graph 1,025 is due: rule 2, whatever else w breaks
abbrev past-the-last : ℕ → List ℕ
past-the-last w = replicate 1023 0 ++ (0x40000001 ∷ 0x60000000 ∷ 0x80000001 ∷ w ∷ [])

-- The first row breaks 2, 4, 5 and 3 at once, and the check comes to that word by its own counting, from graph 1,000 on. Then one by one: 2 before 4, another
-- kind and an input after an output; before 5; before 3, no node and 4,097 of them. 2 before 5 at an input, after 1,024 inputs. And 8 of graph 1,024 before 2 at
-- the word after it.
abbrev pub too_many : List Part
too_many =
    part (past-the-last 0xFFFFFFFF) (counts 1000 1000 0 0) (refusal 2 1026)
    ∷ part (past-the-last 0x60000000) (counts 1023 1024 1 1) (refusal 2 1026)
    ∷ part (past-the-last 0x00000000) (counts 1023 1024 1 1) (refusal 2 1026)
    ∷ part (past-the-last 0x40010001) (counts 1023 1024 1 1) (refusal 2 1026)
    ∷ part (past-the-last 0x40000000) (counts 1023 1024 1 1) (refusal 2 1026)
    ∷ part (past-the-last 0x40001000) (counts 1023 1024 1 1) (refusal 2 1026)
    ∷ part (replicate 1024 0 ++ (1 ∷ [])) (counts 1024 1024 0 0) (refusal 2 1024)
    ∷ part (replicate 1023 0 ++ unnamed-second 0x40000002 ++ (0 ∷ [])) (counts 1023 1023 0 0) (refusal 8 1023)
    ∷ []

-- bit 16 of a read is free (document 02), and in a header it is not; bits 17 and 28 of a read are not either
abbrev pub inverted-read : List Case
inverted-read =
    check (0 ∷ 0x40000001 ∷ 0x60010000 ∷ 0x80000001 ∷ []) 0 (result (1 ∷ 2 ∷ 1 ∷ 1 ∷ 6 ∷ []))
    ∷ check (0 ∷ 0x40000001 ∷ 0x60020000 ∷ 0x80000001 ∷ []) 0 (refusal 5 2)
    ∷ check (0 ∷ 0x40000001 ∷ 0x70010000 ∷ 0x80000001 ∷ []) 0 (refusal 5 2)
    ∷ check (0 ∷ 0x40000001 ∷ 0x60010001 ∷ 0x80000001 ∷ []) 0 (refusal 6 2)
    ∷ check (0 ∷ 0x40010001 ∷ 0x60000000 ∷ 0x80000001 ∷ []) 0 (refusal 5 1)
    ∷ []

-- every row is told as it says
abbrev pub AllTold : List Case → Type 0
AllTold rows = map (λ (r : Case). answer_told (checked_with r.card r.extra)) rows ≡ map (λ (r : Case). r.told) rows

abbrev pub AllToldFrom : List Part → Type 0
unfolding rest
AllToldFrom rows = map (λ (r : Part). answer_told (rest r.card 0 (1025 - r.counted.graphs) r.counted)) rows ≡ map (λ (r : Part). r.told) rows

pub check-examples : AllTold table × AllTold twice-broken × AllToldFrom too_many × AllTold inverted-read
unfolding checked_with answer_told
check-examples = (refl, refl, refl, refl)
