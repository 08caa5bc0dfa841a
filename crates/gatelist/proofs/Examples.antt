-- The definitions of gate lists on worked examples, by computing. Assumes nothing.
use Prim.Native.Nat.{ℕ, ◌+◌, ◌-◌}
use mathlib.Core.List.{List, [], ◌∷◌, ◌++◌, map}
use mathlib.Core.Path.{◌≡◌, refl}
use lib.ListN.{replicate}
use Rattle.answers.specs.declared.Counts.{Counts}
use Rattle.answers.specs.Told.{Told, refusal, result, answer_told}
use Rattle.form.specs.Check.{counts}
use Rattle.value.specs.Settings.{faulty}
use Rattle.gatelist.specs.Form.{rest, gates_checked_with}
use Rattle.gatelist.specs.Gates.{line_value}
use Rattle.gatelist.specs.Drawn.{drawn}

-- A gate list with the counts c: the words of its card, and what its last line has under the vectors 0 to 3 with the faults in.
pub record Case : Type 0 where
  pub gates : List ℕ
  pub counted : Counts
  pub words : List ℕ
  pub faults : List ℕ
  pub values : List ℕ

-- one gate of two leads on inputs 0 and 1, of one lead on input 0; its header and what its card and its values are
abbrev two : ℕ → ℕ → ℕ → List ℕ → List ℕ → Case
two w e d faults values = record {
  gates = 0 ∷ 0 ∷ w ∷ 0x60000000 ∷ 0x60000001 ∷ [];
  counted = counts 2 3 2 1;
  words = 0 ∷ 0 ∷ 0x40000002 ∷ 0x60000000 ∷ e ∷ 0x60000001 ∷ d ∷ [];
  faults = faults;
  values = values;
}

abbrev one : ℕ → ℕ → List ℕ → List ℕ → Case
one w e faults values = record {
  gates = 0 ∷ w ∷ 0x60000000 ∷ [];
  counted = counts 1 2 1 1;
  words = 0 ∷ 0x40000001 ∷ 0x60000000 ∷ e ∷ [];
  faults = faults;
  values = values;
}

-- AND, OR, NAND, NOR; NOT, BUF; then faults: lead 0 of an AND at 1, lead 1 of a NOR at 0, both leads of an AND at 1, input 0 of an OR at 1, the line of a
-- NAND at 0, a NOT's lead at 1. Then two NOTs of one input and a NAND that has one of them twice, with its first lead at 1 (fault 5): the second lead
-- still has the line's value.
abbrev pub table : List Case
table =
    two 0x40000002 0x80000003 0x80000001 [] (0 ∷ 0 ∷ 0 ∷ 1 ∷ [])
    ∷ two 0x44000002 0x8000C001 0x80000001 [] (0 ∷ 1 ∷ 1 ∷ 1 ∷ [])
    ∷ two 0x48000002 0x80004003 0x80004000 [] (1 ∷ 1 ∷ 1 ∷ 0 ∷ [])
    ∷ two 0x4C000002 0x8000C000 0x80004000 [] (1 ∷ 0 ∷ 0 ∷ 0 ∷ [])
    ∷ one 0x50000001 0x80004000 [] (1 ∷ 0 ∷ 1 ∷ 0 ∷ [])
    ∷ one 0x54000001 0x80000001 [] (0 ∷ 1 ∷ 0 ∷ 1 ∷ [])
    ∷ two 0x40000002 0x80000003 0x80000001 (1 ∷ []) (0 ∷ 0 ∷ 1 ∷ 1 ∷ [])
    ∷ two 0x4C000002 0x8000C000 0x80004000 (2 ∷ []) (1 ∷ 0 ∷ 1 ∷ 0 ∷ [])
    ∷ two 0x40000002 0x80000003 0x80000001 (1 ∷ 3 ∷ []) (1 ∷ 1 ∷ 1 ∷ 1 ∷ [])
    ∷ two 0x44000002 0x8000C001 0x80000001 (5 ∷ []) (1 ∷ 1 ∷ 1 ∷ 1 ∷ [])
    ∷ two 0x48000002 0x80004003 0x80004000 (8 ∷ []) (0 ∷ 0 ∷ 0 ∷ 0 ∷ [])
    ∷ one 0x50000001 0x80004000 (1 ∷ []) (0 ∷ 0 ∷ 0 ∷ 0 ∷ [])
    ∷ record {
      gates = 0 ∷ 0x30000001 ∷ 0x60000000 ∷ 0x50000001 ∷ 0x60000000 ∷ 0x48000003 ∷ 0x60000001 ∷ 0x60000001 ∷ 0x60000002 ∷ [];
      counted = counts 1 4 5 2;
      words =
          0 ∷ 0x20000001 ∷ 0x60000000 ∷ 0x80004000 ∷ 0x40000001 ∷ 0x60000000 ∷ 0x80004000
          ∷ 0x40000003 ∷ 0x60000001 ∷ 0x80004003 ∷ 0x60000001 ∷ 0x80004004 ∷ 0x60000002 ∷ 0x80004000 ∷ [];
      faults = 5 ∷ [];
      values = 0 ∷ 1 ∷ 0 ∷ 1 ∷ [];
    }
    -- the NOR of line 0 and of a hidden NOT of line 1
    ∷ record {
      gates = 0 ∷ 0 ∷ 0x30000001 ∷ 0x60000001 ∷ 0x4C000002 ∷ 0x60000000 ∷ 0x60000002 ∷ [];
      counted = counts 2 4 3 1;
      words =
          0 ∷ 0 ∷ 0x20000001 ∷ 0x60000001 ∷ 0x80004000 ∷ 0x40000002 ∷ 0x60000000 ∷ 0x8000C000 ∷ 0x60000002 ∷ 0x80004000 ∷ [];
      faults = [];
      values = 0 ∷ 0 ∷ 1 ∷ 0 ∷ [];
    }
    ∷ []

-- a vector of more inputs than a list has is of no accepted form; its values go by the bits that are there
abbrev values_of : Case → ℕ → ℕ
values_of c x = line_value c.gates c.counted (faulty c.faults) ((0xA0000000 + x) ∷ []) (c.counted.graphs - 1)

abbrev pub answered : Case → Case
answered c = record {
  gates = c.gates;
  counted = c.counted;
  words = drawn c.gates c.counted.graphs;
  faults = c.faults;
  values = map (values_of c) (0 ∷ 1 ∷ 2 ∷ 3 ∷ []);
}

-- a gate list and leftover bytes, and what its check tells
pub record Checked : Type 0 where
  pub gates : List ℕ
  pub extra : ℕ
  pub told : Told

abbrev check : List ℕ → ℕ → Told → Checked
check gates extra told = record { gates = gates; extra = extra; told = told }

-- the rules one by one; 2 stands below
abbrev pub refusals : List Checked
refusals =
    check (0 ∷ 0x40000001 ∷ 0x60000000 ∷ []) 0 (result (1 ∷ 2 ∷ 1 ∷ 1 ∷ 6 ∷ []))
    ∷ check (replicate 9217 0) 0 (refusal 1 0)
    ∷ check (0 ∷ 0x60000000 ∷ []) 0 (refusal 4 1)
    ∷ check (0 ∷ 0x10000000 ∷ []) 0 (refusal 5 1)
    ∷ check (0 ∷ 0x42000001 ∷ []) 0 (refusal 5 1)
    ∷ check (0 ∷ 0x40010001 ∷ []) 0 (refusal 5 1)
    ∷ check (0 ∷ 0x40001001 ∷ []) 0 (refusal 3 1)
    ∷ check (0 ∷ 0x40001000 ∷ []) 0 (refusal 4 2)
    ∷ check (0 ∷ 0x40000000 ∷ []) 0 (refusal 15 1)
    ∷ check (0 ∷ 0x58000001 ∷ []) 0 (refusal 15 1)
    ∷ check (0 ∷ 0x5C000001 ∷ []) 0 (refusal 15 1)
    ∷ check (0 ∷ 0x50000002 ∷ []) 0 (refusal 15 1)
    ∷ check (0 ∷ 0x54000002 ∷ []) 0 (refusal 15 1)
    ∷ check (0 ∷ 0x54000000 ∷ []) 0 (refusal 15 1)
    ∷ check (0 ∷ 0x40000002 ∷ 0x60000000 ∷ []) 0 (refusal 4 3)
    ∷ check (0 ∷ 0x40000001 ∷ 0x70000000 ∷ []) 0 (refusal 5 2)
    ∷ check (0 ∷ 0x40000001 ∷ 0x60010000 ∷ []) 0 (refusal 5 2)
    ∷ check (0 ∷ 0x40000001 ∷ 0x60000001 ∷ []) 0 (refusal 16 2)
    ∷ check (0 ∷ 0x20000001 ∷ 0x60000000 ∷ []) 0 (refusal 9 3)
    ∷ check [] 0 (refusal 9 0)
    ∷ []

-- 1,023 inputs, a gate of one lead, and then the word w, where the header of line 1,025 is due: rule 2, whatever else w breaks
abbrev past-the-last : ℕ → List ℕ
past-the-last w = replicate 1023 0 ++ (0x40000001 ∷ 0x60000000 ∷ w ∷ [])

-- THE ORDER, at a header 2, 4, 5, 3, 15 and at a lead 4, 5, 16: each row breaks the rule that is told and one that comes after it
abbrev pub twice-broken : List Checked
twice-broken =
    -- 1 before any word's rule, here 5 at word 0
    check (replicate 9217 1) 0 (refusal 1 0)
    -- at a header 2 first: all bits set break 4, 5, 3 and 15 too; `too_many` has these one by one
    ∷ check (past-the-last 0xFFFFFFFF) 0 (refusal 2 1025)
    -- 4 before 5, of another kind and of an input after a gate; 5 before 3; 3 before 15
    ∷ check (0 ∷ 0x61010000 ∷ []) 0 (refusal 4 1)
    ∷ check (0 ∷ 0x40000001 ∷ 0x60000000 ∷ 1 ∷ []) 0 (refusal 4 3)
    ∷ check (0 ∷ 0x42001001 ∷ []) 0 (refusal 5 1)
    ∷ check (0 ∷ 0x40011001 ∷ []) 0 (refusal 5 1)
    ∷ check (0 ∷ 0x58001001 ∷ []) 0 (refusal 3 1)
    -- at a lead 4 before 5, 5 before 16
    ∷ check (0 ∷ 0x40000001 ∷ 0x80010001 ∷ []) 0 (refusal 4 2)
    ∷ check (0 ∷ 0x40000001 ∷ 0x60010001 ∷ []) 0 (refusal 5 2)
    ∷ check (0 ∷ 0x40000001 ∷ 0x70000001 ∷ []) 0 (refusal 5 2)
    -- an earlier word before a later one: 5 at word 0 before 2 at word 1,024; 15 at a header and 16 at a lead before 4 at the next word and at the end
    ∷ check (replicate 1025 1) 0 (refusal 5 0)
    ∷ check (0 ∷ 0x58000001 ∷ 0x40000000 ∷ []) 0 (refusal 15 1)
    ∷ check (0 ∷ 0x40000002 ∷ 0x60000001 ∷ 0x40000000 ∷ []) 0 (refusal 16 2)
    ∷ check (0 ∷ 0x40000002 ∷ 0x60000001 ∷ []) 0 (refusal 16 2)
    -- every word's before bytes left over (4), and these before 9
    ∷ check (0 ∷ 0x40000001 ∷ 0x60000001 ∷ []) 1 (refusal 16 2)
    ∷ check (0 ∷ 0x20000001 ∷ 0x60000000 ∷ []) 1 (refusal 4 3)
    ∷ []

-- A gate list, what the check has counted of its first lines, and what it tells from there on. Of a list of 1,024 lines the whole check takes long to compute.
pub record Part : Type 0 where
  pub gates : List ℕ
  pub counted : Counts
  pub told : Told

abbrev part : List ℕ → Counts → Told → Part
part gates counted told = record { gates = gates; counted = counted; told = told }

-- 2 alone; 2 before 4, another kind and an input after a gate; before 5; before 3, 4,097 leads; before 15, no lead and function 6. 2 before 5 at an input, after
-- 1,024 inputs.
abbrev pub too_many : List Part
too_many =
    part (past-the-last 0x40000001) (counts 1023 1024 1 1) (refusal 2 1025)
    ∷ part (past-the-last 0x60000000) (counts 1023 1024 1 1) (refusal 2 1025)
    ∷ part (past-the-last 0x00000000) (counts 1023 1024 1 1) (refusal 2 1025)
    ∷ part (past-the-last 0x40010001) (counts 1023 1024 1 1) (refusal 2 1025)
    ∷ part (past-the-last 0x40001000) (counts 1023 1024 1 1) (refusal 2 1025)
    ∷ part (past-the-last 0x40000000) (counts 1023 1024 1 1) (refusal 2 1025)
    ∷ part (past-the-last 0x58000001) (counts 1023 1024 1 1) (refusal 2 1025)
    ∷ part (replicate 1024 0 ++ (1 ∷ [])) (counts 1024 1024 0 0) (refusal 2 1024)
    ∷ []

-- cards and values
pub gate-examples : map answered table ≡ table
unfolding drawn line_value faulty
gate-examples = refl

-- every row of the check is told as it says
abbrev pub AllTold : List Checked → Type 0
AllTold rows = map (λ (r : Checked). answer_told (gates_checked_with r.gates r.extra)) rows ≡ map (λ (r : Checked). r.told) rows

abbrev pub AllToldFrom : List Part → Type 0
unfolding rest
AllToldFrom rows = map (λ (r : Part). answer_told (rest r.gates 0 (1025 - r.counted.graphs) r.counted)) rows ≡ map (λ (r : Part). r.told) rows

pub gate-check-examples : AllTold refusals × AllTold twice-broken × AllToldFrom too_many
unfolding gates_checked_with answer_told
gate-check-examples = (refl, refl, refl)
