-- The values of a gate list's lines under a vector, with leads and lines stuck, and what a vector catches: by gates alone. For an accepted gate list with
-- the counts c, which has c.graphs lines and N = c.nodes leads. Assumes nothing.
--
-- Lead j is site j, and line l is site N + l. So fault 2j holds lead j at 0 and 2j + 1 at 1, and fault 2N + 2l holds line l at 0 and 2N + 2l + 1 at 1;
-- a setting says what a site has where v is worked out there (`value`, Settings: `good`, `stuck`, `faulty`). A stuck lead is what its own gate takes for
-- the value of the line; the other leads of the line are not altered.
use Rattle.std.specs.Prelude.{ℕ, ◌+◌, ◌-◌, ◌/◌, List, [], ◌∷◌, Bool, ◌&&◌, ◌||◌, get_or}
use Rattle.std.proofs.Math.Bool.{not}
use Rattle.std.proofs.Math.Dec.{ltb, eqb}
use Rattle.lists.specs.Counting.{choose, some_below, count}
use Rattle.lists.specs.Tables.{at, Net, grow}
use Rattle.word32.specs.Fields.{kind, lead_line}
use Rattle.answers.specs.declared.Counts.{Counts}
use Rattle.testvectors.specs.Vectors.{bit, vectors, vector}
use Rattle.value.specs.Settings.{Setting, good, faulty}
use Rattle.detect.specs.Relation.{tally_of, mark_of, marked_of}
use Rattle.gatelist.specs.Lines.{first_lead, input_line, observable_line, function, leads, named_line}

-- AND of n leads with the values v: 0 where one of them is 0, else 1. OR: 1 where one of them is 1, else 0
abbrev pub and_of : ℕ → (ℕ → ℕ) → ℕ
and_of n v = choose (some_below (λ k. eqb (v k) 0) n) 0 1

abbrev pub or_of : ℕ → (ℕ → ℕ) → ℕ
or_of n v = choose (some_below (λ k. eqb (v k) 1) n) 1 0

-- THE VALUE OF A GATE by its function: 0 AND, 1 OR, 2 NAND, 3 NOR, 4 NOT, 5 BUF. The last two have one lead.
unfoldable pub gate : ℕ → ℕ → (ℕ → ℕ) → ℕ
unfolding some_below
gate f n v =
    choose (eqb f 0) (and_of n v)
    (choose (eqb f 1) (or_of n v)
    (choose (eqb f 2) (1 - and_of n v)
    (choose (eqb f 3) (1 - or_of n v)
    (choose (eqb f 4) (1 - v 0) (v 0)))))

module _ (gs : List ℕ) where
  -- what lead k of line l has, where the lines have the values v
  abbrev pub lead_value : Setting → (ℕ → ℕ) → ℕ → ℕ → ℕ
  lead_value s v l k = s (first_lead gs l + k) (v (named_line gs l k))

  -- what line l has: an input its vector bit, a gate its function of its leads; N is the number of leads
  unfoldable pub line : ℕ → Setting → List ℕ → Net
  unfolding gate input_line function leads named_line bit
  line N s x v l = s (N + l) (choose (input_line gs l) (bit x l) (gate (function gs l) (leads gs l) (lead_value s v l)))

  -- some observable line of the first n has another value in w than in v
  unfoldable pub shown : ℕ → (ℕ → ℕ) → (ℕ → ℕ) → Bool
  unfolding some_below observable_line
  shown n v w = some_below (λ l. observable_line gs l && not (eqb (w l) (v l))) n

  module _ (c : Counts) where
    -- THE VALUE of line l under the vector x, with a setting: lines in their order, each from those before it
    unfoldable pub line_value : Setting → List ℕ → ℕ → ℕ
    unfolding line grow
    line_value s x l = at (grow (line c.nodes s x) c.graphs) l

    -- THE VECTOR CATCHES FAULT f, or detects it: with it in, an observable line differs from its good value
    unfoldable pub gate_detects : List ℕ → ℕ → Bool
    unfolding shown line_value
    gate_detects x f = shown c.graphs (line_value good x) (line_value (faulty (f ∷ [])) x)

    -- of a list of vectors xs: what catches fault f, how many do, and its mark
    abbrev pub gate_detected_by : List ℕ → ℕ → ℕ → Bool
    gate_detected_by xs f t = gate_detects (vector c.inputs xs t) f

    abbrev pub gate_tally : List ℕ → ℕ → ℕ
    gate_tally xs = tally_of (gate_detected_by xs) (vectors c.inputs xs)

    abbrev pub gate_mark : List ℕ → ℕ → ℕ
    gate_mark xs = mark_of (gate_detected_by xs) (vectors c.inputs xs)

    -- THE GRADE (document 02, 'A lead counts a single time'). How many leads name line l: the words of kind 3 with its number. A fault counts if it is
    -- of a lead, of an observable line, or of a line that no lead or more than one lead names.
    unfoldable pub line_readers : ℕ → ℕ
    unfolding count
    line_readers l = count (λ p. eqb (kind (get_or gs p 0)) 3 && eqb (lead_line (get_or gs p 0)) l) (c.graphs + c.nodes)

    unfoldable pub fault_counts : ℕ → Bool
    unfolding line_readers observable_line
    fault_counts f = ltb (f / 2) c.nodes || (observable_line gs (f / 2 - c.nodes) || not (eqb (line_readers (f / 2 - c.nodes)) 1))

    -- how many of the faults that count some vector catches, and how many count
    abbrev pub gate_marked : List ℕ → ℕ
    gate_marked xs = marked_of (gate_detected_by xs) fault_counts (vectors c.inputs xs) c.faults

    abbrev pub gate_total : ℕ
    gate_total = count fault_counts c.faults
