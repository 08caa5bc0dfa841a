-- THE CARD IS THE GATE LIST, as one statement: `AsGates`. The law `drawn-as-gates` (proofs/Same.antt) has it of every accepted gate list. No contract of a
-- call cites it. Assumes nothing.
use Rattle.std.specs.Prelude.{ℕ, ◌<◌, ◌≡◌, List, Ok}
use Rattle.answers.specs.declared.Counts.{Counts}
use Rattle.layout.specs.Layout.{first, is_input, observable, size, reads}
use Rattle.form.specs.Check.{checked}
use Rattle.value.specs.Settings.{Setting, Keeps}
use Rattle.value.specs.Values.{value}
use Rattle.value.specs.Direct.{Direct}
use Rattle.detect.specs.Detects.{observed, detects}
use Rattle.cardtables.specs.Stems.{in_grade, total}
use Rattle.detect.specs.Grading.{tally, mark, marked}
use Rattle.gatelist.specs.Lines.{first_lead, input_line, observable_line, leads, named_line}
use Rattle.gatelist.specs.Gates.{shown, line_value, gate_detects, gate_tally, gate_mark, fault_counts, gate_marked, gate_total}
use Rattle.gatelist.specs.Drawn.{drawn}

module _ (gs : List ℕ) (c : Counts) where
  abbrev card : List ℕ
  card = drawn gs c.graphs

  -- graph l of the card is line l, and the nodes of it are its leads: by the same numbers, and so are its faults
  pub record GraphOf (l : ℕ) : Type 0 where
    pub input : is_input card l ≡ input_line gs l
    pub seen : observable card l ≡ observable_line gs l
    pub start : first card l ≡ first_lead gs l
    pub many : size card l ≡ leads gs l
    pub read : (k : ℕ) → k < leads gs l → reads card l k ≡ named_line gs l k

  pub record AsGates : Type 0 where
    -- it is accepted, with the counts of the gate list; every read is direct
    pub accepted : checked card ≡ Ok c
    pub direct : Direct card c
    pub graphs : (l : ℕ) → l < c.graphs → GraphOf l
    -- ITS VALUES, under every vector and with every setting that gives bits, so with every list of faults: those of the gates
    pub values : (s : Setting) → Keeps s → (x : List ℕ) (l : ℕ) → l < c.graphs → value card c s x l ≡ line_value gs c s x l
    -- so what one setting shows beside another is equal, what a vector catches, and of a list every tally and every mark, fault for fault
    pub shows : (s t : Setting) → Keeps s → Keeps t → (x : List ℕ)
        → observed card c.graphs (value card c s x) (value card c t x) ≡ shown gs c.graphs (line_value gs c s x) (line_value gs c t x)
    pub catches : (x : List ℕ) (f : ℕ) → detects card c x f ≡ gate_detects gs c x f
    pub tallies : (xs : List ℕ) (f : ℕ) → tally card c xs f ≡ gate_tally gs c xs f
    pub marks : (xs : List ℕ) (f : ℕ) → mark card c xs f ≡ gate_mark gs c xs f
    -- and the grade: the same faults count, so as many are marked, of as many
    pub counting : (f : ℕ) → f < c.faults → in_grade card c f ≡ fault_counts gs c f
    pub graded : (xs : List ℕ) → marked card c xs ≡ gate_marked gs c xs
    pub totals : total card c ≡ gate_total gs c
