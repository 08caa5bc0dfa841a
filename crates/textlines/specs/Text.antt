-- What cardgrade prints, as the codes of its characters: document 01, 'Card S and its neighbours'. Assumes nothing.
use Rattle.std.specs.Prelude.{ℕ, zero, suc, ◌+◌, ◌-◌, ◌*◌, ◌/◌, ◌%◌, List, [], ◌∷◌, ◌++◌, Bool, true, false, ltb, eqb}
use Rattle.answers.specs.Limits.{max_faults}
use Rattle.answers.specs.declared.Counts.{Counts}

-- the first of two texts where the test holds, else the second
abbrev pub either : Bool → List ℕ → List ℕ → List ℕ
either true a b = a
either false a b = b

-- The decimal digits of n, the highest first and no zero before them: those of n / 10, and then the last. The code of `0` is 48.
-- The first number bounds the digits that are written; n + 1 of them are always enough.
unfoldable pub digits : ℕ → ℕ → List ℕ
digits zero n = []
digits (suc k) n = either (ltb n 10) ((48 + n) ∷ []) (digits k (n / 10) ++ ((48 + n % 10) ∷ []))

unfoldable pub decimal : ℕ → List ℕ
decimal n = digits (suc n) n

-- the words, and the end of a line
abbrev pub card : List ℕ
card = 99 ∷ 97 ∷ 114 ∷ 100 ∷ []

abbrev pub grade : List ℕ
grade = 103 ∷ 114 ∷ 97 ∷ 100 ∷ 101 ∷ []

abbrev pub refused : List ℕ
refused = 114 ∷ 101 ∷ 102 ∷ 117 ∷ 115 ∷ 101 ∷ 100 ∷ []

abbrev pub short : List ℕ
short = 115 ∷ 104 ∷ 111 ∷ 114 ∷ 116 ∷ []

abbrev pub long : List ℕ
long = 108 ∷ 111 ∷ 110 ∷ 103 ∷ []

abbrev pub end : List ℕ
end = 10 ∷ []

-- a space and a number
abbrev pub field : ℕ → List ℕ
field n = 32 ∷ decimal n

-- a space and the first vector that a mark tells, or `-` where the mark is C0000000
abbrev pub mark_field : ℕ → List ℕ
mark_field m = either (eqb m 0xC0000000) (32 ∷ 45 ∷ []) (field (m - 0xE0000000))

-- the numbers of an accepted card
abbrev pub count_fields : Counts → List ℕ
count_fields c = field c.inputs ++ field c.graphs ++ field c.nodes ++ field c.faults

-- THE LINES: of an accepted card, of fault f with its mark and its tally, of the grade, and of a refusal
unfoldable pub card_line : Counts → List ℕ
card_line c = card ++ count_fields c ++ end

unfoldable pub fault_line : ℕ → ℕ → ℕ → List ℕ
fault_line f m t = decimal f ++ mark_field m ++ field t ++ end

-- a word and two numbers
unfoldable pub line : List ℕ → ℕ → ℕ → List ℕ
line word x y = word ++ field x ++ field y ++ end

abbrev pub grade_line : ℕ → ℕ → List ℕ
grade_line marked total = line grade marked total

abbrev pub refused_line : ℕ → ℕ → List ℕ
refused_line number position = line refused number position

abbrev pub short_line : List ℕ
short_line = short ++ end

abbrev pub long_line : List ℕ
long_line = long ++ end

-- the lines of the faults below f, with their marks and tallies
unfoldable pub fault_lines : (ℕ → ℕ) → (ℕ → ℕ) → ℕ → List ℕ
fault_lines mark tally zero = []
fault_lines mark tally (suc f) = fault_lines mark tally f ++ fault_line f (mark f) (tally f)

-- THE TEXT OF A GRADING: the card, each fault, the grade. The last line alone leaves out the faults that do not count in the grade.
unfoldable pub grading_text : Counts → (ℕ → ℕ) → (ℕ → ℕ) → ℕ → ℕ → List ℕ
grading_text c mark tally marked total = card_line c ++ fault_lines mark tally c.faults ++ grade_line marked total

-- the length of the longest
abbrev pub max_text : ℕ
max_text = 28 * max_faults + 160
