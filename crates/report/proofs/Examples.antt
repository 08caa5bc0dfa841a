-- The definition of the text on document 01's worked case, by computing: card S with A0000000 A0000001. Assumes nothing.
use Prim.Native.Nat.{ℕ}
use mathlib.Core.List.{List, [], ◌∷◌, ◌++◌}
use mathlib.Core.Path.{◌≡◌, refl}
use Rattle.word32.specs.Bytes.{word_at, byte_of}
use Rattle.lists.specs.Tables.{grow, tab}
use Rattle.form.specs.Check.{checked_with}
use Rattle.layout.specs.Layout.{observable, is_input, size, exits, reads, decides}
use Rattle.cardtables.specs.Stems.{total}
use Rattle.testvectors.specs.Vectors.{bit, list_verdict}
use Rattle.value.specs.Settings.{faulty}
use Rattle.value.specs.Values.{value}
use Rattle.detect.specs.Grading.{mark, tally, marked}
use Rattle.form.proofs.Examples.{S}
use Rattle.textlines.specs.Text.{decimal, digits, card_line, fault_line, fault_lines, line, grading_text}
use Rattle.report.specs.Report.{graded_text, text_of}

-- the bytes read: the word count, S and the two vectors
abbrev input : List ℕ
input = tab (byte_of (9 ∷ S ++ (0xA0000000 ∷ 0xA0000001 ∷ []))) 48

-- a fault's line: its last digit, the first vector and the tally, each of one digit
abbrev told : ℕ → ℕ → ℕ → List ℕ
told f v t = f ∷ 32 ∷ v ∷ 32 ∷ t ∷ 10 ∷ []

-- `0` is 48, `-` is 45
abbrev lines : List ℕ
lines =
    (99 ∷ 97 ∷ 114 ∷ 100 ∷ 32 ∷ 49 ∷ 32 ∷ 51 ∷ 32 ∷ 51 ∷ 32 ∷ 49 ∷ 50 ∷ 10 ∷ [])
    ++ told 48 49 49 ++ told 49 45 48 ++ told 50 49 49 ++ told 51 45 48 ++ told 52 49 49 ++ told 53 45 48
    ++ told 54 49 49 ++ told 55 48 49 ++ told 56 49 49 ++ told 57 45 48
    ++ (49 ∷ told 48 49 49) ++ (49 ∷ told 49 48 49)
    ++ (103 ∷ 114 ∷ 97 ∷ 100 ∷ 101 ∷ 32 ∷ 55 ∷ 32 ∷ 49 ∷ 48 ∷ 10 ∷ [])

pub S-text : text_of input ≡ lines
unfolding text_of graded_text grading_text card_line fault_line fault_lines line decimal digits word_at byte_of grow checked_with
    list_verdict mark tally marked total observable is_input size exits reads decides bit faulty value
S-text = refl
