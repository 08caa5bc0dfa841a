-- What cardgrade prints for the bytes that it reads: a card's word count, the card, then vector words to the end; words highest byte first.
-- Document 01, 'Card S and its neighbours'. By the check, the form of lists, and what faults do to values; by no call. Assumes nothing.
use Rattle.std.specs.Prelude.{ℕ, ◌+◌, ◌*◌, ◌/◌, ◌%◌, List, not, ◌||◌, length, take, drop, ltb, eqb, Ok, Err}
use Rattle.lists.specs.Counting.{choose}
use Rattle.word32.specs.Bytes.{word_at, words_of}
use Rattle.answers.specs.Limits.{max_words}
use Rattle.answers.specs.declared.Counts.{Counts}
use Rattle.answers.specs.declared.Refusal.{Refusal}
use Rattle.answers.specs.Answers.{number_of, broken_rule, stands_at, Verdict, Answer}
use Rattle.form.specs.Check.{checked}
use Rattle.cardtables.specs.Stems.{total}
use Rattle.testvectors.specs.Vectors.{list_verdict}
use Rattle.detect.specs.Grading.{mark, tally, marked}
use Rattle.textlines.specs.Text.{either, short_line, long_line, refused_line, grading_text}

-- The most vector words that are taken, and the most bytes that can decide.
abbrev pub max_vector_words : ℕ
max_vector_words = 16384

abbrev pub max_input : ℕ
max_input = 4 + 4 * max_words + 4 * (max_vector_words + 1)

-- A text, or the line of the refusal that stands in its way. `number_of` gives a rule its number: that of a list's rule is 10.
abbrev pub refusal_text : Refusal → List ℕ
refusal_text r = refused_line (number_of (broken_rule r)) (stands_at r)

abbrev pub unless_broken : Verdict → List ℕ → List ℕ
unless_broken (Ok tt) text = text
unless_broken (Err r) text = refusal_text r

abbrev pub if_accepted : Answer → (Counts → List ℕ) → List ℕ
if_accepted (Ok c) text = text c
if_accepted (Err r) text = refusal_text r

-- the card ws with the vector words xs: the card's refusal, the list's, or the grading
unfoldable pub graded_text : List ℕ → List ℕ → List ℕ
graded_text ws xs =
    if_accepted (checked ws) (λ c.
    unless_broken (list_verdict c.inputs xs) (grading_text c (mark ws c xs) (tally ws c xs) (marked ws c xs) (total ws c)))

-- the bytes b in their three parts: the word count, so many words, and all that follows
abbrev pub word_count : List ℕ → ℕ
word_count b = word_at b 0

abbrev pub card_bytes : List ℕ → List ℕ
card_bytes b = take (4 * word_count b) (drop 4 b)

abbrev pub vector_bytes : List ℕ → List ℕ
vector_bytes b = drop (4 + 4 * word_count b) b

-- THE TEXT for the bytes b. No word count: short. A count over 9,216 is refusal 1, whatever follows. A card that is not all there: short.
-- More than 16,384 whole vector words: long, also with a byte left over. A byte left over: short. Else the card is graded.
unfoldable pub text_of : List ℕ → List ℕ
text_of b =
    either (ltb (length b) 4) short_line
    (either (ltb max_words (word_count b)) (refused_line 1 0)
    (either (ltb (length b) (4 + 4 * word_count b)) short_line
    (either (ltb max_vector_words (length (vector_bytes b) / 4)) long_line
    (either (not (eqb (length (vector_bytes b) % 4) 0)) short_line
    (graded_text (words_of (card_bytes b)) (words_of (vector_bytes b)))))))

-- HOW MANY BYTES DECIDE, given the first four: no more after a count that is missing or over 9,216, else the card and one vector word too many.
-- The law `text-front` says that the text of these bytes is the text of all.
unfoldable pub bytes_wanted : List ℕ → ℕ
bytes_wanted b = choose (ltb (length b) 4 || ltb max_words (word_count b)) 4 (4 + 4 * word_count b + 4 * (max_vector_words + 1))
