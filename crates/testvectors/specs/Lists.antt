-- A list of vectors that is lent by words or in bytes, and read in place. No contract of a call cites these. Assumes nothing.
use Rattle.std.specs.Prelude.{◌%◌, List, ℕ, length}
use Rattle.word32.specs.Bytes.{words_of}
use Rattle.answers.specs.Calls.{Lent, lent, whole}
use Rattle.testvectors.specs.declared.VectorList.{VectorList}
use Rattle.testvectors.specs.declared.VectorList.TheVariants.{Words, Bytes}

-- what is lent: the words, or those that the bytes hold, with the bytes that are left over
abbrev pub lent_list : VectorList → Lent
lent_list (Words ws) = whole ws.now
lent_list (Bytes bs) = lent (words_of bs.now) (length bs.now % 4)

-- its words
abbrev pub list_words : VectorList → List ℕ
list_words l = (lent_list l).words
