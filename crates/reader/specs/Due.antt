-- What is due at a position of a list of words, and the position due after it. Assumes nothing.
use Rattle.std.specs.Prelude.{ℕ, ◌+◌, List, Bool, true, false, length, get_or, ltb, Result, Ok, Err}

-- what is due: a word and its position, or at the end the number of words
abbrev pub Due : Type 0
Due = Result (ℕ × ℕ) ℕ

-- the first of two answers where the test holds, else the second; and of two positions
abbrev pub pick : Bool → Due → Due → Due
pick true a b = a
pick false a b = b

abbrev pub pick_n : Bool → ℕ → ℕ → ℕ
pick_n true a b = a
pick_n false a b = b

-- the word at p with its position, where the list reaches that far; else the end, with the number of words
unfoldable pub due_at : List ℕ → ℕ → Due
due_at ws p = pick (ltb p (length ws)) (Ok (get_or ws p 0, p)) (Err (length ws))

-- one position on, where the list reaches that far
unfoldable pub after_at : List ℕ → ℕ → ℕ
after_at ws p = pick_n (ltb p (length ws)) (p + 1) p
