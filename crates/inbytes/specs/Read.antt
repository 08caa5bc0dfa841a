-- Words read from bytes into the front of a buffer. No contract of a call cites these. Assumes nothing.
use Rattle.std.specs.Prelude.{ℕ, ◌≤◌, ◌≡◌, List, length, take}
use Rattle.word32.specs.Bytes.{words_of}

-- the first words of the bytes b, as many as there are or as a buffer of n words holds: r of them
pub record WordsRead (b : List ℕ) (n r : ℕ) (out : List ℕ) : Type 0 where
  pub fits : r ≤ length out
  pub front : take r out ≡ take n (words_of b)
