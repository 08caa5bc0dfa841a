-- What functions ask of vectors: that they are long enough, and that they are a part of a list. No contract of a public call cites these. Assumes nothing.
use Rattle.std.specs.Prelude.{ℕ, ◌+◌, ◌*◌, ◌/◌, ◌<◌, ◌≡◌, List, length}
use Rattle.testvectors.specs.Vectors.{width, vectors, vector}

-- the words x have a bit for input i, and for each of m inputs
pub record HasBit (x : List ℕ) (i : ℕ) : Type 0 where
  pub inside : i / 16 < length x

pub record Wide (m : ℕ) (x : List ℕ) : Type 0 where
  pub bits : (i : ℕ) → i < m → HasBit x i

-- n vectors for m inputs, which are those of the list xs from vector t on
pub record Part (m : ℕ) (xs : List ℕ) (t n : ℕ) (ys : List ℕ) : Type 0 where
  pub number : vectors m ys ≡ n
  pub whole : length ys ≡ vectors m ys * width m
  pub same : (i : ℕ) → i < n → vector m ys i ≡ vector m xs (t + i)
