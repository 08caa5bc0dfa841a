-- What a change walk keeps in its buffer. No contract of a call cites it. Assumes nothing.
use Rattle.std.specs.Prelude.{ℕ, ◌<◌, ◌≤◌, ◌≡◌, List, length, get_or}

-- the first n words of a buffer are those of v
pub record Has (v : ℕ → ℕ) (n : ℕ) (xs : List ℕ) : Type 0 where
  pub long : n ≤ length xs
  pub word : (h : ℕ) → h < n → get_or xs h 0 ≡ v h

-- of the first G words those below h are w's, and those from h on v's
pub record Between (w v : ℕ → ℕ) (G h : ℕ) (xs : List ℕ) : Type 0 where
  pub long : G ≤ length xs
  pub below : (i : ℕ) → i < h → i < G → get_or xs i 0 ≡ w i
  pub onward : (i : ℕ) → h ≤ i → i < G → get_or xs i 0 ≡ v i
