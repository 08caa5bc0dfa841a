-- Bytes that are put into a buffer one after the other. Assumes nothing.
use Rattle.std.specs.Prelude.{ℕ, ◌+◌, ◌≤◌, ◌≡◌, List, length}
use Rattle.std.proofs.lemmas.List.Edits.{sets}
use Rattle.textlines.specs.declared.Text.{Text}

-- the buffer with the bytes xs from position `at` on, the rest as it was
unfoldable pub placed : ℕ → List ℕ → List ℕ → List ℕ
placed at xs buffer = sets buffer at xs

-- The bytes xs were put there, and `next` is the position after them.
pub record Puts (before : List ℕ) (at : ℕ) (xs : List ℕ) (next : ℕ) (after : List ℕ) : Type 0 where
  pub ends : next ≡ at + length xs
  pub inside : at + length xs ≤ length before
  pub size : length after ≡ length before
  pub bytes : after ≡ placed at xs before

-- A text grew by the bytes xs: they stand in its buffer, which is the same, from where the text ended, and it ends after them.
pub record Grew (before : Text) (xs : List ℕ) (after : Text) : Type 0 where
  pub same : after.out.ghost_name ≡ before.out.ghost_name
  pub puts : Puts before.out.now before.at xs after.at after.out.now
