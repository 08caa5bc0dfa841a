-- A list that takes in one number more, or none. No contract of a call cites it. Assumes nothing.
use Rattle.std.specs.Prelude.{ℕ, ◌+◌, ◌≡◌, List, Bool, true, false, set}
use Rattle.lists.specs.Counting.{choose}

abbrev pub stored_if : Bool → List ℕ → ℕ → ℕ → List ℕ
stored_if true xs n h = set xs n h
stored_if false xs n h = xs

pub record Appended (xs : List ℕ) (n h : ℕ) (b : Bool) (r : ℕ) (ys : List ℕ) : Type 0 where
  pub number : r ≡ n + choose b 1 0
  pub words : ys ≡ stored_if b xs n h
