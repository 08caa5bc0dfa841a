-- Whether some number of a list passes: as the library's `any` finds it, or a loop over the list, and where none does. Assumes nothing.
use Prim.Native.Nat.{ℕ, ◌+◌, ◌<◌}
use mathlib.Core.Path.{◌≡◌, refl, ap}
use mathlib.Core.List.{List, [], ◌∷◌}
use mathlib.Core.Bool.{Bool, false, ◌||◌}
use native.Mathlib.Numerals.{add-one}
use lib.ListN.{length, get_or, drop}
use lib.Seq.{drop-cons}
use Rattle.std.specs.List.{list_any}
use Rattle.lists.specs.Counting.{some_of}
use Rattle.lists.specs.Each.{Each}
use Rattle.lists.proofs.Tests.{or-false}

-- the library's `any` tells the same
pub some-any : (p : ℕ → Bool) (ns : List ℕ) → list_any p ns ≡ some_of p ns
unfolding some_of
some-any p [] = refl
some-any p (n ∷ ns) = ap (p n ||◌) (some-any p ns)

-- a loop over a list, where the number at hand fails: those after it
module _ (p : ℕ → Bool) (ns : List ℕ) where
  pub some_next : (i : ℕ) → i < length ns → p (get_or ns i 0) ≡ false → some_of p (drop i ns) ≡ some_of p (drop (i + 1) ns)
  unfolding some_of
  some_next i h e = rw (add-one, drop-cons ns i 0 h, e)

-- where none passes, each fails
pub none_of : (p : ℕ → Bool) (ns : List ℕ) → some_of p ns ≡ false → Each (λ n. p n ≡ false) ns
unfolding some_of
none_of p [] e = tt
none_of p (n ∷ ns) e = let (a, b) = or-false (p n) (some_of p ns) e in (a, none_of p ns b)
