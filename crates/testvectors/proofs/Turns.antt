-- One turn of the loop over words, said of the definitions. Assumes nothing.
use Prim.Native.Nat.{ℕ, suc, ◌+◌, ◌-◌, ◌%◌, ◌<◌, ◌≤◌}
use mathlib.Core.Path.{◌≡◌}
use mathlib.Core.List.{List}
use native.Mathlib.Omega.{arith}
use native.Mathlib.Numerals.{add-one}
use lib.ListN.{get_or}
use Rattle.std.specs.Prelude.{Ok, Err}
use Rattle.answers.specs.declared.Refusal.{Refusal}
use Rattle.testvectors.specs.Vectors.{width, word_verdict, words_verdict}

-- the words from p on, of n
module _ (m : ℕ) (xs : List ℕ) (n p : ℕ) where
  pub words-end : n ≤ p → words_verdict m xs (n - p) p ≡ Ok tt
  unfolding words_verdict
  words-end h = let e : n - p ≡ 0 = omega arith in rw e

  module _ (h : p < n) where
    left : n - p ≡ suc (n - (p + 1))
    left = omega arith

    pub words-go : word_verdict m (p % width m) p (get_or xs p 0) ≡ Ok tt → words_verdict m xs (n - p) p ≡ words_verdict m xs (n - (p + 1)) (p + 1)
    unfolding words_verdict
    words-go e = rw (left, e, add-one p)

    pub words-stop : (r : Refusal) → word_verdict m (p % width m) p (get_or xs p 0) ≡ Err r → words_verdict m xs (n - p) p ≡ Err r
    unfolding words_verdict
    words-stop r e = rw (left, e)
