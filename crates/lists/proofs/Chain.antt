-- Lists one after the other: how long they are, and what stands in each. Assumes nothing.
use Prim.Native.Nat.{ℕ, zero, suc, ◌+◌, ◌*◌, ◌<◌, ◌≤◌}
use mathlib.Core.Path.{◌≡◌, refl, ◌∙◌}
use mathlib.Core.List.{List}
use native.Mathlib.Omega.{arith}
use native.Mathlib.Decide.{ℕ_discrete}
use lib.ListN.{length, get_or, length-append, get_or-append}
use lib.Seq.{get_or-append-add}
use Rattle.lists.specs.Tables.{chain}

module _ (f : ℕ → List ℕ) where
  pub chain_next : (n : ℕ) → length (chain f (suc n)) ≡ length (chain f n) + length (f n)
  unfolding chain
  chain_next n = length-append (chain f n) (f n)

  -- list m is in it, with its words
  chain-holds : (n m : ℕ) → m < n → length (chain f m) + length (f m) ≤ length (chain f n)
  chain-holds zero m l = absurd (omega arith)
  chain-holds (suc n) m l = elim (ℕ_discrete m n) [
    | yes e ↦ rw e (omega (arith, chain_next n))
    | no d ↦ omega (arith, chain_next n, chain-holds n m (omega arith))
  ]

  pub chain-at : (n m i : ℕ) → m < n → i < length (f m) → get_or (chain f n) (length (chain f m) + i) 0 ≡ get_or (f m) i 0
  unfolding chain
  chain-at zero m i l h = absurd (omega arith)
  chain-at (suc n) m i l h = elim (ℕ_discrete m n) [
    | yes e ↦ rw e (get_or-append-add (chain f n) (f n) i 0)
    | no d ↦
        get_or-append (chain f n) (f n) 0 (length (chain f m) + i) (omega (arith, chain-holds n m (omega arith)))
        ∙ chain-at n m i (omega arith) h
  ]

  -- lists of two words each
  pub chain-pairs : ((k : ℕ) → length (f k) ≡ 2) → (n : ℕ) → length (chain f n) ≡ 2 * n
  unfolding chain
  chain-pairs two zero = refl
  chain-pairs two (suc n) = omega (arith, chain_next n, two n, chain-pairs two n)
