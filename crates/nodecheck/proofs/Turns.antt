-- One turn of the loop over nodes, said of the definitions. Assumes nothing.
use Prim.Native.Nat.{ℕ, suc, ◌+◌, ◌-◌, ◌*◌, ◌<◌, ◌≤◌}
use mathlib.Core.Path.{◌≡◌}
use mathlib.Core.List.{List}
use native.Mathlib.Omega.{arith}
use native.Mathlib.Numerals.{add-one}
use Rattle.std.specs.Prelude.{Ok, Err}
use Rattle.answers.specs.declared.Refusal.{Refusal}
use Rattle.form.specs.Check.{read_verdict, exits_verdict, nodes_verdict}

-- the nodes from k on
module _ (ws : List ℕ) (g p n k : ℕ) where
  pub nodes-end : n ≤ k → nodes_verdict ws g p n (n - k) k ≡ Ok tt
  unfolding nodes_verdict
  nodes-end h = let e : n - k ≡ 0 = omega arith in rw e

  module _ (h : k < n) where
    left : n - k ≡ suc (n - (k + 1))
    left = omega arith

    -- the read is refused, or the exits are, or the nodes after this one decide
    pub read-stops : (r : Refusal) → read_verdict ws g (p + 1 + 2 * k) ≡ Err r → nodes_verdict ws g p n (n - k) k ≡ Err r
    unfolding nodes_verdict
    read-stops r e = rw (left, e)

    module _ (e : read_verdict ws g (p + 1 + 2 * k) ≡ Ok tt) where
      pub exits-stop : (r : Refusal) → exits_verdict ws n k (p + 2 + 2 * k) ≡ Err r → nodes_verdict ws g p n (n - k) k ≡ Err r
      unfolding nodes_verdict
      exits-stop r e' = rw (left, e, e')

      pub nodes-go : exits_verdict ws n k (p + 2 + 2 * k) ≡ Ok tt → nodes_verdict ws g p n (n - k) k ≡ nodes_verdict ws g p n (n - (k + 1)) (k + 1)
      unfolding nodes_verdict
      nodes-go e' = rw (left, e, e', add-one k)
