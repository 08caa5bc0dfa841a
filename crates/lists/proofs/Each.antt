-- A fact of each number of a list: what it tells of other facts and lists. Assumes nothing.
use Prim.Native.Nat.{ℕ}
use mathlib.Core.List.{List, [], ◌∷◌, ◌++◌, map}
use Rattle.lists.specs.Each.{Each}

-- of the same list another fact, a fact of two facts, of the numbers that a rule makes of it, and of two lists in one
pub each-then : {P Q : ℕ → Type 0} → ((n : ℕ) → P n → Q n) → (ns : List ℕ) → Each P ns → Each Q ns
each-then h [] e = tt
each-then h (n ∷ ns) (p, e) = (h n p, each-then h ns e)

pub each_both : {P Q R : ℕ → Type 0} → ((n : ℕ) → P n → Q n → R n) → (ns : List ℕ) → Each P ns → Each Q ns → Each R ns
each_both h [] e d = tt
each_both h (n ∷ ns) (p, e) (q, d) = (h n p q, each_both h ns e d)

pub each_map : {P : ℕ → Type 0} (Q : ℕ → Type 0) (f : ℕ → ℕ) → ((n : ℕ) → P n → Q (f n)) → (ns : List ℕ) → Each P ns → Each Q (map f ns)
each_map Q f h [] e = tt
each_map Q f h (n ∷ ns) (p, e) = (h n p, each_map Q f h ns e)

pub each_append : (P : ℕ → Type 0) (ns ms : List ℕ) → Each P ns → Each P ms → Each P (ns ++ ms)
each_append P [] ms e d = d
each_append P (n ∷ ns) ms (p, e) d = (p, each_append P ns ms e d)
