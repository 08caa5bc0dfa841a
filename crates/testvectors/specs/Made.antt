-- A vector with given values of its inputs. Assumes nothing.
use Rattle.std.specs.Prelude.{ℕ, zero, suc, ◌+◌, ◌*◌, List}
use Rattle.lists.specs.Tables.{grow, tab}
use Rattle.testvectors.specs.Vectors.{width, carried}

-- the number whose bits, from bit 0 on, are f i, f (i + 1), .., n in all
unfoldable pub bits_from : (ℕ → ℕ) → ℕ → ℕ → ℕ
bits_from f zero i = 0
bits_from f (suc n) i = f i + 2 * bits_from f n (suc i)

-- THE VECTOR of m inputs in which input i has the value f i, each 0 or 1
unfoldable pub vector_of : ℕ → (ℕ → ℕ) → List ℕ
unfolding width carried bits_from grow
vector_of m f = tab (λ j. 0xA0000000 + bits_from f (carried m j) (16 * j)) (width m)
