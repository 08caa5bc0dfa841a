-- The fields of a word that is made of them. Assumes nothing.
use Prim.Native.Nat.{ℕ, suc, ◌<◌, ◌^◌}
use mathlib.Core.Path.{◌≡◌}
use native.Mathlib.Omega.{arith}
use Rattle.word32.specs.Fields.{kind, header_spare, node_count, exits_spare, exit_of, header_word, exits_word}

-- a header
pub header-fields : (k n : ℕ) → n < 2 ^ 16 → (kind (header_word k n) ≡ k) × (header_spare (header_word k n) ≡ 0) × (node_count (header_word k n) ≡ n)
header-fields k n h = (omega arith, omega arith, omega arith)

-- a pair of exits
pub exits-fields : (e d : ℕ) → e < 2 ^ 14 → d < 2 ^ 14 → (kind (exits_word e d) ≡ 4) × (exits_spare (exits_word e d) ≡ 0) × (exit_of (exits_word e d) 0 ≡ e)
exits-fields e d h l = (omega arith, omega arith, omega arith)

pub exits_one : (e d i : ℕ) → d < 2 ^ 14 → exit_of (exits_word e d) (suc i) ≡ d
exits_one e d i l = omega arith
