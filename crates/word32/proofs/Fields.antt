-- A field of a word as an index; and the bits of a read that must be zero. What a mask keeps is said by `and_mask` of the library, for every width. Assumes
-- nothing.
use Prim.Native.Nat.{ℕ, ◌<◌, ◌/◌, ◌%◌, ◌^◌}
use mathlib.Core.Path.{◌≡◌, sym, ap, ◌∙◌}
use native.Mathlib.Omega.{arith}
use lib.Bits.{bit_and, and_le_r}
use lib.Pow.{shr-shr}
use mir.Syntax.{w64}
use mir.Val.{Fits}
use Rattle.word32.specs.Fields.{read_spare, read_inverted}

-- what a mask keeps is no larger than the mask, so it fits an index
pub masked-fits : (w m : ℕ) → m < 2 ^ 32 → Fits w64 (bit_and w m)
masked-fits w m h = omega (arith, and_le_r w m)

-- bits 28..16 of a read are zero exactly where it is direct and bits 28..17 are: one that refusal 5 let pass before document 02's 'Inverted reads' passes
-- still, and a direct one that passes did
pub clear-before : (w : ℕ) → w / 2 ^ 16 % 2 ^ 13 ≡ 0 → (read_inverted w ≡ 0) × (read_spare w ≡ 0)
clear-before w e = (omega arith, omega arith)

pub clear-direct : (w : ℕ) → read_inverted w ≡ 0 → read_spare w ≡ 0 → w / 2 ^ 16 % 2 ^ 13 ≡ 0
clear-direct w e d =
    let q : ℕ = w / 2 ^ 16 in
    let z : w / 2 ^ 17 ≡ q / 2 = sym (shr-shr w 16 1) in
    let h : q / 2 % 2 ^ 12 ≡ 0 = ap (λ (n : ℕ). n % 2 ^ 12) (sym z) ∙ d in
    omega arith
