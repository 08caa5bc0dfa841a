-- The decimal digits of a number, which the library prints. Assumes nothing.
use Rattle.std.proofs.Common.{◌≡◌, ℕ, zero, suc, ◌+◌, ◌/◌, ◌%◌, ◌^◌, ◌<◌, ◌≤◌, List, [], ◌∷◌, ◌++◌, length, length-append, sym, ap, ◌∙◌, arith}
use Rattle.std.specs.Fmt.{decimal as printed_digits}
use Rattle.std.proofs.lemmas.Fmt.{decimal_by_steps, length-decimal-le}
use native.Mathlib.Decide.{dec_lt}
use borrow.Author.Tests.{lt-ltb, le-ltb}
use Rattle.textlines.specs.Text.{digits, decimal}

-- the bound does not matter where it is above the number
digits-enough : (k j n : ℕ) → n < k → n < j → digits k n ≡ digits j n
unfolding digits
digits-enough zero j n p q = absurd (omega arith)
digits-enough (suc k) zero n p q = absurd (omega arith)
digits-enough (suc k) (suc j) n p q = elim (dec_lt n 10) [
  | yes l ↦ rw (lt-ltb n 10 l)
  | no m ↦
      let l : 10 ≤ n = omega arith in
      rw (le-ltb n 10 l) (ap (λ (xs : List ℕ). xs ++ ((48 + n % 10) ∷ [])) (digits-enough k j (n / 10) (omega arith) (omega arith)))
]

pub decimal-last : (n : ℕ) → n < 10 → decimal n ≡ (48 + n) ∷ []
unfolding decimal digits
decimal-last n h = rw (lt-ltb n 10 h)

pub decimal-more : (n : ℕ) → 10 ≤ n → decimal n ≡ decimal (n / 10) ++ ((48 + n % 10) ∷ [])
unfolding decimal digits
decimal-more n h =
    rw (le-ltb n 10 h) (ap (λ (xs : List ℕ). xs ++ ((48 + n % 10) ∷ [])) (digits-enough n (suc (n / 10)) (n / 10) (omega arith) (omega arith)))

pub length_last : (n : ℕ) → n < 10 → length (decimal n) ≡ 1
length_last n h = rw (decimal-last n h)

pub length_more : (n : ℕ) → 10 ≤ n → length (decimal n) ≡ length (decimal (n / 10)) + 1
length_more n h = ap length (decimal-more n h) ∙ length-append (decimal (n / 10)) ((48 + n % 10) ∷ [])

-- they are what the library prints
pub printed : (n : ℕ) → n < 2 ^ 64 → printed_digits n ≡ decimal n
printed = decimal_by_steps (λ n ds. ds ≡ decimal n) (λ n l. sym (decimal-last n l)) (λ n ds l e. rw e (sym (decimal-more n l)))

-- the sizes at hand: a fault's number, a 32-bit word, a 64-bit number
pub few_5 : (n : ℕ) → n < 100000 → length (decimal n) ≤ 5
few_5 n h = rw (← printed n (omega arith)) (length-decimal-le 5 n (omega arith) h (omega arith))

pub few_10 : (n : ℕ) → n < 4294967296 → length (decimal n) ≤ 10
few_10 n h = rw (← printed n (omega arith)) (length-decimal-le 10 n (omega arith) (omega arith) (omega arith))

pub few_20 : (n : ℕ) → n < 18446744073709551616 → length (decimal n) ≤ 20
few_20 n h = rw (← printed n h) (length-decimal-le 20 n (omega arith) (omega arith) h)
