-- A reader of a card, or of a gate list, may stop after the first word past the limit: 9,217 words tell the check all. Assumes nothing.
use Prim.Native.Nat.{ℕ, ◌<◌}
use mathlib.Core.Path.{◌≡◌, sym, ap, ◌∙◌}
use mathlib.Core.List.{List}
use native.Mathlib.Omega.{arith}
use native.Mathlib.Decide.{dec_le}
use lib.ListN.{length, take}
use lib.Seq.{length-take-le, take_all}
use borrow.Author.Tests.{lt-ltb}
use Rattle.answers.specs.declared.Rule.TheVariants.{CardTooLong}
use Rattle.answers.specs.declared.Counts.{Counts}
use Rattle.std.specs.Prelude.{Ok, Err}
use Rattle.answers.specs.Answers.{Answer, refused}
use Rattle.answers.specs.Calls.{Lent}
use Rattle.answers.specs.Ends.{clip}
use Rattle.form.specs.Check.{checked_with, lent_check}

-- any check that refuses more than 9,216 words, whatever they are
module _ (check : List ℕ → Answer) (long : (ws : List ℕ) → 9216 < length ws → check ws ≡ Err (refused CardTooLong 0)) where
  pub limit-clip : (ws : List ℕ) → check (take 9217 ws) ≡ check ws
  limit-clip ws = elim (dec_le (length ws) 9216) [
    | yes h ↦ ap check (take_all 9217 ws (omega arith))
    | no n ↦ long (take 9217 ws) (omega (arith, length-take-le 9217 ws (omega arith))) ∙ sym (long ws (omega arith))
  ]

  -- and what it accepts is read whole
  pub limit-accepted : (ws : List ℕ) {c : Counts} → check ws ≡ Ok c → take 9217 ws ≡ ws
  limit-accepted ws e = elim (dec_le (length ws) 9216) [
    | yes h ↦ take_all 9217 ws (omega arith)
    | no n ↦ let q = long ws (omega arith) in let z : ◌≡◌ {A = ℕ} 0 1 = cc in absurd (omega arith)
  ]

long-check : (extra : ℕ) (ws : List ℕ) → 9216 < length ws → checked_with ws extra ≡ Err (refused CardTooLong 0)
unfolding checked_with
long-check extra ws h = rw (lt-ltb _ _ h)

pub check-clip : (card : Lent) → lent_check (clip 9217 card) ≡ lent_check card
check-clip card = limit-clip (λ ws. checked_with ws card.extra) (long-check card.extra) card.words

pub accepted-clip : (card : Lent) {c : Counts} → lent_check card ≡ Ok c → take 9217 card.words ≡ card.words
accepted-clip card e = limit-accepted (λ ws. checked_with ws card.extra) (long-check card.extra) card.words e
