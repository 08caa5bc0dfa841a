-- The former check beside the check, by computing: on one read with bit 16 clear, on the same with the bit, and on a read with the bit that is not below its
-- graph, which both refuse by different rules: so it is of the reads that the check comes to, and not of the sound ones, that none may be inverted.
-- Assumes nothing.
use Prim.Native.Nat.{ℕ}
use mathlib.Core.List.{List, [], ◌∷◌, map}
use mathlib.Core.Path.{◌≡◌, refl}
use Rattle.answers.specs.Told.{Told, refusal, result, answer_told}
use Rattle.form.specs.Check.{checked_with, checked}
use Rattle.former.specs.Check.{former_checked_with}

-- words, what the former check told of them, and what the check tells
pub record Case : Type 0 where
  pub card : List ℕ
  pub then : Told
  pub now : Told

abbrev pub table : List Case
table =
    record { card = 0 ∷ 0x40000001 ∷ 0x60000000 ∷ 0x80000001 ∷ []; then = result (1 ∷ 2 ∷ 1 ∷ 1 ∷ 6 ∷ []); now = result (1 ∷ 2 ∷ 1 ∷ 1 ∷ 6 ∷ []) }
    ∷ record { card = 0 ∷ 0x40000001 ∷ 0x60010000 ∷ 0x80000001 ∷ []; then = refusal 5 2; now = result (1 ∷ 2 ∷ 1 ∷ 1 ∷ 6 ∷ []) }
    ∷ record { card = 0 ∷ 0x40000001 ∷ 0x60010001 ∷ 0x80000001 ∷ []; then = refusal 5 2; now = refusal 6 2 }
    ∷ []

abbrev pub answered : Case → Case
answered c = record { card = c.card; then = answer_told (former_checked_with c.card 0); now = answer_told (checked c.card) }

pub former-examples : map answered table ≡ table
unfolding former_checked_with checked_with answer_told
former-examples = refl
