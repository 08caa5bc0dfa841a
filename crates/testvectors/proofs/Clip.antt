-- A reader of one vector may stop after the first word past the limit: 65 words tell its form. Assumes nothing.
use Prim.Native.Nat.{ℕ, ◌<◌, ◌≤◌}
use mathlib.Core.Path.{◌≡◌, sym, ap, ◌∙◌}
use mathlib.Core.List.{List}
use native.Mathlib.Omega.{arith}
use native.Mathlib.Decide.{dec_le}
use lib.ListN.{length, take}
use lib.Seq.{length-take-le, take_all}
use borrow.Author.Tests.{ne_eqb}
use Rattle.answers.specs.declared.Rule.TheVariants.{VectorForm}
use Rattle.std.specs.Prelude.{Ok, Err}
use Rattle.answers.specs.Answers.{refused}
use Rattle.testvectors.specs.Vectors.{width, vector_verdict}
use Rattle.testvectors.proofs.Laws.{vector-long}
use Rattle.testvectors.proofs.Parts.{width_few}

module _ (m : ℕ) (l : m ≤ 1024) where
  long-vector : (x : List ℕ) → 64 < length x → vector_verdict m x ≡ Err (refused VectorForm 0)
  unfolding vector_verdict
  long-vector x h =
      let d : length x ≡ width m → ⊥ = λ e. omega (arith, width_few m l) in
      rw (ne_eqb _ _ d)

  pub vector-clip : (x : List ℕ) → vector_verdict m (take 65 x) ≡ vector_verdict m x
  vector-clip x = elim (dec_le (length x) 64) [
    | yes h ↦ ap (vector_verdict m) (take_all 65 x (omega arith))
    | no n ↦ long-vector (take 65 x) (omega (arith, length-take-le 65 x (omega arith))) ∙ sym (long-vector x (omega arith))
  ]

  -- and are the words of a vector of the form
  pub sound-clip : (x : List ℕ) → vector_verdict m x ≡ Ok tt → take 65 x ≡ x
  sound-clip x e = take_all 65 x (omega (arith, vector-long m x e, width_few m l))
