-- The form of vectors and of lists of them: document 01, 'The card's words', and refusal 10. Assumes nothing.
-- `width`, `bit` and `carried` say how inputs stand in words; no engine opens them.
use Prim.Native.Nat.{ℕ, zero, suc, ◌+◌, ◌-◌, ◌*◌, ◌/◌, ◌%◌, ◌^◌, min}
use Rattle.std.specs.Prelude.{List, [], ◌∷◌, not, get_or, drop, ltb, eqb, Ok}
use Rattle.std.proofs.Math.ListN.{length, take}
use Rattle.word32.specs.Fields.{kind, input_spare}
use Rattle.answers.specs.Limits.{max_vectors}
use Rattle.answers.specs.Tests.{Test, test, first_broken, and_then}
use Rattle.answers.specs.Calls.{Lent}
use Rattle.answers.specs.declared.Rule.TheVariants.{VectorForm}
use Rattle.answers.specs.Answers.{Verdict}

-- the words of a vector for m inputs: m / 16 rounded up
unfoldable pub width : ℕ → ℕ
width m = (m + 15) / 16

-- the value of input i: bit i % 16 of word i / 16
unfoldable pub bit : List ℕ → ℕ → ℕ
bit x i = get_or x (i / 16) 0 / 2 ^ (i % 16) % 2

-- how many inputs word j of a vector carries, from its bit 0 on
unfoldable pub carried : ℕ → ℕ → ℕ
carried m j = min 16 (m - 16 * j)

-- a word w at p, which is word j of its vector: its kind is 5, and every bit below the kind that no input has is zero
unfoldable pub word_verdict : ℕ → ℕ → ℕ → ℕ → Verdict
unfolding carried
word_verdict m j p w =
    first_broken
    (test (not (eqb (kind w) 5)) VectorForm p
    ∷ test (not (eqb (input_spare w / 2 ^ carried m j) 0)) VectorForm p
    ∷ [])

-- the number of words of a list of vectors, and the number of its vectors: 0 to 65,535
abbrev pub list_tests : ℕ → ℕ → List Test
list_tests m n =
    test (not (eqb (n % width m) 0)) VectorForm 0
    ∷ test (ltb max_vectors (n / width m)) VectorForm 0
    ∷ []

module _ (m : ℕ) (xs : List ℕ) where
  -- the words from p on, `left` in all
  unfoldable pub words_verdict : ℕ → ℕ → Verdict
  unfolding width word_verdict
  words_verdict zero p = Ok tt
  words_verdict (suc left) p = and_then (word_verdict m (p % width m) p (get_or xs p 0)) (words_verdict left (suc p))

  -- exactly one vector
  unfoldable pub vector_verdict : Verdict
  unfolding words_verdict
  vector_verdict = and_then (first_broken (test (not (eqb (length xs) (width m))) VectorForm 0 ∷ [])) (words_verdict (length xs) 0)

  -- a list of 0 to 65,535 vectors
  unfoldable pub list_verdict : Verdict
  unfolding words_verdict
  list_verdict = and_then (first_broken (list_tests m (length xs))) (words_verdict (length xs) 0)

  -- how many vectors a list has, and the words of vector t
  unfoldable pub vectors : ℕ
  unfolding width
  vectors = length xs / width m

  unfoldable pub vector : ℕ → List ℕ
  unfolding width
  vector t = take (width m) (drop (t * width m) xs)

-- THE FORM of vectors that are lent, for m inputs: bytes left over are a wrong number of words, rule 10 at 0; then the verdict on their words, as one
-- vector or as a list
unfoldable pub lent_form : (ℕ → List ℕ → Verdict) → ℕ → Lent → Verdict
lent_form verdict m v = and_then (first_broken (test (ltb 0 v.extra) VectorForm 0 ∷ [])) (verdict m v.words)
