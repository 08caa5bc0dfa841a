-- The position of a refusal of vectors is below 2 ^ 32, so that it stands beside the rule's number in 64 bits. Assumes nothing.
use Prim.Native.Nat.{ℕ, zero, suc, ◌+◌, ◌/◌, ◌%◌, ◌^◌, ◌≤◌}
use mathlib.Core.List.{List, [], ◌∷◌}
use mathlib.Core.Bool.{not}
use native.Mathlib.Nat.{mul-le-mul_right, div-add-mod'}
use native.Mathlib.Omega.{arith}
use lib.ListN.{length, get_or}
use lib.Dec.{ltb, eqb}
use borrow.Author.Tests.{ltb-false, eqb-true, not-false}
use Rattle.word32.specs.Fields.{kind, input_spare}
use Rattle.answers.specs.declared.Rule.TheVariants.{VectorForm}
use Rattle.answers.specs.Answers.{Verdict}
use Rattle.answers.specs.Tests.{test, first_broken}
use Rattle.answers.specs.Calls.{Lent}
use Rattle.answers.proofs.Tests.{all-passed}
use Rattle.answers.proofs.Positions.{Low, tests-low, then-low}
use Rattle.testvectors.specs.Vectors.{width, carried, word_verdict, words_verdict, vector_verdict, list_tests, list_verdict, lent_form}

-- vector words, of one vector and of a list of vectors for at most 1,024 inputs
words-low : (n m : ℕ) (xs : List ℕ) (left p : ℕ) → p + left ≤ n → Low n (words_verdict m xs left p)
unfolding words_verdict word_verdict
words-low n m xs zero p h = tt
words-low n m xs (suc left) p h =
    let l : p ≤ n = omega arith in
    then-low n (word_verdict m (p % width m) p (get_or xs p 0)) _
    (tests-low n
    (test (not (eqb (kind (get_or xs p 0)) 5)) VectorForm p ∷ test (not (eqb (input_spare (get_or xs p 0) / 2 ^ carried m (p % width m)) 0)) VectorForm p ∷ [])
    (l, (l, tt)))
    (λ e. words-low n m xs left (suc p) (omega arith))

pub vector-low : (m : ℕ) (xs : List ℕ) → m ≤ 1024 → Low 4294967295 (vector_verdict m xs)
unfolding vector_verdict width
vector-low m xs h =
    let long = test (not (eqb (length xs) (width m))) VectorForm 0 ∷ [] in
    then-low 4294967295 (first_broken long) _ (tests-low 4294967295 long (omega arith, tt)) (λ e.
    let w = eqb-true (length xs) (width m) (not-false _ (all-passed long e).0) in
    words-low 4294967295 m xs (length xs) 0 (omega arith))

pub list-low : (m : ℕ) (xs : List ℕ) → m ≤ 1024 → Low 4294967295 (list_verdict m xs)
unfolding list_verdict width
list-low m xs h =
    let long = list_tests m (length xs) in
    then-low 4294967295 (first_broken long) _ (tests-low 4294967295 long (omega arith, (omega arith, tt))) (λ e.
    let t = all-passed long e in
    let z = eqb-true (length xs % width m) 0 (not-false _ t.0) in
    let q = mul-le-mul_right (width m) (ltb-false 65535 (length xs / width m) t.1.0) in
    words-low 4294967295 m xs (length xs) 0 (omega (arith, div-add-mod' (length xs) (width m), z, q)))

-- and of what is lent
pub form-low : (verdict : ℕ → List ℕ → Verdict) (m : ℕ) (v : Lent) → Low 4294967295 (verdict m v.words) → Low 4294967295 (lent_form verdict m v)
unfolding lent_form
form-low verdict m v h =
    let left = test (ltb 0 v.extra) VectorForm 0 ∷ [] in
    then-low 4294967295 (first_broken left) (verdict m v.words) (tests-low 4294967295 left (omega arith, tt)) (λ s. h)
