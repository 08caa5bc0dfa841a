-- What is known of vectors without opening `width`, `bit` and `vector`, each law stated once. Assumes nothing.
use Prim.Native.Nat.{ℕ, ◌+◌, ◌*◌, ◌/◌, ◌%◌, ◌^◌, ◌<◌, ◌≤◌}
use mathlib.Core.Path.{◌≡◌}
use mathlib.Core.List.{List, [], ◌∷◌}
use mathlib.Core.Bool.{not}
use native.Mathlib.Nat.{zero-mul, one-mul, add-mul, mod-lt, mul-le-mul_right, div-add-mod'}
use native.Mathlib.Omega.{arith}
use lib.ListN.{length, get_or, drop, length-drop}
use lib.Seq.{take_all, length-take-le}
use lib.Dec.{eqb}
use borrow.Author.Tests.{ltb-false, eqb-true, not-false}
use Rattle.answers.specs.Tests.{test, first_broken}
use Rattle.answers.specs.declared.Rule.TheVariants.{VectorForm}
use Rattle.std.specs.Prelude.{Ok, Err}
use Rattle.answers.specs.declared.Refusal.{Refusal}
use Rattle.answers.proofs.Tests.{then-sound, all-passed}
use Rattle.testvectors.specs.Vectors.{width, bit, words_verdict, vector_verdict, list_tests, list_verdict, vectors, vector}
use Rattle.testvectors.specs.Parts.{Wide}

-- an input's value is 0 or 1
pub bit-value : (x : List ℕ) (i : ℕ) → bit x i < 2
unfolding bit
bit-value x i = mod-lt (get_or x (i / 16) 0 / 2 ^ (i % 16)) (omega arith)

-- a vector for some input has some word
pub width_some : (m : ℕ) → 0 < m → 0 < width m
unfolding width
width_some m h = omega arith

-- each word of a vector carries some input
pub word-used : (m j : ℕ) → j < width m → 16 * j < m
unfolding width
word-used m j h = omega arith

-- so many words have a bit for each input
pub wide : (m : ℕ) (x : List ℕ) → width m ≤ length x → Wide m x
unfolding width
wide m x h = record { bits = λ i l. record { inside = omega arith } }

-- a sound vector has exactly its words, a sound list whole vectors and not too many
pub vector-long : (m : ℕ) (x : List ℕ) → vector_verdict m x ≡ Ok tt → length x ≡ width m
unfolding vector_verdict
vector-long m x e =
    let long = test (not (eqb (length x) (width m))) VectorForm 0 ∷ [] in
    let (a, b) = then-sound (first_broken long) (words_verdict m x (length x) 0) e in
    eqb-true (length x) (width m) (not-false _ (all-passed long a).0)

pub list-long : (m : ℕ) (xs : List ℕ) → 0 < m → list_verdict m xs ≡ Ok tt → (length xs ≡ vectors m xs * width m) × (vectors m xs ≤ 65535)
unfolding list_verdict vectors
list-long m xs h e =
    let (a, b) = then-sound (first_broken (list_tests m (length xs))) (words_verdict m xs (length xs) 0) e in
    let t = all-passed (list_tests m (length xs)) a in
    (omega (arith, div-add-mod' (length xs) (width m), eqb-true (length xs % width m) 0 (not-false _ t.0)), ltb-false 65535 (length xs / width m) t.1.0)

-- a list whose number of words is wrong, and one of whole vectors, by each word
module _ (m : ℕ) (xs : List ℕ) where
  pub list-stops : {r : Refusal} → first_broken (list_tests m (length xs)) ≡ Err r → Err r ≡ list_verdict m xs
  unfolding list_verdict
  list-stops e = rw e

  pub list-goes : first_broken (list_tests m (length xs)) ≡ Ok tt → words_verdict m xs (length xs) 0 ≡ list_verdict m xs
  unfolding list_verdict
  list-goes e = rw e

-- vector t ends where the next one starts
next_start : (w t : ℕ) → (t + 1) * w ≡ t * w + w
next_start w t = rw (add-mul t 1 w, one-mul)

pub part-inside : (m t w n : ℕ) → w ≡ width m → (t + 1) * width m ≤ n → t * w + w ≤ n
part-inside m t w n e h = rw (e, ← next_start) h

-- vector t of a list stands inside it, and has a vector's words
pub vector-inside : (m : ℕ) (xs : List ℕ) (t : ℕ) → length xs ≡ vectors m xs * width m → t < vectors m xs → (t + 1) * width m ≤ length xs
vector-inside m xs t e h =
    let l : t + 1 ≤ vectors m xs = omega arith in
    rw e (mul-le-mul_right (width m) l)

pub vector-width : (m : ℕ) (xs : List ℕ) (t : ℕ) → (t + 1) * width m ≤ length xs → length (vector m xs t) ≡ width m
unfolding vector
vector-width m xs t h =
    length-take-le (width m) (drop (t * width m) xs) (rw length-drop (omega (arith, next_start (width m) t)))

-- one vector is a list of it alone
pub vector-one : (m : ℕ) (x : List ℕ) → length x ≡ width m → vector m x 0 ≡ x
unfolding vector
vector-one m x e = rw zero-mul (take_all (width m) x (omega arith))
