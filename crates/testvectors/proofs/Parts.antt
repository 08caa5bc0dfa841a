-- The vectors of a part of a list are vectors of the list. Assumes nothing.
use Prim.Native.Nat.{ℕ, ◌+◌, ◌-◌, ◌*◌, ◌<◌, ◌≤◌}
use mathlib.Core.Path.{◌≡◌, sym, ap, ◌∙◌}
use mathlib.Core.List.{List}
use native.Mathlib.Nat.{add-mul, mul-le-mul_right, mul-div_cancel}
use native.Mathlib.Omega.{arith}
use lib.ListN.{length, get_or, take, drop, length-drop}
use lib.Seq.{length-take-le, get_or-take, get_or-drop, ext_get_or}
use Rattle.answers.specs.Limits.{max_graphs, max_width}
use Rattle.testvectors.specs.Vectors.{width, vectors, vector}
use Rattle.testvectors.specs.Parts.{Part}
use Rattle.testvectors.proofs.Laws.{width_some, vector-width}

-- a vector for at most 1,024 inputs has at most 64 words
pub width_few : (m : ℕ) → m ≤ max_graphs → width m ≤ max_width
unfolding width
width_few m h = omega arith

-- the words of vectors t to e - 1 of n stand in this order inside the words of all n
pub part-ends : (m w t e n : ℕ) → w ≡ width m → t ≤ e → e ≤ n → (t * w ≤ e * w) × (e * w ≤ n * width m)
part-ends m w t e n q h l = (mul-le-mul_right w h, rw q (mul-le-mul_right (width m) l))

-- a word of a vector
vector-word : (m : ℕ) (xs : List ℕ) (t j : ℕ) → j < width m → get_or (vector m xs t) j 0 ≡ get_or xs (t * width m + j) 0
unfolding vector
vector-word m xs t j h = get_or-take (width m) (drop (t * width m) xs) j 0 h ∙ get_or-drop (t * width m) xs j 0

-- THE PART: vectors t to e - 1 of a list
module _ (m : ℕ) (xs : List ℕ) (t e : ℕ) (some : 0 < m) (h : t ≤ e) (l : e * width m ≤ length xs) where
  abbrev n : ℕ
  n = e - t

  ends : e * width m ≡ t * width m + n * width m
  ends = let q : e ≡ t + n = omega arith in ap (λ (k : ℕ). k * width m) q ∙ add-mul t n (width m)

  module _ (ys : List ℕ) (k s : ℕ) (p : k ≡ e * width m - t * width m) (q : s ≡ t * width m) (y : ys ≡ take k (drop s xs)) where
    many : k ≡ n * width m
    many = omega (arith, ends)

    long : length ys ≡ n * width m
    long = ap length y ∙ length-take-le k (drop s xs) (rw (length-drop s xs) (omega (arith, ends))) ∙ many

    number : vectors m ys ≡ n
    unfolding vectors
    number = rw long (mul-div_cancel n (width_some m some))

    word : (j : ℕ) → j < n * width m → get_or ys j 0 ≡ get_or xs (t * width m + j) 0
    word j b = ap (λ (z : List ℕ). get_or z j 0) y ∙ get_or-take k (drop s xs) j 0 (omega (arith, many)) ∙ get_or-drop s xs j 0 ∙ ap (λ (a : ℕ). get_or xs (a + j) 0) q

    same : (i : ℕ) → i < n → vector m ys i ≡ vector m xs (t + i)
    same i b =
        let up : (i + 1) * width m ≤ n * width m = mul-le-mul_right (width m) (omega arith) in
        let all : (t + i + 1) * width m ≤ e * width m = mul-le-mul_right (width m) (omega arith) in
        let next = add-mul i 1 (width m) in
        let far = add-mul t i (width m) in
        let here : length (vector m ys i) ≡ width m = vector-width m ys i (omega (arith, long)) in
        let there : length (vector m xs (t + i)) ≡ width m = vector-width m xs (t + i) (omega arith) in
        ext_get_or 0 (vector m ys i) (vector m xs (t + i)) (here ∙ sym there) (λ j o.
        let b' : j < width m = omega (arith, here) in
        let z : t * width m + (i * width m + j) ≡ (t + i) * width m + j = omega arith in
        vector-word m ys i j b' ∙ word (i * width m + j) (omega arith) ∙ ap (λ (a : ℕ). get_or xs a 0) z ∙ sym (vector-word m xs (t + i) j b'))

    pub part_of : Part m xs t n ys
    part_of = record { number = number; whole = long ∙ ap (λ (a : ℕ). a * width m) (sym number); same = same }
