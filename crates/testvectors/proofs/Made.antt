-- A vector that is made has the bits that it is made of, and the form of a vector. Assumes nothing.
use Prim.Native.Nat.{ℕ, zero, suc, ◌+◌, ◌-◌, ◌*◌, ◌/◌, ◌%◌, ◌^◌, ◌<◌, ◌≤◌}
use mathlib.Core.Path.{◌≡◌, refl, ap, ◌∙◌}
use native.Mathlib.Nat.{add-zero, mul_assoc, pow-suc, pow-succ', div-one, div-eq_of_lt, div-div-eq-div-mul, mod-eq_of_lt}
use native.Mathlib.Nat.{add-mul-div_right, add-mul-mod_self_right}
use native.Mathlib.Omega.{arith}
use lib.ListN.{length, get_or}
use lib.Pow.{pow_pos, pow-add, pow_mono}
use Rattle.lists.proofs.Tables.{length-tab, tab-at}
use Rattle.lists.proofs.Tests.{agree}
use Rattle.std.specs.Prelude.{Ok}
use Rattle.testvectors.specs.Vectors.{width, bit, carried, word_verdict, words_verdict, vector_verdict}
use Rattle.testvectors.specs.Made.{bits_from, vector_of}

-- what stands above bit k alters no bit up to k
low_bit : (w c n k : ℕ) → k < n → (w + c * 2 ^ n) / 2 ^ k % 2 ≡ w / 2 ^ k % 2
low_bit w c n k h =
    let j = n - suc k in
    let e : n ≡ suc j + k = omega arith in
    rw (e, pow-add 2 (suc j) k, ← mul_assoc c (2 ^ suc j) (2 ^ k), add-mul-div_right w (c * 2 ^ suc j) (pow_pos k))
    (rw (pow-suc 2 j, ← mul_assoc c (2 ^ j) 2) (add-mul-mod_self_right (w / 2 ^ k) (c * 2 ^ j) 2))

-- how many inputs a word carries, and which
carried-few : (m j : ℕ) → carried m j ≤ 16
unfolding carried
carried-few m j = omega arith

carried-inside : (m j : ℕ) → j < width m → 16 * j + carried m j ≤ m
unfolding carried width
carried-inside m j h = omega arith

carries : (m i : ℕ) → i < m → (i / 16 < width m) × (i % 16 < carried m (i / 16))
unfolding carried width
carries m i h = (omega arith, omega arith)

module _ (m : ℕ) (f : ℕ → ℕ) (bits : (i : ℕ) → i < m → f i < 2) where
  -- the number that some of the bits make
  bits_below : (n i : ℕ) → i + n ≤ m → bits_from f n i < 2 ^ n
  unfolding bits_from
  bits_below zero i h = omega arith
  bits_below (suc n) i h = rw (pow-succ' 2 n) (omega (arith, bits i (omega arith), bits_below n (suc i) (omega arith)))

  bits_at : (n i k : ℕ) → i + n ≤ m → k < n → bits_from f n i / 2 ^ k % 2 ≡ f (i + k)
  unfolding bits_from
  bits_at zero i k h l = absurd (omega arith)
  bits_at (suc n) i zero h l = let b = bits i (omega arith) in rw (add-zero i, div-one) (omega arith)
  bits_at (suc n) i (suc k) h l =
      let b = bits i (omega arith) in
      let e : (f i + 2 * bits_from f n (suc i)) / 2 ≡ bits_from f n (suc i) = omega arith in
      let z : suc i + k ≡ i + suc k = omega arith in
      rw (pow-succ' 2 k, ← div-div-eq-div-mul (f i + 2 * bits_from f n (suc i)) 2 (2 ^ k), e)
      (bits_at n (suc i) k (omega arith) (omega arith) ∙ ap f z)

  -- word j of the vector: bits of its own inputs, below the kind
  abbrev own : ℕ → ℕ
  own j = bits_from f (carried m j) (16 * j)

  own_below : (j : ℕ) → j < width m → (own j < 2 ^ carried m j) × (own j < 2 ^ 16)
  own_below j h =
      let l = bits_below (carried m j) (16 * j) (carried-inside m j h) in
      (l, omega (arith, pow_mono {j = 16} (carried-few m j)))

  made_word : (j : ℕ) → j < width m → get_or (vector_of m f) j 0 ≡ 0xA0000000 + own j
  unfolding vector_of
  made_word j h = tab-at (λ j. 0xA0000000 + own j) (width m) j h

  pub made-long : length (vector_of m f) ≡ width m
  unfolding vector_of
  made-long = length-tab (λ j. 0xA0000000 + own j) (width m)

  -- THE BITS
  pub made-bit : (i : ℕ) → i < m → bit (vector_of m f) i ≡ f i
  unfolding bit
  made-bit i h =
      let (a, b) = carries m i h in
      let j = i / 16 in
      let z : 16 * j + i % 16 ≡ i = omega arith in
      let e : 0xA0000000 + own j ≡ own j + 5 * 2 ^ 29 = omega arith in
      rw (made_word j a, e)
      (low_bit (own j) 5 29 (i % 16) (omega arith)
      ∙ bits_at (carried m j) (16 * j) (i % 16) (carried-inside m j a) b ∙ ap f z)

  -- THE FORM
  word_sound : (j p : ℕ) → j < width m → word_verdict m j p (0xA0000000 + own j) ≡ Ok tt
  unfolding word_verdict
  word_sound j p h =
      let (a, b) = own_below j h in
      let k : (0xA0000000 + own j) / 2 ^ 29 ≡ 5 = omega arith in
      let s : (0xA0000000 + own j) % 2 ^ 29 ≡ own j = omega arith in
      rw (agree _ _ k, s, agree _ _ (div-eq_of_lt a))

  words-sound : (left p : ℕ) → p + left ≤ width m → words_verdict m (vector_of m f) left p ≡ Ok tt
  unfolding words_verdict
  words-sound zero p h = refl
  words-sound (suc left) p h =
      let l : p < width m = omega arith in
      rw (mod-eq_of_lt l, made_word p l, word_sound p p l) (words-sound left (suc p) (omega arith))

  pub made-sound : vector_verdict m (vector_of m f) ≡ Ok tt
  unfolding vector_verdict
  made-sound = rw (made-long, agree (width m) (width m) refl) (words-sound (width m) 0 (omega arith))
