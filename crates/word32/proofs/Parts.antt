-- The words of a part of the bytes are a part of their words. Assumes nothing.
use Prim.Native.Nat.{ℕ, ◌+◌, ◌-◌, ◌*◌, ◌/◌, ◌<◌, ◌≤◌}
use mathlib.Core.Path.{◌≡◌, sym, ap, ◌∙◌}
use mathlib.Core.List.{List}
use native.Mathlib.Omega.{arith}
use lib.ListN.{length, get_or, take, drop, length-drop}
use lib.Seq.{length-take-le, get_or-take, get_or-drop, ext_get_or}
use Rattle.lists.specs.Tables.{over}
use Rattle.lists.proofs.Tables.{length-tab, tab-at, over-front}
use Rattle.word32.specs.Bytes.{word_at, words_of}

-- the words s to e - 1
module _ (b part : List ℕ) (s e : ℕ) (o : s ≤ e) (h : e ≤ length b / 4) (q : part ≡ take (e * 4 - s * 4) (drop (s * 4) b)) where
  abbrev n : ℕ
  n = e - s

  part-long : length part ≡ n * 4
  part-long =
      let m : e * 4 - s * 4 ≡ n * 4 = omega arith in
      ap length q ∙ length-take-le (e * 4 - s * 4) (drop (s * 4) b) (rw (length-drop (s * 4) b) (omega arith)) ∙ m

  part-byte : (j : ℕ) → j < n * 4 → get_or part j 0 ≡ get_or b (s * 4 + j) 0
  part-byte j l = rw q (get_or-take (e * 4 - s * 4) (drop (s * 4) b) j 0 (omega arith) ∙ get_or-drop (s * 4) b j 0)

  part-word : (i : ℕ) → i < n → word_at part i ≡ word_at b (s + i)
  unfolding word_at
  part-word i l =
      let at : (k : ℕ) → k < 4 → get_or part (i * 4 + k) 0 ≡ get_or b ((s + i) * 4 + k) 0 =
      λ k m. let z : s * 4 + (i * 4 + k) ≡ (s + i) * 4 + k = omega arith in
      part-byte (i * 4 + k) (omega arith) ∙ ap (λ (j : ℕ). get_or b j 0) z in
      let first : get_or part (i * 4) 0 ≡ get_or b ((s + i) * 4) 0 =
      let z : s * 4 + i * 4 ≡ (s + i) * 4 = omega arith in
      part-byte (i * 4) (omega arith) ∙ ap (λ (j : ℕ). get_or b j 0) z in
      rw (first, at 1 (omega arith), at 2 (omega arith), at 3 (omega arith))

  pub part-number : length part / 4 ≡ n
  part-number = omega (arith, part-long)

  part-words : words_of part ≡ take n (drop s (words_of b))
  part-words =
      let m : length (words_of part) ≡ n = length-tab (word_at part) (length part / 4) ∙ part-number in
      let m' : length (take n (drop s (words_of b))) ≡ n =
      length-take-le n (drop s (words_of b)) (rw (length-drop s (words_of b), length-tab (word_at b) (length b / 4)) (omega arith)) in
      ext_get_or 0 (words_of part) (take n (drop s (words_of b))) (m ∙ sym m') (λ i l.
      let l' : i < n = omega (arith, m) in
      tab-at (word_at part) (length part / 4) i (omega (arith, part-number))
      ∙ part-word i l'
      ∙ sym (get_or-take n (drop s (words_of b)) i 0 l' ∙ get_or-drop s (words_of b) i 0 ∙ tab-at (word_at b) (length b / 4) (s + i) (omega arith)))

  -- and so they stand at the front of a buffer into which they are read
  pub part-front : (d : List ℕ) {out : List ℕ} {r : ℕ} → r ≡ length part / 4 → out ≡ over (length part / 4) (word_at part) d → take r out ≡ take n (drop s (words_of b))
  part-front d z y = rw (z, y) (over-front (word_at part) d (length part / 4) ∙ part-words)
