-- Words written as bytes, and read again from them. Assumes nothing.
use Prim.Native.Nat.{ℕ, ◌+◌, ◌-◌, ◌*◌, ◌/◌, ◌%◌, ◌^◌, ◌<◌, ◌≤◌}
use mathlib.Core.Path.{◌≡◌, refl, sym, ap, ◌∙◌}
use mathlib.Core.List.{List, ◌∷◌, ◌++◌}
use native.Mathlib.Nat.{add-zero}
use native.Mathlib.Numerals.{unary_clauses}
use native.Mathlib.Omega.{arith}
use lib.ListN.{length, get_or, set, take, drop, length-set}
use lib.Seq.{get_or-set_same, get_or-set_other, sets, sets-eq, drop-drop}
use borrow.Rule.Slice.PartMut.{put_mid}
use Rattle.std.specs.Int.{w32, to_be_bytes}
use Rattle.std.proofs.Common.{append_assoc}
use Rattle.lists.specs.Tables.{over}
use Rattle.lists.proofs.Tables.{over-store, over-at}
use Rattle.word32.specs.Bytes.{word_at, set_word, byte_of}

-- a word that is written is read again
pub written_read : (b : List ℕ) (i w : ℕ) → i * 4 + 4 ≤ length b → w < 2 ^ 32 → word_at (set_word b i w) i ≡ w
unfolding word_at set_word
written_read b i w h f =
    let p = i * 4 in
    let b₁ = set b p (w / 2 ^ 24) in
    let b₂ = set b₁ (p + 1) (w / 2 ^ 16 % 2 ^ 8) in
    let b₃ = set b₂ (p + 2) (w / 2 ^ 8 % 2 ^ 8) in
    let x₀ : get_or (set_word b i w) p 0 ≡ w / 2 ^ 24 =
    get_or-set_other b₃ (p + 3) p _ 0 (λ e. omega arith) ∙ get_or-set_other b₂ (p + 2) p _ 0 (λ e. omega arith)
    ∙ get_or-set_other b₁ (p + 1) p _ 0 (λ e. omega arith) ∙ get_or-set_same b p _ 0 (omega arith) in
    let x₁ : get_or (set_word b i w) (p + 1) 0 ≡ w / 2 ^ 16 % 2 ^ 8 =
    get_or-set_other b₃ (p + 3) (p + 1) _ 0 (λ e. omega arith) ∙ get_or-set_other b₂ (p + 2) (p + 1) _ 0 (λ e. omega arith)
    ∙ get_or-set_same b₁ (p + 1) _ 0 (simp length-set (omega arith)) in
    let x₂ : get_or (set_word b i w) (p + 2) 0 ≡ w / 2 ^ 8 % 2 ^ 8 =
    get_or-set_other b₃ (p + 3) (p + 2) _ 0 (λ e. omega arith) ∙ get_or-set_same b₂ (p + 2) _ 0 (simp length-set (omega arith)) in
    let x₃ : get_or (set_word b i w) (p + 3) 0 ≡ w % 2 ^ 8 = get_or-set_same b₃ (p + 3) _ 0 (simp length-set (omega arith)) in
    omega arith

-- the four bytes of a word, copied into their places
pub word-copied : (b : List ℕ) (i w k : ℕ) → i * 4 + 4 ≤ length b → w < 2 ^ 32 → k ≡ 4 → put_mid (i * 4) k b (to_be_bytes w32 w) ≡ set_word b i w
unfolding set_word
word-copied b i w k h f e =
    let p = i * 4 in
    let bytes = to_be_bytes w32 w in
    let top : w / 2 ^ 24 % 2 ^ 8 ≡ w / 2 ^ 24 = omega arith in
    let part : put_mid p k b bytes ≡ take p b ++ (bytes ++ drop (p + 4) b) = rw e (ap (λ r. take p b ++ (bytes ++ r)) (drop-drop 4 p b)) in
    let same : put_mid p k b bytes ≡ sets b p bytes = part ∙ sym (append_assoc (take p b) bytes (drop (p + 4) b)) ∙ sym (sets-eq bytes b p h) in
    same ∙ simp unary_clauses (ap (λ (v : ℕ). sets b p (v ∷ drop 1 bytes)) top)

module _ (ws d : List ℕ) (i : ℕ) where
  -- byte k of word i
  byte-of : (k : ℕ) → k < 4 → byte_of ws (i * 4 + k) ≡ get_or ws i 0 / 2 ^ (24 - 8 * k) % 2 ^ 8
  unfolding byte_of
  byte-of k h =
      let q : (i * 4 + k) / 4 ≡ i = omega arith in
      let r : (i * 4 + k) % 4 ≡ k = omega arith in
      rw (q, r)

  -- one turn of the loop that writes the words: the bytes of word i follow those of the words before it
  pub over_word : i * 4 + 4 ≤ length d → get_or ws i 0 < 2 ^ 32
      → set_word (over (i * 4) (byte_of ws) d) i (get_or ws i 0) ≡ over ((i + 1) * 4) (byte_of ws) d
  unfolding set_word
  over_word h f =
      let w = get_or ws i 0 in
      let more : (k v : ℕ) → k < 4 → v ≡ w / 2 ^ (24 - 8 * k) % 2 ^ 8
      → set (over (i * 4 + k) (byte_of ws) d) (i * 4 + k) v ≡ over (i * 4 + (k + 1)) (byte_of ws) d =
      λ k v l e. let s : i * 4 + (k + 1) ≡ i * 4 + k + 1 = omega arith in
      rw s (over-store (byte_of ws) d (i * 4 + k) v (omega arith) (e ∙ sym (byte-of k l))) in
      let first = rw add-zero at (more 0 (w / 2 ^ 24) (omega arith) (omega arith)) in
      let e : (i + 1) * 4 ≡ i * 4 + 4 = omega arith in
      rw (e, first, more 1 _ (omega arith) refl, more 2 _ (omega arith) refl)
      (more 3 (w % 2 ^ 8) (omega arith) (omega arith))

  -- the words come back from their bytes
  pub bytes-words : i < length ws → get_or ws i 0 < 2 ^ 32 → word_at (over (length ws * 4) (byte_of ws) d) i ≡ get_or ws i 0
  unfolding word_at
  bytes-words h f =
      let w = get_or ws i 0 in
      let at : (k : ℕ) → k < 4 → get_or (over (length ws * 4) (byte_of ws) d) (i * 4 + k) 0 ≡ w / 2 ^ (24 - 8 * k) % 2 ^ 8 =
      λ k l. over-at (byte_of ws) d (length ws * 4) (i * 4 + k) (omega arith) ∙ byte-of k l in
      let top : w / 2 ^ 24 % 2 ^ 8 ≡ w / 2 ^ 24 = omega arith in
      omega (arith, rw add-zero at (at 0 (omega arith)), at 1 (omega arith), at 2 (omega arith), at 3 (omega arith))
