-- Bits of words, and sets of numbers in them. Assumes nothing.
use Prim.Native.Nat.{ℕ, zero, suc, ◌+◌, ◌-◌, ◌*◌, ◌/◌, ◌%◌, ◌^◌, ◌≤◌, ◌<◌, max}
use mathlib.Core.Path.{◌≡◌, refl, sym, ap, ◌∙◌}
use mathlib.Core.List.{List}
use native.Mathlib.Nat.{mod-lt, zero-lt-suc, pow-suc, zero-div}
use native.Mathlib.Numerals.{one-add}
use native.Mathlib.Omega.{arith}
use native.Mathlib.Decide.{ℕ_discrete, dec_lt}
use lib.ListN.{length, get_or, set, drop, replicate, length-set, length-drop, length-replicate, get_or-replicate}
use lib.Seq.{get_or-set_same, get_or-set_other, length-take-le}
use lib.Bits.{bit_or, or_shr, or_mod}
use lib.Pow.{shr-shr, shr_lt, shl_exact, shl-shr}
use lib.Count.{count_trailing_zeros, under}
use borrow.Author.Rules.{rules}
use borrow.Rule.Slice.PartMut.{mid_of, put_mid}
use Rattle.std.proofs.lemmas.List.{places}
use Rattle.word32.specs.Fields.{bit_of}
use Rattle.bitset.specs.Members.{member, WithBit, Gains, Next}

-- ---- a bit of the or of two words

bit-lt : (n l : ℕ) → bit_of n l < 2
bit-lt n l = mod-lt (n / 2 ^ l) (zero-lt-suc 1)

or-one : (x y : ℕ) → x < 2 → y < 2 → bit_or x y ≡ max x y
or-one zero y h k = omega arith
or-one (suc zero) zero h k = refl
or-one (suc zero) (suc zero) h k = refl
or-one (suc zero) (suc (suc y)) h k = absurd (omega arith)
or-one (suc (suc x)) y h k = absurd (omega arith)

bit-or : (a b l : ℕ) → bit_of (bit_or a b) l ≡ max (bit_of a l) (bit_of b l)
bit-or a b l = ap (λ (n : ℕ). n % 2) (or_shr a b l) ∙ or_mod (a / 2 ^ l) (b / 2 ^ l) 1 ∙ or-one (bit_of a l) (bit_of b l) (bit-lt a l) (bit-lt b l)

or_left : (a b l : ℕ) → bit_of a l ≤ bit_of (bit_or a b) l
or_left a b l = rw (bit-or a b l) (omega arith)

or_right : (a b l : ℕ) → bit_of b l ≤ bit_of (bit_or a b) l
or_right a b l = rw (bit-or a b l) (omega arith)

one-there : (b : ℕ) → b < 32 → bit_of ((1 * 2 ^ b) % 2 ^ 32) b ≡ 1
one-there b h = rw (shl_exact {a = 1} 1 b 32 (omega arith) (omega arith), shl-shr 1 b) refl

pub with-bit : (w b : ℕ) → b < 32 → WithBit w b (bit_or w ((1 * 2 ^ b) % 2 ^ 32))
with-bit w b h = record {
  kept = λ i. or_left w ((1 * 2 ^ b) % 2 ^ 32) i;
  there = omega (arith, one-there b h, or_right w ((1 * 2 ^ b) % 2 ^ 32) b, bit-lt (bit_or w ((1 * 2 ^ b) % 2 ^ 32)) b);
}

-- ---- the lowest bit of a word

bit-suc : (n l : ℕ) → bit_of n (suc l) ≡ bit_of (n / 2) l
bit-suc n l = ap (λ (k : ℕ). n / 2 ^ k % 2) (sym (one-add l)) ∙ ap (λ (m : ℕ). m % 2) (sym (shr-shr n 1 l))

bit-none : (l : ℕ) → bit_of 0 l ≡ 0
bit-none l = ap (λ (m : ℕ). m % 2) (zero-div (2 ^ l))

trailing-before : (k a l : ℕ) → l < count_trailing_zeros k a → bit_of a l ≡ 0
unfolding count_trailing_zeros
trailing-before zero a l h = absurd (omega arith)
trailing-before (suc k) a l h = go (a % 2) refl (trailing-before k (a / 2)) l h
  where
    go : (r : ℕ) → a % 2 ≡ r → ((l : ℕ) → l < count_trailing_zeros k (a / 2) → bit_of (a / 2) l ≡ 0) → (l : ℕ) → l < under r (count_trailing_zeros k (a / 2)) → bit_of a l ≡ 0
    go zero e f zero h = omega arith
    go zero e f (suc l) h = bit-suc a l ∙ f l (omega arith)
    go (suc r) e f l h = absurd (omega arith)

trailing-there : (k a : ℕ) → count_trailing_zeros k a < k → bit_of a (count_trailing_zeros k a) ≡ 1
unfolding count_trailing_zeros
trailing-there zero a h = absurd (omega arith)
trailing-there (suc k) a h = go (a % 2) refl (trailing-there k (a / 2)) h
  where
    go : (r : ℕ) → a % 2 ≡ r → (count_trailing_zeros k (a / 2) < k → bit_of (a / 2) (count_trailing_zeros k (a / 2)) ≡ 1) → under r (count_trailing_zeros k (a / 2)) < suc k
        → bit_of a (under r (count_trailing_zeros k (a / 2))) ≡ 1
    go zero e f h = bit-suc a (count_trailing_zeros k (a / 2)) ∙ f (omega arith)
    go (suc r) e f h = omega arith

-- a number below 2 ^ m that is not 0 has fewer than m zeros
trailing_lt : (m k a : ℕ) → m ≤ k → (a ≡ 0 → ⊥) → a < 2 ^ m → count_trailing_zeros k a < m
unfolding count_trailing_zeros
trailing_lt zero k a g n h = absurd (n (omega arith))
trailing_lt (suc m) zero a g n h = absurd (omega arith)
trailing_lt (suc m) (suc k) a g n h = go (a % 2) refl (trailing_lt m k (a / 2))
  where
    go : (r : ℕ) → a % 2 ≡ r → (m ≤ k → (a / 2 ≡ 0 → ⊥) → a / 2 < 2 ^ m → count_trailing_zeros k (a / 2) < m) → under r (count_trailing_zeros k (a / 2)) < suc m
    go zero e f =
        let q = pow-suc 2 m in
        let i = f (omega arith) (λ z. n (omega arith)) (omega arith) in
        omega arith
    go (suc r) e f = omega arith

-- ---- one word stored

member-set : {zs : List ℕ} (ys : List ℕ) (base i v : ℕ) → base + i / 32 < length ys → zs ≡ set ys (base + i / 32) v → member zs base i ≡ bit_of v (i % 32)
unfolding member
member-set ys base i v h z = rw (z, get_or-set_same ys (base + i / 32) v 0 h) refl

gains-none : (base : ℕ) (xs : List ℕ) → Gains base xs xs
gains-none base xs = record { kept = λ at i. omega arith; below = λ i h. refl }

gains-then : {base : ℕ} {xs ys zs : List ℕ} → Gains base xs ys → Gains base ys zs → Gains base xs zs
gains-then g h = record {
  kept = λ at i. omega (arith, g.kept at i, h.kept at i);
  below = λ i l. h.below i l ∙ g.below i l;
}

-- a word that keeps its bits
gains-one : (base at v : ℕ) {ys zs : List ℕ} → base ≤ at → at < length ys → ((i : ℕ) → bit_of (get_or ys at 0) i ≤ bit_of v i) → zs ≡ set ys at v → Gains base ys zs
unfolding member
gains-one base at v {ys} l h k z = rw z (record {
  kept = λ p i. elim (ℕ_discrete (p + i / 32) at) [
    | yes e ↦ rw (e, get_or-set_same ys at v 0 h) (k (i % 32))
    | no n ↦ rw (get_or-set_other ys at (p + i / 32) v 0 n) (omega arith)
  ];
  below = λ i b. get_or-set_other ys at i v 0 (λ e. omega arith);
})

pub put_one : (base i : ℕ) {w v : ℕ} {ys zs : List ℕ} → base + i / 32 < length ys → w ≡ get_or ys (base + i / 32) 0 → WithBit w (i % 32) v → zs ≡ set ys (base + i / 32) v
    → Gains base ys zs × (member zs base i ≡ 1)
put_one base i {w} {v} {ys} h e b z =
    (gains-one base (base + i / 32) v (omega arith) h (rw e at b.kept) z, member-set ys base i v h z ∙ b.there)

-- ---- words merged, one by one

pub record Merged (rows : List ℕ) (from lo w base : ℕ) (xs ys : List ℕ) : Type 0 where
  pub long : length ys ≡ length xs
  pub gains : Gains base xs ys
  pub has : (i : ℕ) → lo ≤ i / 32 → i / 32 < w → member rows from i ≤ member ys base i

pub merge_none : (rows : List ℕ) (from lo base : ℕ) (xs : List ℕ) → Merged rows from lo lo base xs xs
merge_none rows from lo base xs = record { long = refl; gains = gains-none base xs; has = λ i p q. absurd (omega arith) }

pub merge-more : {rows : List ℕ} {from lo w base more had : ℕ} {xs ys zs : List ℕ} → Merged rows from lo w base xs ys → base + w < length ys
    → more ≡ get_or rows (from + w) 0 → had ≡ get_or ys (base + w) 0 → zs ≡ set ys (base + w) (bit_or had more) → Merged rows from lo (w + 1) base xs zs
unfolding member
merge-more {rows} {from} {lo} {w} {base} {more} {had} {xs} {ys} {zs} m h e f z =
    let one : Gains base ys zs = gains-one base (base + w) (bit_or had more) (omega arith) h (λ i. rw (sym f) (or_left had more i)) z in
    record {
      long = rw z (simp length-set m.long);
      gains = gains-then m.gains one;
      has = λ i p q. elim (ℕ_discrete (i / 32) w) [
        | yes u ↦ rw (member-set {zs = zs} ys base i (bit_or had more) (rw u h) (rw u z), u, sym e) (or_right had more (i % 32))
        | no n ↦ omega (arith, m.has i p (omega arith), one.kept base i)
      ];
    }

-- ---- words cleared, one by one

pub record Emptied (base w : ℕ) (xs ys : List ℕ) : Type 0 where
  pub long : length ys ≡ length xs
  pub below : (i : ℕ) → i < base → get_or ys i 0 ≡ get_or xs i 0
  pub none : (i : ℕ) → i / 32 < w → member ys base i ≡ 0

pub clear_none : (base : ℕ) (xs : List ℕ) → Emptied base 0 xs xs
clear_none base xs = record { long = refl; below = λ i h. refl; none = λ i h. absurd (omega arith) }

-- ---- words filled with 0

pub cleared : {base n k : ℕ} (xs : List ℕ) {ys : List ℕ} → base + n ≤ length xs → k ≡ n → ys ≡ replicate (length (mid_of base k xs)) 0
    → ((i : ℕ) → i < base → get_or (put_mid base k xs ys) i 0 ≡ get_or xs i 0) × ((i : ℕ) → i / 32 < n → member (put_mid base k xs ys) base i ≡ 0)
unfolding member
cleared {base} {n} {k} xs {ys} h e z =
    let b : base ≤ length xs = omega arith in
    let l : length (mid_of base k xs) ≡ n = length-take-le k (drop base xs) (omega (arith, length-drop base xs)) ∙ e in
    let m : length ys ≡ n = ap length z ∙ length-replicate (length (mid_of base k xs)) 0 ∙ l in (
      λ i q. search (rules, places),
      λ i q.
          let r : i / 32 < length (mid_of base k xs) = omega arith in
          let t : get_or (put_mid base k xs ys) (base + i / 32) 0 ≡ get_or ys (i / 32) 0 = search (rules, places) in
          rw (t, z, get_or-replicate {A = ℕ} (length (mid_of base k xs)) (i / 32) 0 0 r) (bit-none (i % 32)),
    )

-- ---- the search

-- number k, in the word of number i, by the bits of that word from i's on
member-rest : (words : List ℕ) (base i k : ℕ) → i ≤ k → k < (i / 32 + 1) * 32 → member words base k ≡ bit_of (get_or words (base + i / 32) 0 / 2 ^ (i % 32)) (k - i)
unfolding member
member-rest words base i k p q =
    let e : k / 32 ≡ i / 32 = omega arith in
    let f : k % 32 ≡ i % 32 + (k - i) = omega arith in
    rw (e, f) (ap (λ (m : ℕ). m % 2) (sym (shr-shr (get_or words (base + i / 32) 0) (i % 32) (k - i))))

-- the set has no number from `start` on that is below i
pub record Passed (words : List ℕ) (base start end i : ℕ) : Type 0 where
  pub onward : start ≤ i
  pub none : (k : ℕ) → start ≤ k → k < i → k < end → member words base k ≡ 0

pub passed_none : (words : List ℕ) (base start end : ℕ) → Passed words base start end start
passed_none words base start end = record { onward = omega arith; none = λ i p q r. absurd (omega arith) }

-- where the word has no number from i on, the search goes on to the next word
pub passed-more : {words : List ℕ} {base start end i w : ℕ} → Passed words base start end i → w ≡ get_or words (base + i / 32) 0 → w / 2 ^ (i % 32) ≡ 0
    → Passed words base start end ((i / 32 + 1) * 32)
passed-more {words} {base} {start} {end} {i} {w} s e z = record {
  onward = omega (arith, s.onward);
  none = λ k p q r. elim (dec_lt k i) [
    | yes l ↦ s.none k p l r
    | no n ↦ member-rest words base i k (omega arith) q ∙ (rw (sym e, z) (bit-none (k - i)))
  ];
}

-- where it has one, the first is as far off as the zeros go
pub next_here : {words : List ℕ} {base start end i w : ℕ} → Passed words base start end i → w ≡ get_or words (base + i / 32) 0 → w < 2 ^ 32 → (w / 2 ^ (i % 32) ≡ 0 → ⊥)
    → Next words base start end (i + count_trailing_zeros 32 (w / 2 ^ (i % 32)))
next_here {words} {base} {start} {end} {i} {w} s e h n =
    let s32 : (32 - i % 32) + i % 32 ≡ 32 = omega arith in
    let t = trailing_lt (32 - i % 32) 32 (w / 2 ^ (i % 32)) (omega arith) n (shr_lt (32 - i % 32) (i % 32) (rw s32 h)) in
    let off : (i + count_trailing_zeros 32 (w / 2 ^ (i % 32))) - i ≡ count_trailing_zeros 32 (w / 2 ^ (i % 32)) = omega arith in
    record {
      onward = omega (arith, s.onward);
      none = λ k p q r. elim (dec_lt k i) [
        | yes l ↦ s.none k p l r
        | no m ↦ member-rest words base i k (omega arith) (omega arith) ∙ (rw (sym e) (trailing-before 32 (w / 2 ^ (i % 32)) (k - i) (omega arith)))
      ];
      there = λ r. member-rest words base i _ (omega arith) (omega arith) ∙ (rw (sym e, off) (trailing-there 32 _ (omega arith)));
    }

-- a set is told by its words
pub member-same : (xs ys : List ℕ) (base i : ℕ) → get_or ys (base + i / 32) 0 ≡ get_or xs (base + i / 32) 0 → member ys base i ≡ member xs base i
unfolding member
member-same xs ys base i e = rw e
