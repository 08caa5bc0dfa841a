-- A list of faults in bytes: the loop over its later numbers, and what is read of it. Assumes nothing.
use Prim.Native.Nat.{ℕ, suc, ◌+◌, ◌/◌, ◌%◌, ◌<◌, ◌≤◌, max, min}
use mathlib.Core.Path.{◌≡◌, refl, sym, ap, ◌∙◌}
use mathlib.Core.List.{List, [], ◌∷◌, ◌++◌}
use mathlib.Core.Bool.{◌||◌, or-false, or_assoc}
use native.Mathlib.Omega.{arith}
use native.Mathlib.Decide.{dec_le}
use native.Mathlib.Numerals.{add-one}
use lib.ListN.{length, get_or, take, drop, set, length-set, take-append-drop, drop_of_length-le}
use lib.Seq.{length-take-le, take_all, drop-cons, take-suc, take_at, take-suc-set, get_or-take}
use lib.Dec.{leb}
use borrow.Author.Tests.{lt-ltb, ltb-false, le-leb, lt-leb}
use Rattle.lists.specs.Counting.{some_of}
use Rattle.lists.proofs.Tables.{length-tab}
use Rattle.word32.specs.Bytes.{word_at, words_of}
use Rattle.answers.specs.declared.Counts.{Counts}
use Rattle.std.specs.Prelude.{Ok}
use Rattle.answers.specs.Calls.{lent}
use Rattle.answers.specs.Tests.{first_broken}
use Rattle.answers.proofs.Tests.{all-passed}
use borrow.Author.Rules.{rules}
use Rattle.answers.proofs.Positions.{LowTests}
use Rattle.faultlist.specs.Faults.{too_high, fault_tests}
use Rattle.inbytes.specs.Read.{WordsRead}
use Rattle.hostfaults.specs.Faults.{Highest, FaultsRead, FaultsLent}

-- the highest of two, and of a list in two parts
max-high : (F a b : ℕ) → leb F (max a b) ≡ leb F a || leb F b
max-high F a b = elim (dec_le F a) [
  | yes h ↦ rw (le-leb F a h) (le-leb F (max a b) (omega arith))
  | no h ↦ elim (dec_le F b) [
    | yes k ↦ rw (lt-leb F a (omega arith), le-leb F b k) (le-leb F (max a b) (omega arith))
    | no k ↦ rw (lt-leb F a (omega arith), lt-leb F b (omega arith)) (lt-leb F (max a b) (omega arith))
  ]
]

high_parts : (F : ℕ) (xs ys : List ℕ) → too_high F (xs ++ ys) ≡ too_high F xs || too_high F ys
unfolding too_high some_of
high_parts F [] ys = refl
high_parts F (x ∷ xs) ys = rw (high_parts F xs ys) (sym (or_assoc (leb F x) (too_high F xs) (too_high F ys)))

high_one : (F v : ℕ) → too_high F (v ∷ []) ≡ leb F v
unfolding too_high some_of
high_one F v = or-false (leb F v)

high-head : (F v : ℕ) (vs : List ℕ) → too_high F (v ∷ vs) ≡ leb F v || too_high F vs
unfolding too_high some_of
high-head F v vs = refl

eight : (l : List ℕ) → 9 ≤ length l → take 8 (take 9 l) ≡ take 8 l
eight l h = ap (take 8) (take-suc l 8 0 h) ∙ take_at (take 8 l) (get_or l 8 0 ∷ []) 8 (length-take-le 8 l (omega arith))

-- a loop over the numbers: those from i on
module _ (F high : ℕ) (ws : List ℕ) (i : ℕ) where
  pub high-next : {w : ℕ} → i < length ws → w ≡ get_or ws i 0 → leb F (max high w) || too_high F (drop (i + 1) ws) ≡ leb F high || too_high F (drop i ws)
  unfolding too_high some_of
  high-next {w} h e = rw (add-one, drop-cons ws i 0 h, max-high F high w, e) (or_assoc (leb F high) (leb F (get_or ws i 0)) (too_high F (drop (suc i) ws)))

  pub high-over : length ws ≤ i → leb F high ≡ leb F high || too_high F (drop i ws)
  unfolding too_high some_of
  high-over h = rw (drop_of_length-le ws h) (sym (or-false (leb F high)))

-- two lists that are both too long are tested alike
many-tested : (extra : ℕ) (fs gs : List ℕ) (room : ℕ) (c : Counts) → too_high c.faults fs ≡ too_high c.faults gs → 8 < length fs → 8 < length gs
    → first_broken (fault_tests extra fs room c) ≡ first_broken (fault_tests extra gs room c)
unfolding fault_tests
many-tested extra fs gs room c e h k = rw (e, lt-ltb 8 (length fs) h, lt-ltb 8 (length gs) k)

few-passed : (extra : ℕ) (fs : List ℕ) (room : ℕ) (c : Counts) → first_broken (fault_tests extra fs room c) ≡ Ok tt → length fs ≤ 8
unfolding fault_tests
few-passed extra fs room c e = ltb-false 8 (length fs) (all-passed (fault_tests extra fs room c) e).1.1.0

-- a broken test stands at a position that the one number has room for
pub fault-low : (extra : ℕ) (fs : List ℕ) (room : ℕ) (c : Counts) → LowTests 4294967295 (fault_tests extra fs room c)
unfolding fault_tests
fault-low extra fs room c = search rules

-- the numbers that were read, nine at most, as they are lent
nine-lent : (b out : List ℕ) (n : ℕ) → n ≤ 9 → FaultsRead b n out → FaultsLent b (lent (take n out) (length b % 4))
nine-lent b out n few f = record { fits = omega (arith, length-take-le n out f.fits, few); left = refl; tested = f.tested; passed = f.passed }

pub numbers-lent : (b out : List ℕ) (n : ℕ) → 9 ≡ length out → FaultsRead b n out → FaultsLent b (lent (take n out) (length b % 4))
numbers-lent b out n nine f = nine-lent b out n (omega (arith, nine, f.fits)) f

module _ (b : List ℕ) {out : List ℕ} {l n : ℕ} (nine : 9 ≡ l) (w : WordsRead b l n out) where
  -- as many were read as there are, nine at most
  read-least : n ≡ min 9 (length b / 4)
  read-least =
      let ws : List ℕ = words_of b in
      let long : length ws ≡ length b / 4 = length-tab (word_at b) (length b / 4) in
      let e : take n out ≡ take 9 ws = rw (← nine) at w.front in
      let r : length (take n out) ≡ n = length-take-le n out w.fits in
      elim (dec_le 9 (length ws)) [
        | yes h ↦ omega (arith, ap length e, r, length-take-le 9 ws h, long)
        | no h ↦ omega (arith, ap length e, r, ap length (take_all 9 ws (omega arith)), long)
      ]

  -- a list of at most eight, as it is read, and as it is lent from a buffer of any length
  pub few-read : length b / 4 < 9 → FaultsRead b n out
  few-read h =
      let e : take n out ≡ words_of b =
      rw (← nine) at w.front ∙ take_all 9 (words_of b) (omega (arith, length-tab (word_at b) (length b / 4))) in
      record { fits = w.fits; tested = λ extra room c. rw e; passed = λ extra room c s. e }

  pub few-lent : (n ≡ 9 → ⊥) → FaultsLent b (lent (take n out) (length b % 4))
  few-lent h = nine-lent b out n (omega (arith, read-least)) (few-read (omega (arith, h, read-least)))

  -- a longer one, so too
  pub many_read : 9 ≤ length b / 4 → {v : ℕ} → Highest b (get_or out 8 0) v → FaultsRead b 9 (set out 8 v)
  many_read h {v} high =
      let ws : List ℕ = words_of b in
      let long : length ws ≡ length b / 4 = length-tab (word_at b) (length b / 4) in
      let e : take n out ≡ take 9 ws = rw (← nine) at w.front in
      let z : n ≡ 9 = omega (arith, read-least) in
      let e9 : take 9 out ≡ take 9 ws = rw z at e in
      let nines : 9 ≤ length out = omega (arith, w.fits) in
      let l9 : length (take 9 (set out 8 v)) ≡ 9 = length-take-le 9 (set out 8 v) (omega (arith, length-set out 8 v)) in
      let g : get_or out 8 0 ≡ get_or ws 8 0 = sym (get_or-take 9 out 8 0 (omega arith)) ∙ ap (λ (l : List ℕ). get_or l 8 0) e9 ∙ get_or-take 9 ws 8 0 (omega arith) in
      let t : take 8 out ≡ take 8 ws = sym (eight out nines) ∙ ap (take 8) e9 ∙ eight ws (omega arith) in
      let same : (F : ℕ) → too_high F (take 9 (set out 8 v)) ≡ too_high F ws = λ F.
      ap (too_high F) (take-suc-set out 8 v (omega arith)) ∙ high_parts F (take 8 out) (v ∷ [])
      ∙ rw (t, high_one F v, high.tells F, g) (sym (ap (too_high F) (sym (take-append-drop 8 ws)) ∙ high_parts F (take 8 ws) (drop 8 ws) ∙ rw (drop-cons ws 8 0 (omega arith), high-head F (get_or ws 8 0) (drop 9 ws)))) in
      record {
        fits = omega (arith, length-set out 8 v);
        tested = λ extra room c. many-tested extra (take 9 (set out 8 v)) ws room c (same c.faults) (omega arith) (omega arith);
        passed = λ extra room c s. absurd (omega (arith, few-passed extra ws room c s));
      }

  pub many-lent : n ≡ 9 → {v : ℕ} → Highest b (get_or out 8 0) v → FaultsLent b (lent (take n (set out 8 v)) (length b % 4))
  many-lent z {v} high = rw z (nine-lent b (set out 8 v) 9 (omega arith) (many_read (omega (arith, read-least)) high))
