-- Bytes that are put one after the other. Assumes nothing.
use Prim.Native.Nat.{ℕ, suc, ◌+◌, ◌<◌, ◌≤◌}
use mathlib.Core.Path.{◌≡◌, refl, sym, ap, ◌∙◌}
use mathlib.Core.List.{List, [], ◌∷◌, ◌++◌}
use native.Mathlib.Omega.{arith}
use native.Mathlib.Nat.{add-zero}
use lib.ListN.{length, set, take, drop, length-append, length-set}
use lib.Seq.{sets, sets-eq, length-sets, drop-drop}
use Rattle.std.proofs.Common.{append_assoc}
use borrow.Rule.Slice.PartMut.{put_mid}
use Rattle.lists.specs.Tables.{front}
use Rattle.textlines.specs.declared.Text.{Text}
use Rattle.textlines.specs.Puts.{placed, Puts, Grew}

placed-more : (at : ℕ) (xs ys d : List ℕ) → placed (at + length xs) ys (placed at xs d) ≡ placed at (xs ++ ys) d
unfolding placed
placed-more at [] ys d = rw add-zero
placed-more at (x ∷ xs) ys d =
    let e : at + suc (length xs) ≡ suc at + length xs = omega arith in
    rw e (placed-more (suc at) xs ys (set d at x))

pub puts_none : (d : List ℕ) (at : ℕ) → at ≤ length d → Puts d at [] at d
unfolding placed
puts_none d at h = record { ends = sym (add-zero at); inside = rw add-zero h; size = refl; bytes = refl }

pub puts_one : (d : List ℕ) (at v : ℕ) → at < length d → Puts d at (v ∷ []) (at + 1) (set d at v)
unfolding placed
puts_one d at v h = record { ends = refl; inside = omega arith; size = length-set d at v; bytes = refl }

-- one text after another
pub puts_then : {d e f xs ys : List ℕ} {at m n : ℕ} → Puts d at xs m e → Puts e m ys n f → Puts d at (xs ++ ys) n f
puts_then {d} {e} {f} {xs} {ys} {at} {m} {n} p q =
    let l = length-append xs ys in
    record {
      ends = omega (arith, l, p.ends, q.ends);
      inside = omega (arith, l, p.ends, p.size, q.inside);
      size = q.size ∙ p.size;
      bytes = q.bytes ∙ rw (p.ends, p.bytes) (placed-more at xs ys d);
    }

-- a text copied into a part of a buffer
pub puts_part : {xs ys : List ℕ} (d : List ℕ) (at k : ℕ) → at + length xs ≤ length d → k ≡ length xs → ys ≡ xs → Puts d at xs (at + length xs) (put_mid at k d ys)
unfolding placed
puts_part {xs} {ys} d at k h l e =
    let part : put_mid at k d ys ≡ take at d ++ (xs ++ drop (at + length xs) d) = rw (e, l) (ap (λ r. take at d ++ (xs ++ r)) (drop-drop (length xs) at d)) in
    let same : put_mid at k d ys ≡ sets d at xs = part ∙ sym (append_assoc (take at d) xs (drop (at + length xs) d)) ∙ sym (sets-eq xs d at h) in
    record { ends = refl; inside = h; size = ap length same ∙ length-sets d at xs; bytes = same }

-- a text at the start stands in the buffer's front
pub puts-front : {d e xs : List ℕ} {n : ℕ} → Puts d 0 xs n e → (n ≡ length xs) × (e ≡ front xs d) × (n ≤ length e)
unfolding placed
puts-front {d} {e} {xs} {n} p =
    let z : 0 + length xs ≡ length xs = omega arith in
    (omega (arith, p.ends), p.bytes ∙ sets-eq xs d 0 p.inside ∙ ap (λ (k : ℕ). xs ++ drop k d) z, omega (arith, p.ends, p.inside, p.size))

-- a text that grows by nothing, and by one text after another
pub grew_none : (t : Text) → t.at ≤ length t.out.now → Grew t [] t
grew_none t h = record { same = refl; puts = puts_none _ _ h }

pub grew_then : {a b c : Text} {xs ys : List ℕ} → Grew a xs b → Grew b ys c → Grew a (xs ++ ys) c
grew_then p q = record { same = q.same ∙ p.same; puts = puts_then p.puts q.puts }
