-- The steps that fill the tables of readers, said of the definitions. Assumes nothing.
use Prim.Native.Nat.{ℕ, ◌+◌, ◌/◌, ◌<◌, ◌≤◌}
use mathlib.Core.Path.{◌≡◌, sym, ◌∙◌}
use mathlib.Core.List.{List}
use native.Mathlib.Omega.{arith}
use native.Mathlib.Decide.{ℕ_discrete}
use lib.ListN.{length, get_or, set}
use lib.Seq.{get_or-set_same, get_or-set_other}
use lib.Dec.{eqb}
use borrow.Author.Tests.{eq-eqb, ne_eqb}
use Rattle.bitset.specs.Members.{member, Gains}
use Rattle.bitset.proofs.Bits.{member-same}
use Rattle.layout.specs.Layout.{first, size, reads}
use Rattle.cardtables.specs.Tables.{readers_of, sole_of, only_of, Noted}
use Rattle.layout.proofs.Firsts.{one-node}
use Rattle.cardtables.proofs.Only.{only_next, only_kept}

-- no node is noted yet
pub none-noted : {ws t : List ℕ} (q : ℕ → ℕ) → ((i : ℕ) → i < 39968 → get_or t i 0 ≡ 0) → Noted ws q 0 t
unfolding only_of
none-noted q z = record {
  few = λ h k i o. absurd (omega arith);
  readers = λ h k i o. absurd (omega arith);
  sole = λ r i. z (sole_of r) (omega arith);
}

-- ONE NODE MORE: node m, local node k of graph n, which reads graph r. It is put into the set of r, and the word of r, which was s, becomes p.
module _ {ws t u y : List ℕ} {q : ℕ → ℕ} (n k : ℕ) {m r base s p : ℕ} (d : Noted ws q m t) (few : n < 1024) (l : k < size ws n) (e : m ≡ first ws n + k)
    (a : q m ≡ reads ws n k) (z : r ≡ reads ws n k) (b : r < 1024) (x : base ≡ readers_of r) (g : Gains base t u) (o : member u base n ≡ 1) (long : 34848 ≤ length u)
    (w : s ≡ get_or u (sole_of r) 0) (none : s ≡ 0 → p ≡ m + 1) (some : 0 < s → p ≡ 4097) (v : y ≡ set u (sole_of r) p) where
  -- the words of graphs that it does not read
  off : (i : ℕ) → (i ≡ r → ⊥) → i < 1024 → get_or y (sole_of i) 0 ≡ get_or t (sole_of i) 0
  off i a f = rw v (get_or-set_other u (sole_of r) (sole_of i) p 0 (λ c. a (omega arith)) ∙ g.below (sole_of i) (omega arith))

  -- the sets
  same_set : (i j : ℕ) → member y (readers_of i) j ≡ member u (readers_of i) j
  same_set i j = member-same u y (readers_of i) j (rw v (get_or-set_other u (sole_of r) (readers_of i + j / 32) p 0 (λ c. omega arith)))

  -- a noted node is an earlier one or node m
  either : {A : Type 0} (h j : ℕ) → j < size ws h → first ws h + j < m + 1 → (first ws h + j < m → A) → (h ≡ n → j ≡ k → A) → A
  either h j i a f c = elim (ℕ_discrete (first ws h + j) m) [
    | yes x ↦ let x' = one-node ws n h k j l i (sym (x ∙ e)) in c x'.0 x'.1
    | no x ↦ f (omega arith)
  ]

  pub node-noted : Noted ws q (m + 1) y
  node-noted = record {
    few = λ h j i a. either h j i a (d.few h j i) (λ x x'. rw (x, x', ← z) (few, b));
    readers = λ h j i a. either h j i a
        (λ f. omega (arith, d.readers h j i f, g.kept (readers_of (reads ws h j)) h, same_set (reads ws h j) h))
        (λ x' y'. rw (x', y', ← z, same_set r n, ← x, o) (omega arith));
    sole = λ i f. elim (ℕ_discrete i r) [
      | yes c ↦ rw c (only_next (λ j. eqb (q j) r) m (eq-eqb (q m) r (a ∙ sym z)) (w ∙ g.below (sole_of r) (omega arith) ∙ d.sole r b)
          (λ s0. rw v (get_or-set_same u (sole_of r) p 0 (omega arith)) ∙ none s0)
          (λ s0. rw v (get_or-set_same u (sole_of r) p 0 (omega arith)) ∙ some s0))
      | no c ↦ off i c f ∙ d.sole i f ∙ sym (only_kept (λ j. eqb (q j) i) m (ne_eqb (q m) i (λ h. c (sym (z ∙ sym a ∙ h)))))
    ];
  }

-- the tables of readers stay where their words do
pub noted-same : {ws t u : List ℕ} {q : ℕ → ℕ} {m : ℕ} → ((i : ℕ) → 1056 ≤ i → i < 34848 → get_or u i 0 ≡ get_or t i 0) → Noted ws q m t → Noted ws q m u
noted-same {ws} {t} {u} s d = record {
  few = d.few;
  readers = λ h k i o. let f = d.few h k i o in rw (member-same t u (readers_of (reads ws h k)) h (s _ (omega arith) (omega arith))) (d.readers h k i o);
  sole = λ r i. s (sole_of r) (omega arith) (omega arith) ∙ d.sole r i;
}
