-- The steps of a change walk, said of the definitions. Assumes nothing.
use Prim.Native.Nat.{ℕ, ◌+◌, ◌-◌, ◌*◌, ◌<◌, ◌≤◌}
use mathlib.Core.Path.{◌≡◌, sym, ap, ◌∙◌}
use mathlib.Core.List.{List}
use native.Mathlib.Omega.{arith}
use native.Mathlib.Decide.{ℕ_discrete}
use lib.ListN.{length, get_or, set, length-set}
use lib.Seq.{get_or-set_same, get_or-set_other}
use Rattle.lists.specs.Tables.{over}
use Rattle.lists.proofs.Tables.{over-at, length_over}
use Rattle.word32.specs.Fields.{exit_of}
use Rattle.answers.specs.declared.Counts.{Counts}
use Rattle.layout.specs.Layout.{size}
use Rattle.layout.specs.Shape.{Shape}
use Rattle.layout.specs.Tables.{Decided, Walkable}
use Rattle.value.specs.declared.Walked.{Walked}
use Rattle.value.specs.Settings.{good}
use Rattle.value.specs.Values.{walk, taken, graph, value}
use Rattle.value.proofs.Settings.{good-keeps}
use Rattle.value.proofs.Walk.{walk-walked}
use Rattle.value.proofs.Walking.{walk_ends as walked_ends}
use Rattle.value.proofs.Values.{graph-lower, value-input, value-bit}
use Rattle.rules.specs.Rules.{flipped}
use Rattle.rules.proofs.Changes.{flipped_below, flipped-here, flipped-gives, flipped-bit}
use Rattle.sweep.specs.Swept.{Swept}
use Rattle.value.specs.Buffers.{BitsBelow}
use Rattle.change.specs.Flips.{Has, Between}

-- one graph walked with the values of a buffer: local node k of graph h, whose first node the table gives as f, has decision d and takes exit e
module _ {ws tables : List ℕ} {h k f : ℕ} (y : Walkable ws tables h) (l : k < size ws h) (p : f ≡ get_or tables h 0) (xs : List ℕ) {d e : ℕ}
    (q : Decided ws (h + 1 + 2 * (f + k)) xs 0 d)
    (z : e ≡ exit_of (get_or ws (h + 2 + 2 * (f + k)) 0) d) where
  abbrev t : ℕ → ℕ
  t = taken ws good (λ g. get_or xs g 0) h

  pub walk_ends : e < 2 → BitsBelow h xs → e ≡ walk t (size ws h) k
  walk_ends b bits = sym (walk-walked t (size ws h) k ∙ ap (λ (w : Walked). w.value) (walked_ends y l p xs q z b bits 0))

-- the change walk of graph g
module _ {ws : List ℕ} {c : Counts} (a : Shape ws c) (x : List ℕ) (g : ℕ) where
  abbrev w : ℕ → ℕ
  w = flipped ws c x g

  abbrev v : ℕ → ℕ
  v = value ws c good x

  pub own-bit : {xs : List ℕ} {n : ℕ} → Has v c.graphs xs → g < c.graphs → n ≡ get_or xs g 0 → n < 2
  own-bit s l e = omega (arith, e ∙ s.word g l, value-bit a good x good-keeps g l)

  pub flip-starts : {xs ys : List ℕ} {n : ℕ} → Has v c.graphs xs → g < c.graphs → n ≡ get_or xs g 0 → ys ≡ set xs g (1 - n)
      → Between w v c.graphs (g + 1) ys
  flip-starts {xs} {ys} {n} s l e z = rw z record {
    long = simp length-set s.long;
    below = λ i t b. elim (ℕ_discrete i g) [
      | yes j ↦ rw j (get_or-set_same xs g (1 - n) 0 (omega (arith, s.long)) ∙ ap (1 -◌) (e ∙ s.word g l) ∙ sym (flipped-here a x g l))
      | no j ↦ get_or-set_other xs g i (1 - n) 0 j ∙ s.word i b ∙ sym (flipped_below a x g i l (omega arith))
    ];
    onward = λ i t b. get_or-set_other xs g i (1 - n) 0 (λ j. omega arith) ∙ s.word i b;
  }

  module _ {h : ℕ} {xs : List ℕ} (s : Between w v c.graphs h xs) (l : g < h) (m : h < c.graphs) where
    pub flip-input : h < c.inputs → Between w v c.graphs (h + 1) xs
    unfolding graph
    flip-input j =
        let e = (a.input h j).0 in
        let q : w h ≡ v h = flipped-gives a x g h (omega arith) m (λ z. omega arith) ∙ rw e (sym (value-input a good x h m e)) in
        record {
          long = s.long;
          below = λ i t b. elim (ℕ_discrete i h) [
            | yes z ↦ rw z (s.onward h (omega arith) m ∙ sym q)
            | no n ↦ s.below i (omega arith) b
          ];
          onward = λ i t b. s.onward i (omega arith) b;
        }

    pub flip-output : c.inputs ≤ h → {ys : List ℕ} {n : ℕ} → (BitsBelow h xs → n ≡ walk (taken ws good (λ i. get_or xs i 0) h) (size ws h) 0) → ys ≡ set xs h n
        → Between w v c.graphs (h + 1) ys
    unfolding graph
    flip-output j {ys} {n} d z =
        let bits : BitsBelow h xs = λ i o. rw (s.below i o (omega arith)) (flipped-bit a x g i (omega arith) (omega arith)) in
        let e = (a.output h m j).0 in
        let n-is : graph ws c.nodes good x (λ i. get_or xs i 0) h ≡ n = rw e (sym (d bits)) in
        let q : n ≡ w h =
        sym (flipped-gives a x g h (omega arith) m (λ z. omega arith)
        ∙ graph-lower a good x w (λ i. get_or xs i 0) h m (λ i o. sym (s.below i o (omega arith))) ∙ n-is) in
        rw z record {
          long = simp length-set s.long;
          below = λ i t b. elim (ℕ_discrete i h) [
            | yes o ↦ rw o (get_or-set_same xs h n 0 (omega (arith, s.long)) ∙ q)
            | no o ↦ get_or-set_other xs h i n 0 o ∙ s.below i (omega arith) b
          ];
          onward = λ i t b. get_or-set_other xs h i n 0 (λ o. omega arith) ∙ s.onward i (omega arith) b;
        }

-- a walk that has come to the end
pub flip-ends : {w v : ℕ → ℕ} {n h : ℕ} {xs : List ℕ} → Between w v n h xs → n ≤ h → Has w n xs
flip-ends s l = record { long = s.long; word = λ i a. s.below i (omega arith) a }

-- the good values from a sweep
pub values-copied : {ws x values flips : List ℕ} {c : Counts} (ys : List ℕ) → Swept ws c x c.graphs values → c.graphs ≤ length ys
    → flips ≡ over c.graphs (λ h. get_or values (c.nodes + h) 0) ys → Has (value ws c good x) c.graphs flips
values-copied {ws} {x} {values} {flips} {c} ys s l e = rw e record {
  long = rw (length_over (λ h. get_or values (c.nodes + h) 0) ys c.graphs l) l;
  word = λ h i. over-at (λ h. get_or values (c.nodes + h) 0) ys c.graphs h i ∙ s.graphs h i;
}
