-- What the end of a stopped walk tells, and what is put back then, said of the definitions. Assumes nothing.
use Prim.Native.Nat.{ℕ, ◌+◌, ◌-◌, ◌<◌, ◌≤◌}
use mathlib.Core.Path.{◌≡◌, refl, sym, ap, ◌∙◌}
use mathlib.Core.List.{List}
use mathlib.Core.Bool.{Bool, true, false, not, true≢false}
use native.Mathlib.Omega.{arith}
use native.Mathlib.Decide.{ℕ_discrete, dec_lt}
use lib.ListN.{length, get_or, set, length-set}
use lib.Seq.{get_or-set_same, get_or-set_other}
use lib.Dec.{eqb}
use borrow.Author.Tests.{eqb-true}
use Rattle.lists.specs.Counting.{choose, count}
use Rattle.lists.proofs.Counting.{count_same, count-gap, count-rises, count-reached}
use Rattle.answers.specs.declared.Counts.{Counts}
use Rattle.layout.specs.Layout.{size, reads, observable}
use Rattle.layout.specs.Shape.{Shape}
use Rattle.value.specs.Settings.{good}
use Rattle.value.specs.Values.{value}
use Rattle.value.proofs.Values.{graph-reads}
use Rattle.rules.specs.Rules.{flipped, listed, critical}
use Rattle.rules.specs.Stopped.{stopped}
use Rattle.rules.proofs.Changes.{good-solves, flipped-gives, listed-flipped}
use Rattle.rules.proofs.Stopped.{stopped-upto, stopped-last}
use Rattle.critical.specs.Walking.{list_from, Entries, Stops, Upto, Walking, But}

-- the change walk of graph g
module _ {ws : List ℕ} {c : Counts} (a : Shape ws c) (x : List ℕ) (g : ℕ) (l : g < c.graphs) where
  abbrev w : ℕ → ℕ
  w = flipped ws c x g

  abbrev v : ℕ → ℕ
  v = value ws c good x

  abbrev p : ℕ → Bool
  p = listed ws c x g

  abbrev on : ℕ → Bool
  on = stopped ws c x g

  -- another graph whose nodes read good values has its own
  pub reads-good : (h : ℕ) → h < c.graphs → (h ≡ g → ⊥) → ((k : ℕ) → k < size ws h → w (reads ws h k) ≡ v (reads ws h k)) → w h ≡ v h
  reads-good h m n same = flipped-gives a x g h l m n ∙ graph-reads a good x w v h m same ∙ sym (good-solves a x h m)

  -- flipped where it is listed
  chosen-value : (h : ℕ) → h < c.graphs → (b : Bool) → p h ≡ b → w h ≡ choose b (1 - v h) (v h)
  chosen-value h m true e = listed-flipped a x g h l m e
  chosen-value h m false e = eqb-true _ _ (go (eqb (w h) (v h)) e)
    where
      go : (q : Bool) → not q ≡ false → q ≡ true
      go true z = refl
      go false z = absurd (true≢false z)

  -- THE END, by the change list below q, beyond which nothing is on the stopped list
  module _ {q n : ℕ} {xs : List ℕ} (m : q ≤ c.graphs) (s : Upto ws c x g q n xs) (same : (i : ℕ) → i < q → on i ≡ p i)
      (none : (i : ℕ) → q ≤ i → i < c.graphs → on i ≡ false) where
    pub stops : Stops ws c x g n xs
    stops = record {
      flips = λ h b. elim (dec_lt h q) [
        | yes j ↦ s.between.below h j b ∙ rw (same h j) (chosen-value h b (p h) refl)
        | no j ↦ rw (none h (omega arith) b) (s.between.onward h (omega arith) b)
      ];
      number = s.number ∙ sym (count-gap on q c.graphs m none ∙ count_same on p q same);
      entry = λ h b e. elim (dec_lt h q) [
        | yes j ↦ rw (count_same on p h (λ i k. same i (omega arith))) (s.entry h j (sym (same h j) ∙ e))
        | no j ↦ absurd (true≢false (sym e ∙ none h (omega arith) b))
      ];
    }

  -- all of the change list, where no observable graph is on it
  pub all_listed : {n : ℕ} {xs : List ℕ} → Walking ws c x g c.graphs n xs → Stops ws c x g n xs
  all_listed s = stops (omega arith) s.upto (λ i b. stopped-upto ws c x g c.graphs i (omega arith) s.silent) (λ i b m. absurd (omega arith))

-- WHAT THE END TELLS: the last graph of the list is observable exactly where g is critical
pub last-tells : {ws : List ℕ} {c : Counts} (a : Shape ws c) (x : List ℕ) (g : ℕ) {n m : ℕ} {xs : List ℕ} → Stops ws c x g n xs → 0 < n → m ≡ get_or xs (list_from + (n - 1)) 0
    → observable ws m ≡ critical ws c x g
last-tells {ws} {c} a x g {n} {m} {xs} s e z =
    let on : ℕ → Bool = stopped ws c x g in
    let r = count-reached on c.graphs (n - 1) (omega (arith, s.number)) in
    let k = r.number in
    let q : m ≡ k = z ∙ sym (ap (λ (i : ℕ). get_or xs (list_from + i) 0) r.before) ∙ s.entry k r.inside r.passes in
    rw q (stopped-last ws c x g a k r.inside r.passes (λ i b j. go k i r.passes b j r.before (on i) refl))
  where
    go : (k i : ℕ) → stopped ws c x g k ≡ true → k < i → i < c.graphs → count (stopped ws c x g) k ≡ n - 1 → (b : Bool) → stopped ws c x g i ≡ b → b ≡ false
    go k i t b j f true d = absurd (omega (arith, count-rises (stopped ws c x g) k i b t, count-rises (stopped ws c x g) i c.graphs j d, s.number))
    go k i t b j f false d = refl

-- and what is to be put back: the listed graphs alone
pub listed-alone : {ws : List ℕ} {c : Counts} {x : List ℕ} {g n : ℕ} {xs : List ℕ} → Stops ws c x g n xs → c.graphs ≤ length xs → But (value ws c good x) c.graphs 0 n xs
listed-alone {ws} {c} {x} {g} {n} {xs} s long = record { long = long; word = λ i b o. s.flips i b ∙ go i b o (stopped ws c x g i) refl }
  where
    go : (i : ℕ) → i < c.graphs → ((k : ℕ) → 0 ≤ k → k < n → get_or xs (list_from + k) 0 ≡ i → ⊥) → (b : Bool) → stopped ws c x g i ≡ b
        → choose b (1 - value ws c good x i) (value ws c good x i) ≡ value ws c good x i
    go i b o true d =
        absurd (o (count (stopped ws c x g) i) (omega arith) (omega (arith, count-rises (stopped ws c x g) i c.graphs b d, s.number)) (s.entry i b d))
    go i b o false d = refl

-- a store to the values leaves the list
pub entries-kept : {G n i : ℕ} {xs ys : List ℕ} (v : ℕ) → Entries G n xs → G ≤ 1024 → i < G → ys ≡ set xs i v → Entries G n ys
entries-kept {G} {n} {i} {xs} v s few b z = record {
  some = s.some;
  inside = λ e l. rw (z, get_or-set_other xs i (list_from + e) v 0 (λ q. omega arith)) (s.inside e l);
}

-- one word put back, and all of them
pub back_more : {v : ℕ → ℕ} {G e n i own : ℕ} {xs ys : List ℕ} → But v G e n xs → G ≤ 1024 → i ≡ get_or xs (list_from + e) 0 → i < G → own ≡ v i → ys ≡ set xs i own → But v G (e + 1) n ys
back_more {v} {G} {e} {n} {i} {own} {xs} {ys} s few z b o q =
    let same : (k : ℕ) → get_or ys (list_from + k) 0 ≡ get_or xs (list_from + k) 0 = λ k. rw q (get_or-set_other xs i (list_from + k) own 0 (λ d. omega arith)) in
    record {
      long = rw (q, length-set) s.long;
      word = λ j l m. elim (ℕ_discrete j i) [
        | yes d ↦ rw (q, d) (get_or-set_same xs i own 0 (omega (arith, s.long)) ∙ o)
        | no d ↦ rw q (get_or-set_other xs i j own 0 d ∙ s.word j l (λ k u r f. elim (ℕ_discrete k e) [
          | yes y ↦ d (sym f ∙ ap (λ (k : ℕ). get_or xs (list_from + k) 0) y ∙ sym z)
          | no y ↦ m k (omega arith) r (same k ∙ f)
        ]))
      ];
    }
