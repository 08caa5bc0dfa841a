-- Rules 1 and 2 by laws, and that a change list is what one held graph alters. Assumes nothing.
use Prim.Native.Nat.{ℕ, zero, suc, ◌+◌, ◌-◌, ◌<◌, ◌≤◌}
use mathlib.Core.Path.{◌≡◌, refl, sym, ap, ◌∙◌}
use mathlib.Core.List.{List}
use mathlib.Core.Bool.{Bool, true, false, ◌||◌, false≢true, or-false}
use native.Mathlib.Omega.{arith}
use lib.Dec.{eqb}
use borrow.Author.Tests.{eq-eqb, ne_eqb}
use Rattle.lists.specs.Counting.{choose}
use Rattle.lists.specs.Tables.{Net, at, grow}
use Rattle.lists.proofs.Tests.{and-differ, agree, choose-bit, none_has}
use Rattle.lists.proofs.Net.{Lower, Solves, Same, unique, grow-more, grow-solves, held, held-here, held-off, held-lower, held-solves, held_below, one-held, none-altered}
use Rattle.answers.specs.declared.Counts.{Counts}
use Rattle.layout.specs.Layout.{is_input, size, reads, exits, decides}
use Rattle.layout.specs.Shape.{Shape}
use Rattle.testvectors.specs.Vectors.{bit}
use Rattle.value.specs.Settings.{Setting, Keeps, good}
use Rattle.value.specs.Values.{taken, graph, value}
use Rattle.value.proofs.Settings.{good-keeps}
use Rattle.value.proofs.Values.{Spares, taken-later, graph-lower, value-solves, graph-bit, value-bit, graph-spared}
use Rattle.detect.specs.Detects.{good_value}
use Rattle.rules.specs.Rules.{beyond, meets, active, touched, rewalk, flipped, listed}
use Rattle.rules.proofs.Rewalk.{rewalk-lower}
use Rattle.rules.proofs.Meets.{meets-law, meets-self, meets-onward, meets-from, meets-below, same-walk}

module _ {ws : List ℕ} {c : Counts} (a : Shape ws c) (x : List ℕ) where
  abbrev v : ℕ → ℕ
  v = good_value ws c x

  -- what graph h gives with no fault in
  abbrev b : Net
  b = graph ws c.nodes good x

  -- the exit that a node takes with no fault in
  abbrev t : ℕ → ℕ → ℕ
  t = taken ws good v

  pub good-solves : Solves c.graphs b v
  good-solves = value-solves a good x

  pub good-lower : Lower c.graphs b
  good-lower = graph-lower a good x

  pub good-bit : (g : ℕ) → g < c.graphs → v g < 2
  good-bit = value-bit a good x good-keeps

  -- Rule 1 as document 01 says it: the entrance, the node named by the exit taken at an active node, and no other.
  pub active-entrance : (g : ℕ) → 0 < size ws g → active ws c x g 0 ≡ true
  unfolding active
  active-entrance g h = meets-self (t g) (size ws g) 0 h

  pub active-next : (g j l : ℕ) → g < c.graphs → 0 < size ws g → active ws c x g j ≡ true → t g j ≡ suc (suc l) → active ws c x g l ≡ true
  unfolding active
  active-next g j l i h = meets-onward (t g) (size ws g) (taken-later a good x v g i) j l (size ws g) 0 h (omega arith)

  pub active-from : (g j : ℕ) → active ws c x g j ≡ true → (0 ≡ j → ⊥) → (i : ℕ) × (active ws c x g i ≡ true) × (t g i ≡ suc (suc j))
  unfolding active
  active-from g j m n = meets-from (t g) j (size ws g) 0 n m

  -- as a loop along the walk has it: the active nodes are those met from the entrance, and those met from k are k and those met behind it
  pub active-start : (g j : ℕ) → active ws c x g j ≡ meets (t g) j (size ws g) 0
  unfolding active
  active-start g j = refl

  pub active-law : (g j k : ℕ) → g < c.graphs → k < size ws g
      → meets (t g) j (size ws g) k ≡ eqb k j || beyond (meets (t g) j (size ws g)) (t g k)
  active-law g j k l = meets-law (t g) (size ws g) j (taken-later a good x v g l) k

  pub active-last : (g j k e : ℕ) → g < c.graphs → k < size ws g → t g k ≡ e → e < 2 → meets (t g) j (size ws g) k ≡ eqb k j
  active-last g j k zero l i q h = active-law g j k l i ∙ rw q (or-false (eqb k j))
  active-last g j k (suc zero) l i q h = active-law g j k l i ∙ rw q (or-false (eqb k j))
  active-last g j k (suc (suc e)) l i q h = absurd (omega arith)

  pub active-onward : (g j k e : ℕ) → g < c.graphs → k < size ws g → t g k ≡ e → 2 ≤ e
      → meets (t g) j (size ws g) k ≡ eqb k j || meets (t g) j (size ws g) (e - 2)
  active-onward g j k e l i q h =
      let z : e ≡ suc (suc (e - 2)) = omega arith in
      active-law g j k l i ∙ ap (λ (r : ℕ). eqb k j || beyond (meets (t g) j (size ws g)) r) (q ∙ z)

  -- Rule 2. A graph that is not touched gives its good value.
  pub untouched : (w : ℕ → ℕ) (h : ℕ) → h < c.graphs → touched ws c x w h ≡ false → v h ≡ b w h
  unfolding graph touched active
  untouched w h l e =
      good-solves h l
      ∙ ap (choose (is_input ws h) (bit x h)) (same-walk (t h) (taken ws good w h) (size ws h) 0 (λ j m.
      let i = meets-below (t h) (size ws h) (taken-later a good x v h l) j m in
      ap (λ (r : ℕ). exits ws h j (decides ws h j r)) (sym (and-differ (active ws c x h j) (w (reads ws h j)) (v (reads ws h j)) (none_has _ (size ws h) e j i) m))))

  pub flipped-step : (g : ℕ) → Solves c.graphs (rewalk ws c x g) (flipped ws c x g)
  unfolding flipped
  flipped-step g = grow-solves (rewalk ws c x g) c.graphs (rewalk-lower a x g)

  -- a walk that has come to graph m has the running values below m
  pub flipped-so-far : (g m h : ℕ) → m ≤ c.graphs → h < m → at (grow (rewalk ws c x g) m) h ≡ flipped ws c x g h
  unfolding flipped
  flipped-so-far g m h l i =
      let e : m + (c.graphs - m) ≡ c.graphs = omega arith in
      sym (grow-more (rewalk ws c x g) h m (c.graphs - m) i) ∙ ap (λ (n : ℕ). at (grow (rewalk ws c x g) n) h) e

  -- THE CHANGE LIST: the running values are those of the card with graph g held at the opposite
  pub flipped-solves : (g : ℕ) → g < c.graphs → Solves c.graphs (held b g (1 - v g)) (flipped ws c x g)
  flipped-solves g l =
      held-solves c.graphs b good-lower g (1 - v g) w (flipped-step g g l ∙ rw (eq-eqb g g refl))
      (λ h m n. flipped-step g h m ∙ rw (ne_eqb h g n) (go h m (touched ws c x w h) refl))
    where
      w : ℕ → ℕ
      w = flipped ws c x g

      go : (h : ℕ) → h < c.graphs → (p : Bool) → touched ws c x w h ≡ p → choose p (b w h) (v h) ≡ b w h
      go h m true e = refl
      go h m false e = untouched w h m e

  -- the running values of a change walk: as they were below g, flipped at g, and above it by rule 2
  pub flipped_below : (g h : ℕ) → g < c.graphs → h < g → flipped ws c x g h ≡ v h
  flipped_below g h l m = held_below c.graphs b good-lower g (1 - v g) l v (flipped ws c x g) good-solves (flipped-solves g l) h m

  pub flipped-here : (g : ℕ) → g < c.graphs → flipped ws c x g g ≡ 1 - v g
  flipped-here g l = flipped-solves g l g l ∙ held-here c.graphs b good-lower g (1 - v g) (flipped ws c x g)

  pub flipped-gives : (g h : ℕ) → g < c.graphs → h < c.graphs → (h ≡ g → ⊥) → flipped ws c x g h ≡ b (flipped ws c x g) h
  flipped-gives g h l m n = flipped-solves g l h m ∙ held-off c.graphs b good-lower g (1 - v g) (flipped ws c x g) h n

  pub flipped_above : (g h : ℕ) → h < c.graphs → g < h
      → flipped ws c x g h ≡ choose (touched ws c x (flipped ws c x g) h) (b (flipped ws c x g) h) (v h)
  flipped_above g h l m = flipped-step g h l ∙ rw (ne_eqb h g (λ e. omega arith))

  -- they are 0 or 1
  pub flipped-bit : (g h : ℕ) → g < c.graphs → h < c.graphs → flipped ws c x g h < 2
  flipped-bit g h l m = rw (flipped-solves g l h m) (choose-bit (eqb h g) _ _ (omega arith) (graph-bit a good x good-keeps _ h))

  -- a listed graph's value is flipped
  pub listed-flipped : (g h : ℕ) → g < c.graphs → h < c.graphs → listed ws c x g h ≡ true → flipped ws c x g h ≡ 1 - v h
  listed-flipped g h l m e =
      let n : flipped ws c x g h ≡ v h → ⊥ = λ q. false≢true (sym (agree _ _ q) ∙ e) in
      omega (arith, flipped-bit g h l m, good-bit h m)

  -- One graph altered, by any setting that leaves the others alone. `graph .. s x v g` is what g gives with it over good values.
  module _ (s : Setting) (g : ℕ) (l : g < c.graphs) (spares : (h : ℕ) → h < c.graphs → (h ≡ g → ⊥) → Spares ws c s h) (keeps : Keeps s) where
    abbrev v' : ℕ → ℕ
    v' = value ws c s x

    abbrev b' : Net
    b' = graph ws c.nodes s x

    off : (w : ℕ → ℕ) (h : ℕ) → h < c.graphs → (h ≡ g → ⊥) → b' w h ≡ b w h
    off w h m n = graph-spared a s x w h m (spares h m n)

    pub setting-held : Solves c.graphs (held b g (b' v g)) v'
    setting-held = one-held c.graphs b b' good-lower (graph-lower a s x) g l off v v' good-solves (value-solves a s x)

    pub setting-none : b' v g ≡ v g → Same c.graphs v' v
    setting-none = none-altered c.graphs b b' good-lower (graph-lower a s x) g l off v v' good-solves (value-solves a s x)

    pub setting-flips : (b' v g ≡ v g → ⊥) → Same c.graphs v' (flipped ws c x g)
    setting-flips n =
        let e : b' v g ≡ 1 - v g = omega (arith, graph-bit a s x keeps v g, good-bit g l) in
        unique c.graphs (held b g (1 - v g)) (held-lower c.graphs b good-lower g (1 - v g)) v' (flipped ws c x g)
        (rw e at setting-held) (flipped-solves g l)
