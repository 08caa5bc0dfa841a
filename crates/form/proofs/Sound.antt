-- The check told by the layout, both ways: a card is accepted exactly when each of its graphs is sound and one is observable. Assumes nothing.
use Prim.Native.Nat.{ℕ, zero, suc, ◌+◌, ◌<◌, ◌≤◌}
use mathlib.Core.Path.{◌≡◌, refl, sym, ◌∙◌}
use mathlib.Core.List.{List, [], ◌∷◌}
use native.Mathlib.Omega.{arith}
use native.Mathlib.Numerals.{add-one}
use native.Mathlib.Decide.{ℕ_discrete, dec_le}
use lib.ListN.{length}
use lib.Dec.{ltb, eqb}
use borrow.Author.Tests.{le-ltb, le-leb, lt-leb, ne_eqb}
use Rattle.lists.specs.Counting.{count}
use Rattle.answers.specs.declared.Rule.TheVariants.{WordNotDue, NothingObservable}
use Rattle.answers.specs.declared.Counts.{Counts}
use Rattle.std.specs.Prelude.{Ok}
use Rattle.answers.specs.Tests.{test, first_broken}
use Rattle.answers.proofs.Tests.{passed-sound, onward-accepts, accepts-onward}
use Rattle.form.specs.Check.{counts, card_length, with_graph, graph_verdict, ended, rest, long_tests, checked_with, checked}
use Rattle.layout.specs.Layout.{first, header, is_input, observable}
use Rattle.layout.proofs.Firsts.{first_next, first_more}

module _ (ws : List ℕ) where
  -- the counts of the first g graphs, and of one more
  abbrev pub up_to : ℕ → Counts
  up_to g = counts (count (is_input ws) g) g (first ws g) (count (observable ws) g)

  from-none : (extra left : ℕ) → rest ws extra left (counts 0 0 0 0) ≡ rest ws extra left (up_to 0)
  unfolding count first
  from-none extra left = refl

  pub up_to-next : (g : ℕ) → with_graph (header ws g) (up_to g) ≡ up_to (suc g)
  unfolding count first is_input observable
  up_to-next g = rw (add-one g)

  -- every graph from g on that an accepting check counts is sound
  abbrev AllSound : ℕ → Counts → Type 0
  AllSound g c = (c ≡ up_to c.graphs) × ((h : ℕ) → g ≤ h → h < c.graphs → graph_verdict ws (up_to h) ≡ Ok tt)

  ended-sound : (extra g : ℕ) (d : Counts) → ended ws extra (up_to g) ≡ Ok d → AllSound g d
  ended-sound extra g d e =
      let last = test (ltb 0 extra) WordNotDue (length ws) ∷ test (eqb (count (observable ws) g) 0) NothingObservable (length ws) ∷ [] in
      let e' = (onward-accepts (first_broken last) (Ok (up_to g)) d e).1 in
      let same : d ≡ up_to g = cc in
      rw same (refl, λ h l m. absurd (omega arith))

  rest-sound : (extra left g : ℕ) (d : Counts) → rest ws extra left (up_to g) ≡ Ok d → AllSound g d
  unfolding rest
  rest-sound extra zero g d e = let z : ◌≡◌ {A = ℕ} 0 1 = cc in absurd (omega arith)
  rest-sound extra (suc left) g d e = elim (dec_le (length ws) (card_length (up_to g))) [
    | yes l ↦ ended-sound extra g d (rw (le-leb (length ws) (card_length (up_to g)) l) at e)
    | no n ↦
        let (v, e') = onward-accepts (graph_verdict ws (up_to g)) _ d (rw (lt-leb (length ws) (card_length (up_to g)) (omega arith)) at e) in
        let (same, all) = rest-sound extra left (suc g) d (rw (up_to-next g) at e') in
        (same, λ h l m. elim (ℕ_discrete h g) [ yes z ↦ rw z v | no o ↦ all h (omega arith) m ])
  ]

  pub accepted-sound : {c : Counts} → checked ws ≡ Ok c
      → (c ≡ up_to c.graphs) × ((g : ℕ) → g < c.graphs → graph_verdict ws (up_to g) ≡ Ok tt)
  unfolding checked_with
  accepted-sound {c} e =
      let (same, all) = rest-sound 0 1025 0 c (sym (from-none 0 1025) ∙ (onward-accepts (first_broken (long_tests ws)) _ c e).1) in
      (same, λ g l. all g (omega arith) l)

  -- and the other way: G sound graphs that are all words are a card
  module _ (G : ℕ) (long : length ws ≡ card_length (up_to G)) (some : 0 < count (observable ws) G)
      (all : (g : ℕ) → g < G → graph_verdict ws (up_to g) ≡ Ok tt) where
    rest-accepted : (d left g : ℕ) → g + d ≡ G → d < left → rest ws 0 left (up_to g) ≡ Ok (up_to G)
    unfolding rest
    rest-accepted d zero g e l = absurd (omega arith)
    rest-accepted zero (suc left) g e l =
        let z : g ≡ G = omega arith in
        rw (z, le-leb (length ws) (card_length (up_to G)) (omega arith), ne_eqb (count (observable ws) G) 0 (λ n. omega arith))
    rest-accepted (suc d) (suc left) g e l =
        let z : suc g + d ≡ G = omega arith in
        let m : first ws (suc g) ≤ first ws G = rw z at (first_more ws (suc g) d) in
        rw (lt-leb (length ws) (card_length (up_to g)) (omega (arith, first_next ws g)), all g (omega arith), up_to-next g)
        (rest-accepted d left (suc g) z (omega arith))

    pub sound-accepted : G ≤ 1024 → first ws G ≤ 4096 → checked ws ≡ Ok (up_to G)
    unfolding checked_with
    sound-accepted few nodes =
        accepts-onward (passed-sound (long_tests ws) (le-ltb _ (length ws) (omega arith), tt))
        (from-none 0 1025 ∙ rest-accepted G 1025 0 (omega arith) (omega arith))
