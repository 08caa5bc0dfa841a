-- The card of a gate list as its words are written, piece after piece. Assumes nothing.
use Prim.Native.Nat.{ℕ, suc, ◌+◌, ◌*◌, ◌<◌, ◌≤◌}
use mathlib.Core.Path.{◌≡◌, refl, sym, ap, ◌∙◌}
use mathlib.Core.Bool.{Bool, true, false}
use mathlib.Core.List.{List, [], ◌∷◌, ◌++◌, append_assoc}
use native.Mathlib.Omega.{arith}
use native.Mathlib.Numerals.{add-one}
use lib.ListN.{length, get_or, set, take, drop, take-append-drop, length-append}
use lib.Seq.{length-take-le}
use Rattle.lists.specs.Tables.{grow, chain, front}
use Rattle.lists.proofs.Tables.{front-more}
use Rattle.lists.proofs.Front.{front-none, front-on}
use Rattle.word32.specs.Fields.{gate_function, lead_count}
use Rattle.answers.specs.declared.Counts.{Counts}
use Rattle.gatelist.specs.Lines.{first_lead, header, input_line, function, leads}
use Rattle.gatelist.specs.Drawn.{line_words, drawn}
use Rattle.gatelist.specs.AcceptsGates.{AcceptsGates}
use Rattle.gatelist.proofs.Walk.{gate-right}
use Rattle.gatelist.proofs.Lines.{lead-next, drawn-long, lead-few, card-long}

-- a store into a buffer d, and two that follow each other
module _ (d : List ℕ) (n v : ℕ) where
  pub put_one : n < length d → set d n v ≡ front (take n d ++ (v ∷ [])) d
  put_one h =
      let long = length-take-le n d (omega arith) in
      let self : front (take n d) d ≡ d = ap (λ (k : ℕ). take n d ++ drop k d) long ∙ take-append-drop n d in
      ap (λ (l : List ℕ). set l n v) (sym self) ∙ front-more (take n d) d n v long h

  long-one : n ≤ length d → length (take n d ++ (v ∷ [])) ≡ n + 1
  long-one h = length-append (take n d) (v ∷ []) ∙ rw (length-take-le n d h)

  pub put_two : (u : ℕ) → n + 2 ≤ length d → set (set d n v) (n + 1) u ≡ front (take n d ++ (v ∷ u ∷ [])) d
  put_two u h =
      ap (λ (l : List ℕ). set l (n + 1) u) (put_one (omega arith))
      ∙ front-more (take n d ++ (v ∷ [])) d (n + 1) u (long-one (omega arith)) (omega arith)
      ∙ ap (λ (l : List ℕ). front l d) (append_assoc (take n d) (v ∷ []) (u ∷ []))

  -- words after one store
  pub put_then : (xs : List ℕ) {out : List ℕ} → n < length d → out ≡ front (take (n + 1) (set d n v) ++ xs) (set d n v) → out ≡ front (take n d ++ (v ∷ xs)) d
  put_then xs h e =
      e ∙ front-on (take n d ++ (v ∷ [])) xs d (set d n v) (n + 1) (long-one (omega arith)) (put_one h)
      ∙ ap (λ (l : List ℕ). front l d) (append_assoc (take n d) (v ∷ []) xs)

-- lists that are written one after the other, from word n of d on
module _ (f : ℕ → List ℕ) (d : List ℕ) (n : ℕ) (h : n ≤ length d) where
  pub chain-start : d ≡ front (take n d ++ chain f 0) d
  unfolding chain grow
  chain-start = front-none (λ k. 0) d n h

  pub chain-put : (m k : ℕ) {x y : List ℕ} → m ≡ n + length (chain f k) → x ≡ front (take n d ++ chain f k) d → y ≡ front (take m x ++ f k) x
      → y ≡ front (take n d ++ chain f (k + 1)) d
  unfolding chain
  chain-put m k {x} l e q =
      q ∙ front-on (take n d ++ chain f k) (f k) d x m (length-append (take n d) (chain f k) ∙ rw (length-take-le n d h, l)) e
      ∙ rw (add-one k) (ap (λ (l : List ℕ). front l d) (append_assoc (take n d) (chain f k) (f k)))

-- the card of an accepted gate list, for the buffer d: the words of some lines are in its front
module _ (gs : List ℕ) (c : Counts) (d : List ℕ) where
  pub record Drawing (out : List ℕ) (line lead : ℕ) : Type 0 where
    pub long : length out ≡ length d
    pub lines : line ≤ c.graphs
    pub few : lead ≤ c.nodes
    pub at-lead : lead ≡ first_lead gs line
    pub words : out ≡ front (drawn gs line) d

  pub drawing-start : Drawing d 0 0
  unfolding first_lead drawn chain
  drawing-start = record { long = refl; lines = omega arith; few = omega arith; at-lead = refl; words = refl }

  module _ (a : AcceptsGates gs c) {out : List ℕ} {line lead : ℕ} (y : Drawing out line lead) where
    pub all-drawn : c.graphs ≤ line → (c.graphs + 2 * lead ≡ length (drawn gs c.graphs)) × (out ≡ front (drawn gs c.graphs) d)
    all-drawn h =
        let e : line ≡ c.graphs = omega (arith, y.lines) in
        (omega (arith, card-long a, y.at-lead ∙ ap (first_lead gs) e, a.leads-in), rw e at y.words)

    -- one line more: what writing it asks, and what it leaves
    module _ (h : line < c.graphs) where
      function-here : gate_function (get_or gs (line + lead) 0) < 6
      unfolding function
      function-here = rw y.at-lead (by (input_line gs line) refl)
        where
          by : (b : Bool) → input_line gs line ≡ b → gate_function (header gs line) < 6
          by true z = omega (arith, (a.input line h z).0)
          by false z = (gate-right _ _ (a.gate line h z).right).0

      header-here : lead_count (get_or gs (line + lead) 0) ≡ leads gs line
      unfolding leads
      header-here = rw y.at-lead

      leads-on : lead + lead_count (get_or gs (line + lead) 0) ≡ first_lead gs (suc line)
      leads-on = omega (arith, header-here, lead-next gs line, y.at-lead)

      leads-few : first_lead gs (suc line) ≤ c.nodes
      leads-few = lead-few a (suc line) (omega arith)

      pub line-asks : c.graphs + 2 * c.nodes ≤ length d
          → (gate_function (get_or gs (line + lead) 0) < 6) × (lead_count (get_or gs (line + lead) 0) ≤ 4096) × (line + lead + 1 + lead_count (get_or gs (line + lead) 0) ≤ length gs)
          × (line + 2 * lead + 1 + 2 * lead_count (get_or gs (line + lead) 0) ≤ length out)
      line-asks r = (
        function-here,
        omega (arith, leads-on, leads-few, a.few-leads),
        omega (arith, leads-on, leads-few, a.fits),
        omega (arith, leads-on, leads-few, y.long),
      )

      pub line-drawn : {w n : ℕ} {x : List ℕ} → length x ≡ length out → x ≡ front (take (line + 2 * lead) out ++ line_words gs (line + lead)) out
          → w ≡ get_or gs (line + lead) 0 → n ≡ lead_count w → Drawing x (line + 1) (lead + n)
      unfolding drawn
      line-drawn l e p q = record {
        long = l ∙ y.long;
        lines = omega arith;
        few = rw (q, p) (omega (arith, leads-on, leads-few));
        at-lead = rw (add-one line, q, p) leads-on;
        words =
            chain-put (λ k. line_words gs (k + first_lead gs k)) d 0 (omega arith) (line + 2 * first_lead gs line) line (omega (arith, drawn-long gs line))
            y.words (rw y.at-lead at e);
      }
