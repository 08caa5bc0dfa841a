-- AN ACCEPTED GATE LIST, told by its lines: `gates-check-accepts`. Assumes nothing.
use Prim.Native.Nat.{ℕ, zero, suc, ◌+◌, ◌<◌, ◌≤◌}
use mathlib.Core.Path.{◌≡◌, refl, sym, ap, ◌∙◌}
use mathlib.Core.List.{List, [], ◌∷◌}
use mathlib.Core.Bool.{Bool, true, false, not}
use native.Mathlib.Omega.{arith}
use native.Mathlib.Nat.{add-zero}
use native.Mathlib.Numerals.{add-one}
use native.Mathlib.Decide.{ℕ_discrete, dec_le}
use lib.ListN.{length}
use lib.Dec.{ltb, leb, eqb}
use borrow.Author.Tests.{ltb-false, leb-false, eqb-true, eqb-false, le-leb, lt-leb, not-false}
use Rattle.lists.specs.Counting.{count}
use Rattle.lists.proofs.Counting.{count-le}
use Rattle.word32.specs.Fields.{kind, input_spare, gate_function, lead_count, lead_spare, lead_line}
use Rattle.answers.specs.declared.Rule.TheVariants.{TooManyGraphs, WordNotDue, StrayBit, NothingObservable, LeadNotEarlier}
use Rattle.answers.specs.declared.Counts.{Counts}
use Rattle.std.specs.Prelude.{Ok}
use Rattle.answers.specs.Tests.{test, unless, first_broken}
use Rattle.answers.proofs.Tests.{then-sound, all-passed, onward-accepts}
use Rattle.form.specs.Check.{counts, with_graph, input_tests, word, ended, long_tests}
use Rattle.form.proofs.Verdicts.{due-told}
use Rattle.gatelist.specs.Lines.{first_lead, header, input_line, observable_line, function, leads, named_line}
use Rattle.gatelist.specs.Form.{gate_list_length, wrong_gate, gate_tests, header_verdict, lead_verdict, leads_verdict, line_verdict, rest, gates_checked_with}
use Rattle.gatelist.specs.AcceptsGates.{Gate, AcceptsGates}
use Rattle.gatelist.proofs.Lines.{lead-next}

-- a sound header w
module _ (w : ℕ) (c : Counts) (e : header_verdict w c ≡ Ok tt) where
  pub header-sound : (c.graphs < 1024) × (unless (eqb (kind w) 0) (first_broken (input_tests w (gate_list_length c) c)) (first_broken (gate_tests w c)) ≡ Ok tt)
  unfolding header_verdict
  header-sound =
      let few = test (leb 1024 c.graphs) TooManyGraphs (gate_list_length c) ∷ [] in
      let (a, b) = then-sound (first_broken few) _ e in
      (leb-false 1024 c.graphs (all-passed few a).0, b)

  pub an-input : eqb (kind w) 0 ≡ true → (c.graphs ≤ c.inputs) × (w ≡ 0)
  an-input z =
      let t = all-passed (input_tests w (gate_list_length c) c) (rw z at header-sound.1) in
      (ltb-false c.inputs c.graphs t.0, omega (arith, eqb-true (kind w) 0 z, eqb-true (input_spare w) 0 (not-false _ t.1.0)))

  pub a-gate : eqb (kind w) 0 ≡ false → (kind w < 3) × (c.nodes + lead_count w ≤ 4096) × (wrong_gate (gate_function w) (lead_count w) ≡ false)
  a-gate z =
      let t = all-passed (gate_tests w c) (rw z at header-sound.1) in
      (omega (arith, ltb-false 2 (kind w) t.0), ltb-false 4096 (c.nodes + lead_count w) t.1.1.0, t.1.1.1.0)

pub header-few : (w : ℕ) (c : Counts) → c.nodes ≤ 4096 → header_verdict w c ≡ Ok tt → c.nodes + lead_count w ≤ 4096
header-few w c h e = go (eqb (kind w) 0) refl
  where
    go : (b : Bool) → eqb (kind w) 0 ≡ b → c.nodes + lead_count w ≤ 4096
    go true z = rw (an-input w c e z).1 (omega arith)
    go false z = (a-gate w c e z).1

module _ (gs : List ℕ) where
  -- sound leads
  leads-sound : (l left p : ℕ) → leads_verdict gs l left p ≡ Ok tt → (k : ℕ) → k < left → lead_verdict gs l (p + k) ≡ Ok tt
  unfolding leads_verdict
  leads-sound l zero p e k h = absurd (omega arith)
  leads-sound l (suc left) p e zero h = rw (add-zero p) (then-sound (lead_verdict gs l p) _ e).0
  leads-sound l (suc left) p e (suc k) h =
      let z : suc p + k ≡ p + suc k = omega arith in
      rw z at (leads-sound l left (suc p) (then-sound (lead_verdict gs l p) _ e).1 k (omega arith))

  lead-told : (l p : ℕ) → lead_verdict gs l p ≡ Ok tt
      → (p < length gs) × (kind (word gs p) ≡ 3) × (lead_spare (word gs p) ≡ 0) × (lead_line (word gs p) < l)
  unfolding lead_verdict
  lead-told l p e =
      let tests = test (not (eqb (lead_spare (word gs p)) 0)) StrayBit p ∷ test (leb l (lead_line (word gs p))) LeadNotEarlier p ∷ [] in
      let (i, (z, t)) = due-told gs p 3 tests e in
      (i, z, eqb-true (lead_spare (word gs p)) 0 (not-false _ t.0), leb-false l (lead_line (word gs p)) t.1.0)

  -- the counts of the first l lines, and of one more
  abbrev pub up_to : ℕ → Counts
  up_to l = counts (count (input_line gs) l) l (first_lead gs l) (count (observable_line gs) l)

  from-none : (extra left : ℕ) → rest gs extra left (counts 0 0 0 0) ≡ rest gs extra left (up_to 0)
  unfolding count first_lead
  from-none extra left = refl

  up_to-next : (l : ℕ) → with_graph (header gs l) (up_to l) ≡ up_to (suc l)
  unfolding count first_lead input_line observable_line
  up_to-next l = rw (add-one l)

  -- a sound line, by its header and its leads
  module _ (l : ℕ) (e : line_verdict gs (up_to l) ≡ Ok tt) where
    header_of : header_verdict (header gs l) (up_to l) ≡ Ok tt
    unfolding line_verdict
    header_of = (then-sound (header_verdict (header gs l) (up_to l)) _ e).0

    lead-of : (k : ℕ) → k < leads gs l → lead_verdict gs l (l + first_lead gs l + 1 + k) ≡ Ok tt
    unfolding line_verdict leads
    lead-of k h =
        let z : suc (l + first_lead gs l) ≡ l + first_lead gs l + 1 = omega arith in
        rw z at (leads-sound l (leads gs l) (suc (l + first_lead gs l)) (then-sound (header_verdict (header gs l) (up_to l)) _ e).1 k h)

    -- its words are there
    line-fits : l + first_lead gs l < length gs → suc l + first_lead gs (suc l) ≤ length gs
    line-fits h = go (leads gs l) refl
      where
        go : (n : ℕ) → leads gs l ≡ n → suc l + first_lead gs (suc l) ≤ length gs
        go zero z = omega (arith, lead-next gs l)
        go (suc n) z = omega (arith, lead-next gs l, (lead-told l (l + first_lead gs l + 1 + n) (lead-of n (omega arith))).0)

    line-few : first_lead gs l ≤ 4096 → first_lead gs (suc l) ≤ 4096
    unfolding leads
    line-few h = omega (arith, lead-next gs l, header-few (header gs l) (up_to l) h header_of)

    an-input-line : input_line gs l ≡ true → (header gs l ≡ 0) × (count (input_line gs) l ≡ l)
    unfolding input_line
    an-input-line z =
        let (a, b) = an-input (header gs l) (up_to l) header_of z in
        (b, omega (arith, count-le (input_line gs) l))

    a-gate-line : input_line gs l ≡ false → Gate gs l
    unfolding input_line function leads named_line
    a-gate-line z =
        let (low, few, right) = a-gate (header gs l) (up_to l) header_of z in
        record {
          hidden-or-not = omega (arith, eqb-false (kind (header gs l)) 0 z);
          right = right;
          lead = λ k h. let t = lead-told l (l + first_lead gs l + 1 + k) (lead-of k h) in (t.1, t.2);
          earlier = λ k h. (lead-told l (l + first_lead gs l + 1 + k) (lead-of k h)).3;
        }

  -- what is known while l lines are read
  pub record Within (l : ℕ) : Type 0 where
    pub lines : l ≤ 1024
    pub few : first_lead gs l ≤ 4096
    pub inside : l + first_lead gs l ≤ length gs

  within-next : (l : ℕ) → Within l → l + first_lead gs l < length gs → line_verdict gs (up_to l) ≡ Ok tt → Within (suc l)
  within-next l w h e = record {
    lines = omega (arith, (header-sound (header gs l) (up_to l) (header_of l e)).0);
    few = line-few l e w.few;
    inside = line-fits l e h;
  }

  -- every line from l on that an accepting check counts is sound
  pub record AllSound (l : ℕ) (c : Counts) : Type 0 where
    pub same : c ≡ up_to c.graphs
    pub within : Within c.graphs
    pub some : 0 < c.observable
    pub sound : (h : ℕ) → l ≤ h → h < c.graphs → line_verdict gs (up_to h) ≡ Ok tt

  ended-sound : (extra l : ℕ) (d : Counts) → Within l → ended gs extra (up_to l) ≡ Ok d → AllSound l d
  ended-sound extra l d w e =
      let last = test (ltb 0 extra) WordNotDue (length gs) ∷ test (eqb (count (observable_line gs) l) 0) NothingObservable (length gs) ∷ [] in
      let (s, e') = onward-accepts (first_broken last) (Ok (up_to l)) d e in
      let z : d ≡ up_to l = cc in
      let t = all-passed last s in
      rw z record {
        same = refl;
        within = w;
        some = omega (arith, eqb-false (count (observable_line gs) l) 0 t.1.0);
        sound = λ h i m. absurd (omega arith);
      }

  rest-sound : (extra left l : ℕ) (d : Counts) → Within l → rest gs extra left (up_to l) ≡ Ok d → AllSound l d
  unfolding rest
  rest-sound extra zero l d w e = let z : ◌≡◌ {A = ℕ} 0 1 = cc in absurd (omega arith)
  rest-sound extra (suc left) l d w e = elim (dec_le (length gs) (gate_list_length (up_to l))) [
    | yes m ↦ ended-sound extra l d w (rw (le-leb (length gs) (gate_list_length (up_to l)) m) at e)
    | no n ↦
        let (v, e') = onward-accepts (line_verdict gs (up_to l)) _ d (rw (lt-leb (length gs) (gate_list_length (up_to l)) (omega arith)) at e) in
        let r = rest-sound extra left (suc l) d (within-next l w (omega arith) v) (rw (up_to-next l) at e') in
        record {
          same = r.same;
          within = r.within;
          some = r.some;
          sound = λ h i m. elim (ℕ_discrete h l) [ yes z ↦ rw z v | no o ↦ r.sound h (omega arith) m ];
        }
  ]

  within_none : Within 0
  unfolding first_lead
  within_none = record { lines = omega arith; few = omega arith; inside = omega arith }

  all_sound : (extra : ℕ) {c : Counts} → gates_checked_with gs extra ≡ Ok c → AllSound 0 c
  unfolding gates_checked_with
  all_sound extra {c} e = rest-sound extra 1025 0 c within_none (sym (from-none extra 1025) ∙ (onward-accepts (first_broken (long_tests gs)) _ c e).1)

pub gates-check-accepts : (gs : List ℕ) (extra : ℕ) {c : Counts} → gates_checked_with gs extra ≡ Ok c → AcceptsGates gs c
gates-check-accepts gs extra e =
    let a = all_sound gs extra e in
    let z = a.same in
    record {
      few-lines = a.within.lines;
      few-leads = omega (arith, ap (λ (d : Counts). d.nodes) z, a.within.few);
      fits = omega (arith, ap (λ (d : Counts). d.nodes) z, a.within.inside);
      leads-in = sym (ap (λ (d : Counts). d.nodes) z);
      counted = z;
      some-observable = a.some;
      input = λ l h i. an-input-line gs l (a.sound l (omega arith) h) i;
      gate = λ l h i. a-gate-line gs l (a.sound l (omega arith) h) i;
    }
