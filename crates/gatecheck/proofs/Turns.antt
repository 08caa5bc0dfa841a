-- One turn of each loop of the check, said of the definitions. Assumes nothing.
use Prim.Native.Nat.{ℕ, suc, ◌+◌, ◌-◌, ◌<◌, ◌≤◌}
use mathlib.Core.Path.{◌≡◌, refl, sym, ap, ◌∙◌}
use mathlib.Core.List.{List}
use native.Mathlib.Omega.{arith}
use native.Mathlib.Numerals.{add-one}
use lib.ListN.{length}
use lib.Dec.{eqb}
use borrow.Author.Tests.{le-leb, lt-leb, lt-ltb, le-ltb}
use Rattle.lists.proofs.Tests.{choose-bit}
use Rattle.word32.specs.Fields.{kind, lead_count}
use Rattle.answers.specs.declared.Rule.TheVariants.{CardTooLong}
use Rattle.answers.specs.declared.Counts.{Counts}
use Rattle.std.specs.Prelude.{Ok, Err}
use Rattle.answers.specs.Answers.{Verdict, refused}
use Rattle.answers.specs.declared.Refusal.{Refusal}
use Rattle.answers.specs.Tests.{and_then}
use Rattle.answers.proofs.Tests.{then-sound}
use Rattle.form.specs.Check.{counts, word, with_graph, ended}
use Rattle.gatelist.specs.Form.{gate_list_length, header_verdict, lead_verdict, leads_verdict, line_verdict, rest, gates_checked_with}
use Rattle.gatelist.proofs.Sound.{header-sound, header-few}
use Rattle.cardcheck.specs.Graph.{Few}

-- a verdict that is not sound is the whole
pub stops : {r : Refusal} (u v : Verdict) → u ≡ Err r → u ≡ and_then u v
stops u v e = rw e

-- the leads of a line after k of them
module _ (gs : List ℕ) (line n p : ℕ) where
  pub leads-start : leads_verdict gs line n p ≡ leads_verdict gs line (n - 0) (p + 0)
  leads-start =
      let z : n - 0 ≡ n = omega arith in
      let q : p + 0 ≡ p = omega arith in
      rw (z, q)

  module _ (k : ℕ) (h : k < n) where
    next : leads_verdict gs line (n - k) (p + k) ≡ and_then (lead_verdict gs line (p + k)) (leads_verdict gs line (n - (k + 1)) (p + (k + 1)))
    unfolding leads_verdict
    next =
        let m : n - k ≡ suc (n - (k + 1)) = omega arith in
        let q : suc (p + k) ≡ p + (k + 1) = omega arith in
        rw (m, q)

    pub leads-go : lead_verdict gs line (p + k) ≡ Ok tt → leads_verdict gs line (n - k) (p + k) ≡ leads_verdict gs line (n - (k + 1)) (p + (k + 1))
    leads-go e = next ∙ rw e

    pub leads-stop : {r : Refusal} → lead_verdict gs line (p + k) ≡ Err r → lead_verdict gs line (p + k) ≡ leads_verdict gs line (n - k) (p + k)
    leads-stop e = stops _ _ e ∙ sym next

  pub leads-end : (k : ℕ) → n ≤ k → leads_verdict gs line (n - k) (p + k) ≡ Ok tt
  unfolding leads_verdict
  leads-end k h = let z : n - k ≡ 0 = omega arith in rw z

-- a line, by its header and its leads
module _ (gs : List ℕ) (c : Counts) where
  pub line-stop : {r : Refusal} → header_verdict (word gs (gate_list_length c)) c ≡ Err r → header_verdict (word gs (gate_list_length c)) c ≡ line_verdict gs c
  unfolding line_verdict
  line-stop e = stops _ _ e

  pub line-go : header_verdict (word gs (gate_list_length c)) c ≡ Ok tt
      → leads_verdict gs c.graphs (lead_count (word gs (gate_list_length c))) (gate_list_length c + 1) ≡ line_verdict gs c
  unfolding line_verdict
  line-go e = rw (e, add-one)

-- a list that is too long, and one that is not
module _ (gs : List ℕ) (extra : ℕ) where
  pub too_long : 9216 < length gs → Err (refused CardTooLong 0) ≡ gates_checked_with gs extra
  unfolding gates_checked_with
  too_long h = rw (lt-ltb _ _ h)

  pub not-long : length gs ≤ 9216 → rest gs extra 1025 (counts 0 0 0 0) ≡ gates_checked_with gs extra
  unfolding gates_checked_with
  not-long h = rw (le-ltb _ _ h)

-- the lines from the place due on
module _ (gs : List ℕ) (extra : ℕ) (c : Counts) (few : c.graphs ≤ 1024) where
  more : 1025 - c.graphs ≡ suc (1025 - (c.graphs + 1))
  more = omega arith

  pub rest_end : length gs ≤ gate_list_length c → rest gs extra (1025 - c.graphs) c ≡ ended gs extra c
  unfolding rest
  rest_end h = rw (more, le-leb _ _ h)

  module _ (h : gate_list_length c < length gs) where
    pub rest-go : line_verdict gs c ≡ Ok tt → rest gs extra (1025 - c.graphs) c ≡ rest gs extra (1025 - (c.graphs + 1)) (with_graph (word gs (gate_list_length c)) c)
    unfolding rest
    rest-go e = rw (more, lt-leb _ _ h, e)

    pub rest-stop : {r : Refusal} → line_verdict gs c ≡ Err r → rest gs extra (1025 - c.graphs) c ≡ Err r
    unfolding rest
    rest-stop e = rw (more, lt-leb _ _ h, e)

-- where the check of the lines stands: at the place due after some lines, which are sound
pub record Reading (gs : List ℕ) (extra : ℕ) (c : Counts) (at : ℕ) : Type 0 where
  pub here : at ≡ gate_list_length c
  pub same : rest gs extra 1025 (counts 0 0 0 0) ≡ rest gs extra (1025 - c.graphs) c
  pub lines : c.graphs ≤ 1024
  pub leads : c.nodes ≤ 4096
  pub inputs : c.inputs ≤ c.graphs
  pub observable : c.observable ≤ c.graphs

pub reading-start : (gs : List ℕ) (extra : ℕ) → Reading gs extra (counts 0 0 0 0) 0
reading-start gs extra = record {
  here = refl;
  same = refl;
  lines = omega arith;
  leads = omega arith;
  inputs = omega arith;
  observable = omega arith;
}

module _ {gs : List ℕ} {extra : ℕ} {c : Counts} {at : ℕ} (y : Reading gs extra c at) where
  pub few-lines : Few c
  few-lines = record {
    inputs = omega (arith, y.inputs, y.lines);
    graphs = y.lines;
    nodes = y.leads;
    observable = omega (arith, y.observable, y.lines);
  }

  pub reading-over : length gs ≤ at → rest gs extra 1025 (counts 0 0 0 0) ≡ ended gs extra c
  reading-over h = y.same ∙ rest_end gs extra c y.lines (omega (arith, y.here))

  module _ (h : at < length gs) where
    inside : gate_list_length c < length gs
    inside = omega (arith, y.here)

    pub reading-stop : {r : Refusal} → line_verdict gs c ≡ Err r → rest gs extra 1025 (counts 0 0 0 0) ≡ Err r
    reading-stop e = y.same ∙ rest-stop gs extra c y.lines inside e

    pub reading-next : {w : ℕ} {d : Counts} → line_verdict gs c ≡ Ok tt → w ≡ word gs at → d ≡ with_graph w c → Reading gs extra d (gate_list_length d)
    unfolding line_verdict
    reading-next {w} {d} e p q =
        let z : w ≡ word gs (gate_list_length c) = p ∙ ap (word gs) y.here in
        let s = (then-sound (header_verdict (word gs (gate_list_length c)) c) _ e).0 in
        rw (q, z) record {
          here = refl;
          same = y.same ∙ rest-go gs extra c y.lines inside e;
          lines = omega (arith, (header-sound (word gs (gate_list_length c)) c s).0);
          leads = header-few (word gs (gate_list_length c)) c y.leads s;
          inputs = omega (arith, y.inputs, choose-bit (eqb (kind (word gs (gate_list_length c))) 0) 1 0 (omega arith) (omega arith));
          observable = omega (arith, y.observable, choose-bit (eqb (kind (word gs (gate_list_length c))) 2) 1 0 (omega arith) (omega arith));
        }
