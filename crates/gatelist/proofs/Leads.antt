-- The values of a gate's leads: what a line gives goes by earlier lines alone, and a lead's value is a bit where the lines have bits. Assumes nothing.
use Prim.Native.Nat.{ℕ, ◌+◌, ◌<◌}
use mathlib.Core.Path.{◌≡◌, refl, ap}
use mathlib.Core.List.{List}
use mathlib.Core.Bool.{Bool, true, false}
use native.Mathlib.Omega.{arith}
use lib.Dec.{eqb}
use Rattle.lists.specs.Counting.{choose}
use Rattle.lists.proofs.Tests.{some_same}
use Rattle.answers.specs.declared.Counts.{Counts}
use Rattle.testvectors.specs.Vectors.{bit}
use Rattle.value.specs.Settings.{Setting, Keeps}
use Rattle.gatelist.specs.Lines.{first_lead, input_line, function, leads, named_line}
use Rattle.gatelist.specs.Gates.{and_of, or_of, gate, lead_value}
use Rattle.gatelist.specs.AcceptsGates.{Gate, AcceptsGates}
use Rattle.gatelist.proofs.Walk.{gate-right}

-- a gate's value goes by the values of its leads
gate_same : (f n : ℕ) (d e : ℕ → ℕ) → 0 < n → ((k : ℕ) → k < n → d k ≡ e k) → gate f n d ≡ gate f n e
unfolding gate
gate_same f n d e l same =
    let a : and_of n d ≡ and_of n e = ap (λ (b : Bool). choose b 0 1) (some_same (λ k. eqb (d k) 0) (λ k. eqb (e k) 0) n (λ k h. rw (same k h))) in
    let o : or_of n d ≡ or_of n e = ap (λ (b : Bool). choose b 1 0) (some_same (λ k. eqb (d k) 1) (λ k. eqb (e k) 1) n (λ k h. rw (same k h))) in
    rw (a, o, same 0 l)

module _ {gs : List ℕ} {c : Counts} (a : AcceptsGates gs c) (s : Setting) (x : List ℕ) where
  -- what a line gives goes by earlier lines alone
  pub line-by : (v w : ℕ → ℕ) (l : ℕ) → l < c.graphs → ((h : ℕ) → h < l → v h ≡ w h) → (b : Bool) → input_line gs l ≡ b
      → choose b (bit x l) (gate (function gs l) (leads gs l) (lead_value gs s v l))
      ≡ choose b (bit x l) (gate (function gs l) (leads gs l) (lead_value gs s w l))
  line-by v w l h same true z = refl
  line-by v w l h same false z =
      let g = a.gate l h z in
      gate_same (function gs l) (leads gs l) (lead_value gs s v l) (lead_value gs s w l) (gate-right (function gs l) (leads gs l) g.right).1
      (λ k m. ap (s (first_lead gs l + k)) (same (named_line gs l k) (g.earlier k m)))

-- a lead's value is a bit, with a setting that gives bits
pub lead-bit : {gs : List ℕ} {l : ℕ} (g : Gate gs l) {s : Setting} → Keeps s → (v : ℕ → ℕ) (n : ℕ) → ((i : ℕ) → i < n → v i < 2) → l < n
    → (k : ℕ) → k < leads gs l → lead_value gs s v l k < 2
lead-bit {gs = gs} {l = l} g keeps v n bits h k m = keeps (first_lead gs l + k) (v (named_line gs l k)) (bits (named_line gs l k) (omega (arith, g.earlier k m)))
