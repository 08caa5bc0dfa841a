-- ONE ARGUMENT for every gate: the walk through the nodes of its leads ends at the first lead that has the controlling value, and else at the last. It goes
-- by that value, by whether the constants are complemented, and by the number of leads; the six functions are looked at only to find these. Assumes
-- nothing.
use Prim.Native.Nat.{ℕ, zero, suc, ◌+◌, ◌-◌, ◌<◌, ◌≤◌}
use mathlib.Core.Path.{◌≡◌, refl, sym, ap, ◌∙◌}
use mathlib.Core.Bool.{Bool, true, false, not, ◌&&◌, ◌||◌}
use native.Mathlib.Omega.{arith}
use native.Mathlib.Decide.{ℕ_discrete, dec_le}
use lib.Dec.{ltb, leb, eqb}
use borrow.Author.Tests.{ltb-false, le-leb, lt-leb, eqb-true, eqb-false, not-false}
use Rattle.lists.specs.Counting.{choose, some_below}
use Rattle.lists.proofs.Tests.{or-false, or-true, choose-bit, some-has, some-none}
use Rattle.value.specs.Values.{follow, walk}
use Rattle.gatelist.specs.Form.{wrong_gate}
use Rattle.gatelist.specs.Gates.{gate}
use Rattle.gatelist.specs.Drawn.{controlling, complements, constant, gate_exit}

-- no gate but of these forms
pub gate-right : (f n : ℕ) → wrong_gate f n ≡ false → (f < 6) × (0 < n) × (4 ≤ f → n ≡ 1)
unfolding wrong_gate
gate-right f n e =
    let (a, b) = or-false (ltb 5 f) (eqb n 0 || (leb 4 f && not (eqb n 1))) e in
    let (z, o) = or-false (eqb n 0) (leb 4 f && not (eqb n 1)) b in
    (omega (arith, ltb-false 5 f a), omega (arith, eqb-false n 0 z), λ l. eqb-true n 1 (not-false _ (rw (le-leb 4 f l) at o)))

pub controlling-bit : (f : ℕ) → controlling f < 2
controlling-bit f = choose-bit (eqb f 1 || eqb f 3) 1 0 (omega arith) (omega arith)

pub constant-bit : (f d : ℕ) → d < 2 → constant f d < 2
constant-bit f d l = choose-bit (complements f) (1 - d) d (omega arith) l

follow-constant : (node : ℕ → ℕ) (e : ℕ) → e < 2 → follow node e ≡ e
follow-constant node zero l = refl
follow-constant node (suc zero) l = refl
follow-constant node (suc (suc e)) l = absurd (omega arith)

-- Leads with the values d, and the exits that the walk takes.
module _ (f n : ℕ) (d t : ℕ → ℕ) (bits : (k : ℕ) → k < n → d k < 2) (takes : (k : ℕ) → k < n → t k ≡ gate_exit f n k (d k)) where
  -- lead k has the controlling value
  abbrev decides : ℕ → Bool
  decides k = eqb (d k) (controlling f)

  -- what the gate has: its constant of the controlling value where a lead has it, else of the other
  abbrev decided : ℕ
  decided = constant f (choose (some_below decides n) (controlling f) (1 - controlling f))

  stops : (k : ℕ) → k < n → decides k || leb n (k + 1) ≡ true → (node : ℕ → ℕ) → follow node (t k) ≡ constant f (d k)
  unfolding gate_exit
  stops k l e node =
      ap (follow node) (takes k l ∙ ap (λ (b : Bool). choose b (constant f (d k)) (k + 3)) e)
      ∙ follow-constant node (constant f (d k)) (constant-bit f (d k) (bits k l))

  goes : (k : ℕ) → k < n → decides k ≡ false → k + 1 < n → t k ≡ suc (suc (suc k))
  unfolding gate_exit
  goes k l e m = takes k l ∙ rw (e, lt-leb n (k + 1) m) (omega arith)

  -- at lead k, where no lead before it has the controlling value; and the walk from there on
  abbrev NoneBefore : ℕ → Type 0
  NoneBefore k = (j : ℕ) → j < k → decides j ≡ false

  none_here : (k : ℕ) → NoneBefore k → decides k ≡ false → NoneBefore (suc k)
  none_here k none z j m = elim (ℕ_discrete j k) [ yes i ↦ rw i z | no i ↦ none j (omega arith) ]

  step : (k : ℕ) → k < n → NoneBefore k → (node : ℕ → ℕ) → (k + 1 < n → decides k ≡ false → node (suc k) ≡ decided) → follow node (t k) ≡ decided
  step k l none node on = here (decides k) refl
    where
      here : (b : Bool) → decides k ≡ b → follow node (t k) ≡ decided
      here true z = stops k l (ap (◌|| leb n (k + 1)) z) node ∙ rw (some-has decides n k l z, eqb-true (d k) (controlling f) z)
      here false z = elim (dec_le n (k + 1)) [
        | yes m ↦
            let other : d k ≡ 1 - controlling f = omega (arith, eqb-false (d k) (controlling f) z, bits k l, controlling-bit f) in
            stops k l (ap (decides k ||◌) (le-leb n (k + 1) m) ∙ or-true (decides k)) node
            ∙ rw (some-none decides n (λ j i. none_here k none z j (omega arith)), other)
        | no m ↦ ap (follow node) (goes k l z (omega arith)) ∙ on (omega arith) z
      ]

  walk-on : (left k : ℕ) → k + left ≡ n → 0 < left → NoneBefore k → walk t left k ≡ decided
  unfolding walk
  walk-on zero k e l none = absurd (omega arith)
  walk-on (suc left) k e l none =
      step k (omega arith) none (walk t left) (λ m z. walk-on left (suc k) (omega arith) (omega arith) (none_here k none z))

  pub walk-decided : 0 < n → walk t n 0 ≡ decided
  walk-decided l = walk-on n 0 (omega arith) l (λ j m. absurd (omega arith))

-- a gate's value, told so: AND, OR, NAND and NOR are this by their definitions, and NOT and BUF of one lead
single : (e : ℕ) → e < 2 → choose (eqb e 0) 0 1 ≡ e
single zero l = refl
single (suc zero) l = refl
single (suc (suc e)) l = absurd (omega arith)

pub gate-decided : (f n : ℕ) (d : ℕ → ℕ) → wrong_gate f n ≡ false → ((k : ℕ) → k < n → d k < 2)
    → gate f n d ≡ constant f (choose (some_below (λ k. eqb (d k) (controlling f)) n) (controlling f) (1 - controlling f))
unfolding gate some_below
gate-decided f n d e bits = by f (gate-right f n e).0 (gate-right f n e).2
  where
    lone : n ≡ 1 → choose (some_below (λ k. eqb (d k) 0) n) 0 1 ≡ d 0
    lone z = rw z (single (d 0) (bits 0 (omega arith)))

    by : (g : ℕ) → g < 6 → (4 ≤ g → n ≡ 1) → gate g n d ≡ constant g (choose (some_below (λ k. eqb (d k) (controlling g)) n) (controlling g) (1 - controlling g))
    by zero l o = refl
    by (suc zero) l o = refl
    by (suc (suc zero)) l o = refl
    by (suc (suc (suc zero))) l o = refl
    by (suc (suc (suc (suc zero)))) l o = sym (ap (λ (r : ℕ). 1 - r) (lone (o (omega arith))))
    by (suc (suc (suc (suc (suc zero))))) l o = sym (lone (o (omega arith)))
    by (suc (suc (suc (suc (suc (suc g)))))) l o = absurd (omega arith)
