-- The table of named nodes, word by word, and what the parts of the check hand back. Assumes nothing.
use Prim.Native.Nat.{ℕ, zero, suc, ◌+◌, ◌-◌, ◌*◌, ◌<◌, ◌≤◌}
use mathlib.Core.Path.{◌≡◌, refl, sym, ap, ◌∙◌}
use mathlib.Core.List.{List}
use mathlib.Core.Bool.{Bool, true, false, not, ◌||◌}
use native.Mathlib.Omega.{arith}
use native.Mathlib.Decide.{ℕ_discrete, dec_lt}
use native.Mathlib.Numerals.{add-one}
use lib.ListN.{length, get_or, set, length-set, get_or-eq_default}
use lib.Seq.{get_or-set_same, get_or-set_other}
use lib.Dec.{eqb}
use borrow.Author.Tests.{eq-eqb, ne_eqb}
use Rattle.lists.specs.Counting.{choose, some_below}
use Rattle.lists.specs.Tables.{over, always}
use Rattle.lists.proofs.Tests.{some_same, some-has}
use Rattle.lists.proofs.Tables.{over-at, over-rest, length_over}
use Rattle.word32.specs.Fields.{exit_of}
use Rattle.std.specs.Prelude.{Ok, Err}
use Rattle.answers.specs.Answers.{Verdict}
use Rattle.answers.specs.declared.Refusal.{Refusal}
use Rattle.form.specs.Check.{word, names, unnamed}
use Rattle.nodecheck.specs.Table.{exits_told, name_exit, Blank, Names, zero_after}

-- what a part hands back tells its verdict
pub both-sound : (v : Verdict) (w : ℕ) (x : ℕ × ℕ) → exits_told v w ≡ Ok x → (v ≡ Ok tt) × (x ≡ (exit_of w 0, exit_of w 1))
unfolding exits_told
both-sound (Ok tt) w x e = (refl, cc)
both-sound (Err r) w x e = let z : ◌≡◌ {A = ℕ} 0 1 = cc in absurd (omega arith)

pub bad-broken : (v : Verdict) (w : ℕ) (r : Refusal) → exits_told v w ≡ Err r → v ≡ Err r
unfolding exits_told
bad-broken (Ok tt) w r e = let z : ◌≡◌ {A = ℕ} 0 1 = cc in absurd (omega arith)
bad-broken (Err r') w r e = cc

-- an exit in the table
pub name-none : (e : ℕ) (t : List ℕ) → e ≤ 1 → t ≡ name_exit e t
name-none zero t h = refl
name-none (suc zero) t h = refl
name-none (suc (suc l)) t h = absurd (omega arith)

pub name-one : (e : ℕ) (t : List ℕ) → 1 < e → set t (e - 2) 1 ≡ name_exit e t
name-one zero t h = absurd (omega arith)
name-one (suc zero) t h = absurd (omega arith)
name-one (suc (suc l)) t h = let z : suc (suc l) - 2 ≡ l = omega arith in rw z

pub name-length : (e : ℕ) (t : List ℕ) → length (name_exit e t) ≡ length t
name-length zero t = refl
name-length (suc zero) t = refl
name-length (suc (suc l)) t = length-set t l 1

pub name-at : (e : ℕ) (t : List ℕ) (i : ℕ) → e < length t + 2 → get_or (name_exit e t) i 0 ≡ choose (eqb e (i + 2)) 1 (get_or t i 0)
name-at zero t i h = rw (ne_eqb 0 (i + 2) (λ q. omega arith))
name-at (suc zero) t i h = rw (ne_eqb 1 (i + 2) (λ q. omega arith))
name-at (suc (suc l)) t i h = elim (ℕ_discrete i l) [
  | yes z ↦ rw (eq-eqb (suc (suc l)) (i + 2) (omega arith), z) (get_or-set_same t l 1 0 (omega arith))
  | no n ↦ rw (ne_eqb (suc (suc l)) (i + 2) (λ q. n (omega arith))) (get_or-set_other t l i 1 0 n)
]

-- the three ways to be named are one
either_way : (a b c : Bool) → choose c 1 (choose b 1 (choose a 1 0)) ≡ choose (a || (b || c)) 1 0
either_way true true true = refl
either_way true true false = refl
either_way true false true = refl
either_way true false false = refl
either_way false true true = refl
either_way false true false = refl
either_way false false true = refl
either_way false false false = refl

unset : (b : Bool) → eqb (choose b 1 0) 0 ≡ not b
unset true = refl
unset false = refl

-- a search for a zero after the first place of a table
module _ (t : List ℕ) where
  pub zero-none : zero_after t 0 ≡ false
  unfolding zero_after
  zero-none = refl

  pub zero-found : (n i : ℕ) → i < n → get_or t (i + 1) 0 ≡ 0 → zero_after t n ≡ true
  unfolding zero_after
  zero-found n i h e = some-has (λ i. eqb (get_or t (suc i) 0) 0) n i h (eq-eqb _ 0 (rw add-one at e))

  pub zero_more : (i : ℕ) → zero_after t i ≡ false → (get_or t (i + 1) 0 ≡ 0 → ⊥) → zero_after t (i + 1) ≡ false
  unfolding zero_after
  zero_more i e n = rw (add-one, e) (ne_eqb _ 0 (rw add-one at n))

module _ (ws : List ℕ) (p : ℕ) where
  -- the exits of node k in the table leave its length
  pub names-length : (k : ℕ) (t : List ℕ)
      → length (name_exit (exit_of (word ws (p + 2 + 2 * k)) 1) (name_exit (exit_of (word ws (p + 2 + 2 * k)) 0) t)) ≡ length t
  names-length k t = name-length (exit_of (word ws (p + 2 + 2 * k)) 1) _ ∙ name-length (exit_of (word ws (p + 2 + 2 * k)) 0) t

module _ (ws : List ℕ) (p n : ℕ) where
  pub names-none : (t : List ℕ) → Blank t → Names ws p n 0 t
  unfolding some_below
  names-none t b = record { has = λ i h. b.zeros i; rest = λ i h. b.zeros i }

  -- one node more
  pub names_more : (k : ℕ) (t : List ℕ) → n ≤ length t → exit_of (word ws (p + 2 + 2 * k)) 0 < n + 2 → exit_of (word ws (p + 2 + 2 * k)) 1 < n + 2
      → Names ws p n k t → Names ws p n (suc k) (name_exit (exit_of (word ws (p + 2 + 2 * k)) 1) (name_exit (exit_of (word ws (p + 2 + 2 * k)) 0) t))
  unfolding some_below
  names_more k t l h0 h1 s =
      let e0 = exit_of (word ws (p + 2 + 2 * k)) 0 in
      let e1 = exit_of (word ws (p + 2 + 2 * k)) 1 in
      let told : (i : ℕ) → get_or (name_exit e1 (name_exit e0 t)) i 0 ≡ choose (eqb e1 (i + 2)) 1 (choose (eqb e0 (i + 2)) 1 (get_or t i 0)) = λ i.
      name-at e1 (name_exit e0 t) i (omega (arith, name-length e0 t)) ∙ ap (choose (eqb e1 (i + 2)) 1) (name-at e0 t i (omega arith)) in
      record {
        has = λ i h.
            told i ∙ ap (λ (x : ℕ). choose (eqb e1 (i + 2)) 1 (choose (eqb e0 (i + 2)) 1 x)) (s.has i h)
            ∙ either_way (some_below (names ws p i) k) (eqb e0 (i + 2)) (eqb e1 (i + 2));
        rest = λ i h. told i ∙ rw (ne_eqb e1 (i + 2) (λ q. omega arith), ne_eqb e0 (i + 2) (λ q. omega arith)) (s.rest i h);
      }

  -- a zero after the first place is a node that no exit names
  pub zero-unnamed : (t : List ℕ) → Names ws p n n t → zero_after t (n - 1) ≡ unnamed ws p n
  unfolding unnamed zero_after
  zero-unnamed t s =
      some_same _ _ (n - 1) (λ i h. ap (λ (x : ℕ). eqb x 0) (s.has (suc i) (omega arith)) ∙ unset (some_below (names ws p (suc i)) n))

-- a table filled with 0, and one whose first n places are cleared where the others are 0
pub blank-filled : {t : List ℕ} → 4096 ≡ length t → ((i : ℕ) → i < 4096 → get_or t i 0 ≡ 0) → Blank t
blank-filled {t} e z = record {
  long = sym e;
  zeros = λ i. elim (dec_lt i 4096) [
    | yes h ↦ z i h
    | no n ↦ get_or-eq_default t 0 (omega arith)
  ];
}

pub blank-again : (n : ℕ) (t : List ℕ) → n ≤ 4096 → length t ≡ 4096 → ((i : ℕ) → n ≤ i → get_or t i 0 ≡ 0) → Blank (over n (always 0) t)
blank-again n t l e z = record {
  long = length_over (always 0) t n (omega arith) ∙ e;
  zeros = λ i. elim (dec_lt i n) [
    | yes h ↦ over-at (always 0) t n i h
    | no out ↦ over-rest (always 0) t n i (omega arith) ∙ z i (omega arith)
  ];
}
