-- Rule 1 over the exits taken: what a walk meets, and what one node forced makes of it. No card in it. Assumes nothing.
use Prim.Native.Nat.{ℕ, zero, suc, ◌+◌, ◌<◌, ◌≤◌}
use mathlib.Core.Path.{◌≡◌, refl, sym, ap, ◌∙◌}
use mathlib.Core.Bool.{Bool, true, false, ◌||◌, false≢true}
use native.Mathlib.Omega.{arith}
use native.Mathlib.Decide.{ℕ_discrete}
use lib.Dec.{eqb}
use borrow.Author.Tests.{eq-eqb, ne_eqb}
use Rattle.lists.specs.Counting.{count}
use Rattle.lists.proofs.Tests.{or-true}
use Rattle.lists.proofs.Counting.{count_none, count-with}
use Rattle.value.specs.Values.{follow, met_beyond, walked, walk}
use Rattle.value.proofs.Walk.{Later, follow-same, enough, same_nodes}
use Rattle.rules.specs.Rules.{beyond, meets}

-- where it begins, and where it goes on
pub meets-here : (t : ℕ → ℕ) (left k : ℕ) → meets t k (suc left) k ≡ true
unfolding meets
meets-here t left k = rw (eq-eqb k k refl)

pub meets-next : (t : ℕ → ℕ) (j left k l : ℕ) → t k ≡ suc (suc l) → meets t j left l ≡ true → meets t j (suc left) k ≡ true
unfolding meets
meets-next t j left k l e m = rw (e, m) (or-true (eqb k j))

-- rule 1 with the bound hidden
beyond-same : (f g : ℕ → Bool) (e : ℕ) → ((l : ℕ) → e ≡ suc (suc l) → f l ≡ g l) → beyond f e ≡ beyond g e
beyond-same f g zero h = refl
beyond-same f g (suc zero) h = refl
beyond-same f g (suc (suc l)) h = h l refl

meets-enough : (t : ℕ → ℕ) (n j : ℕ) → Later n t → (a b k : ℕ) → k < n → n ≤ k + a → n ≤ k + b → meets t j a k ≡ meets t j b k
unfolding meets
meets-enough t n j later zero b k h p q = absurd (omega arith)
meets-enough t n j later (suc a) zero k h p q = absurd (omega arith)
meets-enough t n j later (suc a) (suc b) k h p q =
    ap (eqb k j ||◌) (beyond-same (meets t j a) (meets t j b) (t k) (λ l e.
    let r = later k l h e in
    meets-enough t n j later a b l r.1 (omega arith) (omega arith)))

pub meets-law : (t : ℕ → ℕ) (n j : ℕ) → Later n t → (k : ℕ) → k < n → meets t j n k ≡ eqb k j || beyond (meets t j n) (t k)
unfolding meets
meets-law t n j later k h = meets-enough t n j later n (suc n) k h (omega arith) (omega arith)

-- backwards: a node met behind k is met from the exit taken at k
beyond-inv : (f : ℕ → Bool) (e : ℕ) → beyond f e ≡ true → (l : ℕ) × (e ≡ suc (suc l)) × (f l ≡ true)
beyond-inv f zero m = absurd (false≢true m)
beyond-inv f (suc zero) m = absurd (false≢true m)
beyond-inv f (suc (suc l)) m = (l, refl, m)

pub meets-inv : (t : ℕ → ℕ) (j left k : ℕ) → (k ≡ j → ⊥) → meets t j (suc left) k ≡ true
    → (l : ℕ) × (t k ≡ suc (suc l)) × (meets t j left l ≡ true)
unfolding meets
meets-inv t j left k d m = beyond-inv (meets t j left) (t k) (rw (ne_eqb k j d) at m)

-- what is met stands from k on, among the n
pub meets-between : (t : ℕ → ℕ) (n : ℕ) → Later n t → (j left k : ℕ) → k < n → meets t j left k ≡ true → (k ≤ j) × (j < n)
unfolding meets
meets-between t n later j zero k h m = absurd (false≢true m)
meets-between t n later j (suc left) k h m = elim (ℕ_discrete k j) [
  | yes e ↦ omega arith
  | no d ↦
      let (l, e, m') = meets-inv t j left k d m in
      let r = later k l h e in
      let i = meets-between t n later j left l r.1 m' in
      omega arith
]

-- Rule 1 in its own words: where the walk begins, what follows on a node met, and nothing else.
pub meets-self : (t : ℕ → ℕ) (left k : ℕ) → 0 < left → meets t k left k ≡ true
meets-self t zero k h = absurd (omega arith)
meets-self t (suc left) k h = meets-here t left k

pub meets-onward : (t : ℕ → ℕ) (n : ℕ) → Later n t → (j l left k : ℕ) → k < n → n ≤ k + left
    → meets t j left k ≡ true → t j ≡ suc (suc l) → meets t l left k ≡ true
unfolding meets
meets-onward t n later j l zero k h p m e = absurd (false≢true m)
meets-onward t n later j l (suc left) k h p m e = elim (ℕ_discrete k j) [
  | yes z ↦
      let e' : t k ≡ suc (suc l) = ap t z ∙ e in
      let r = later k l h e' in
      meets-next t l left k l e' (meets-self t left l (omega arith))
  | no d ↦
      let (i, e', m') = meets-inv t j left k d m in
      let r = later k i h e' in
      meets-next t l left k i e' (meets-onward t n later j l left i r.1 (omega arith) m' e)
]

pub meets-from : (t : ℕ → ℕ) (j left k : ℕ) → (k ≡ j → ⊥) → meets t j left k ≡ true
    → (i : ℕ) × (meets t i left k ≡ true) × (t i ≡ suc (suc j))
unfolding meets
meets-from t j zero k d m = absurd (false≢true m)
meets-from t j (suc left) k d m =
    let (l, e, m') = meets-inv t j left k d m in
    elim (ℕ_discrete l j) [
      | yes z ↦ (k, meets-here t left k, e ∙ ap (λ (y : ℕ). suc (suc y)) z)
      | no y ↦ let (i, q, w) = meets-from t j left l y m' in (i, meets-next t i left k l e q, w)
    ]

-- Locality: two walks that agree on what the first meets have the same value.
pub same-walk : (t u : ℕ → ℕ) (left k : ℕ) → ((j : ℕ) → meets t j left k ≡ true → t j ≡ u j) → walk t left k ≡ walk u left k
unfolding walk
same-walk t u zero k h = refl
same-walk t u (suc left) k h =
    follow-same (walk t left) (walk u left) (t k) (λ l e. same-walk t u left l (λ j m. h j (meets-next t j left k l e m)))
    ∙ ap (follow (walk u left)) (h k (meets-here t left k))

pub meets-below : (t : ℕ → ℕ) (n : ℕ) → Later n t → (j : ℕ) → meets t j n 0 ≡ true → j < n
unfolding meets
meets-below t zero later j m = absurd (false≢true m)
meets-below t (suc n) later j m = (meets-between t (suc n) later j (suc n) 0 (omega arith) m).1

-- How many nodes are met: each once, since exits go to later nodes. So the walk has met as many as it took decisions.
beyond-counted : (t : ℕ → ℕ) (n left e : ℕ) → ((l : ℕ) → e ≡ suc (suc l) → count (λ j. meets t j left l) n ≡ (walked t left l).decisions)
    → count (λ j. beyond (meets t j left) e) n ≡ met_beyond (λ l. (walked t left l).decisions) e
beyond-counted t n left zero h = count_none _ n (λ k l. refl)
beyond-counted t n left (suc zero) h = count_none _ n (λ k l. refl)
beyond-counted t n left (suc (suc l)) h = h l refl

pub met-counted : (t : ℕ → ℕ) (n : ℕ) → Later n t → (left k : ℕ) → k < n → count (λ j. meets t j left k) n ≡ (walked t left k).decisions
unfolding meets walked
met-counted t n later zero k h = count_none _ n (λ j l. refl)
met-counted t n later (suc left) k h =
    count-with (λ j. beyond (meets t j left) (t k)) k n h (not-again (beyond (meets t k left) (t k)) refl)
    ∙ ap (λ (m : ℕ). 1 + m) (beyond-counted t n left (t k) (λ l e. met-counted t n later left l (later k l h e).1))
  where
    not-again : (b : Bool) → beyond (meets t k left) (t k) ≡ b → b ≡ false
    not-again false e = refl
    not-again true e =
        let (l, z, m) = beyond-inv (meets t k left) (t k) e in
        let r = later k l h z in
        absurd (omega (arith, r.0, (meets-between t n later k left l r.1 m).0))

-- One node forced: u takes the exits of t, but at j.
module _ (t u : ℕ → ℕ) (n j : ℕ) (later : Later n t) (off : (i : ℕ) → (i ≡ j → ⊥) → t i ≡ u i) where
  pub idle : (left k : ℕ) → meets t j left k ≡ false → walk t left k ≡ walk u left k
  idle left k m = same-walk t u left k (λ i r. off i (λ e. false≢true (sym m ∙ rw e at r)))

  pub forced : ((l : ℕ) → u j ≡ suc (suc l) → (j < l) × (l < n)) → (left k : ℕ) → k < n → n ≤ k + left → meets t j left k ≡ true
      → walk u left k ≡ follow (walk t n) (u j)
  unfolding walk meets
  forced lu zero k h p m = absurd (false≢true m)
  forced lu (suc left) k h p m = elim (ℕ_discrete k j) [
    | yes e ↦ rw e (follow-same (walk u left) (walk t n) (u j) (λ l q.
        let r = lu l q in
        sym (same_nodes t u n later left l r.1 (λ i a b. off i (λ z. omega arith)))
        ∙ enough t n later left n l r.1 (omega arith) (omega arith)))
    | no d ↦
        let (l, e, m') = meets-inv t j left k d m in
        let r = later k l h e in
        ap (follow (walk u left)) (sym (off k d) ∙ e) ∙ forced lu left l r.1 (omega arith) m'
  ]
