-- Tables and buffers that a loop fills word by word. Assumes nothing.
use Prim.Native.Nat.{ℕ, zero, suc, ◌+◌, ◌-◌, ◌<◌, ◌≤◌}
use mathlib.Core.Path.{◌≡◌, refl, sym, ap, ◌∙◌}
use mathlib.Core.List.{List, [], ◌∷◌, ◌++◌, append_assoc}
use mathlib.Core.Bool.{Bool, true, false}
use native.Mathlib.Omega.{arith}
use native.Mathlib.Decide.{dec_lt}
use native.Mathlib.Numerals.{add-one}
use lib.ListN.{length, get_or, set, take, drop, replicate, length-append, length-drop, length-replicate, get_or-append, get_or-replicate}
use lib.Seq.{drop-cons, set_at, take_at, ext_get_or, get_or-append-add, get_or-drop, length-take-le}
use Rattle.lists.specs.Counting.{choose, count}
use Rattle.lists.specs.Tables.{grow, tab, over, always, only_if, chosen, front}
use Rattle.lists.proofs.Net.{length-grow, grow-solves}

module _ (f : ℕ → ℕ) where
  pub length-tab : (n : ℕ) → length (tab f n) ≡ n
  length-tab n = length-grow (λ v. f) n

  pub tab-at : (n i : ℕ) → i < n → get_or (tab f n) i 0 ≡ f i
  tab-at n i h = grow-solves (λ v. f) n (λ v w g l s. refl) i h

-- two rules that agree below n make one table
pub tab-same : (f g : ℕ → ℕ) (n : ℕ) → ((i : ℕ) → i < n → f i ≡ g i) → tab f n ≡ tab g n
tab-same f g n e =
    ext_get_or 0 (tab f n) (tab g n) (length-tab f n ∙ sym (length-tab g n)) (λ i h.
    let l : i < n = omega (arith, length-tab f n) in
    tab-at f n i l ∙ e i l ∙ sym (tab-at g n i l))

-- a list is the table of its own elements
pub tab-self : (l : List ℕ) → tab (λ i. get_or l i 0) (length l) ≡ l
tab-self l =
    ext_get_or 0 (tab (λ i. get_or l i 0) (length l)) l (length-tab (λ i. get_or l i 0) (length l)) (λ i h.
    tab-at (λ i. get_or l i 0) (length l) i (omega (arith, length-tab (λ i. get_or l i 0) (length l))))

-- the first n words of a buffer are f's
module _ (f : ℕ → ℕ) (d : List ℕ) where
  pub over_none : over 0 f d ≡ d
  unfolding grow
  over_none = refl

  -- one word more, as a loop stores it
  pub over-more : (n : ℕ) → n < length d → set (over n f d) n (f n) ≡ over (suc n) f d
  unfolding grow
  over-more n h =
      ap (λ (r : List ℕ). set (tab f n ++ r) n (f n)) (drop-cons d n 0 h)
      ∙ set_at (tab f n) (get_or d n 0) (drop (suc n) d) (f n) n (length-tab f n)
      ∙ sym (append_assoc (tab f n) (f n ∷ []) (drop (suc n) d))

  pub over-store : (n v : ℕ) → n < length d → v ≡ f n → set (over n f d) n v ≡ over (n + 1) f d
  over-store n v h e = rw (e, add-one n) (over-more n h)

  pub over-at : (n i : ℕ) → i < n → get_or (over n f d) i 0 ≡ f i
  over-at n i h = get_or-append (tab f n) (drop n d) 0 i (rw (length-tab f n) h) ∙ tab-at f n i h

  -- beyond them it is as it was
  pub over-rest : (n i : ℕ) → n ≤ i → get_or (over n f d) i 0 ≡ get_or d i 0
  over-rest n i h =
      let e : i ≡ n + (i - n) = omega arith in
      rw e (ap (λ (m : ℕ). get_or (over n f d) (m + (i - n)) 0) (sym (length-tab f n)) ∙ get_or-append-add (tab f n) (drop n d) (i - n) 0 ∙ get_or-drop n d (i - n) 0)

  pub length_over : (n : ℕ) → n ≤ length d → length (over n f d) ≡ length d
  length_over n h = length-append (tab f n) (drop n d) ∙ rw (length-tab f n, length-drop n d) (omega arith)

  -- the front of it alone
  pub over-front : (n : ℕ) → take n (over n f d) ≡ tab f n
  over-front n = take_at (tab f n) (drop n d) n (length-tab f n)

-- and a buffer of which that holds is made so
pub over-is : (f : ℕ → ℕ) (d xs : List ℕ) (n : ℕ) → n ≤ length d → length xs ≡ length d → ((i : ℕ) → i < n → get_or xs i 0 ≡ f i)
    → ((i : ℕ) → n ≤ i → get_or xs i 0 ≡ get_or d i 0) → xs ≡ over n f d
over-is f d xs n l e p q =
    ext_get_or 0 xs (over n f d) (e ∙ sym (length_over f d n l)) (λ i h.
    elim (dec_lt i n) [
      | yes m ↦ p i m ∙ sym (over-at f d n i m)
      | no m ↦ q i (omega arith) ∙ sym (over-rest f d n i (omega arith))
    ])

-- two rules that agree below n make one buffer
pub over-same : (f g : ℕ → ℕ) (d : List ℕ) (n : ℕ) → ((i : ℕ) → i < n → f i ≡ g i) → over n f d ≡ over n g d
over-same f g d n e = ap (◌++ drop n d) (tab-same f g n e)

-- a buffer whose first n words were filled with one number
pub over-fill : (n v : ℕ) (d : List ℕ) {xs : List ℕ} → n ≤ length d → xs ≡ replicate (length (take n d)) v → xs ++ drop n d ≡ over n (always v) d
over-fill n v d h e =
    let l : length (replicate n v) ≡ n = length-replicate n v in
    let t : replicate n v ≡ tab (always v) n =
    ext_get_or 0 (replicate n v) (tab (always v) n) (l ∙ sym (length-tab (always v) n)) (λ i k.
    let m : i < n = omega arith in
    get_or-replicate n i v 0 m ∙ sym (tab-at (always v) n i m)) in
    ap (◌++ drop n d) (e ∙ ap (λ (k : ℕ). replicate k v) (length-take-le n d h) ∙ t)

-- numbers that pass, and a buffer that has them at its front
length-one : (b : Bool) (n : ℕ) → length (only_if b n) ≡ choose b 1 0
length-one true n = refl
length-one false n = refl

pub length-chosen : (p : ℕ → Bool) (n : ℕ) → length (chosen p n) ≡ count p n
unfolding chosen count
length-chosen p zero = refl
length-chosen p (suc n) = length-append (chosen p n) (only_if (p n) n) ∙ rw (length-chosen p n, length-one (p n) n)

pub chosen-same : (p q : ℕ → Bool) (n : ℕ) → ((k : ℕ) → k < n → p k ≡ q k) → chosen p n ≡ chosen q n
unfolding chosen
chosen-same p q zero h = refl
chosen-same p q (suc n) h = rw (chosen-same p q n (λ k l. h k (omega arith)), h n (omega arith))

-- one store after the front
pub front-more : (xs d : List ℕ) (n v : ℕ) → length xs ≡ n → n < length d → set (front xs d) n v ≡ front (xs ++ (v ∷ [])) d
front-more xs d n v e h =
    let l : length xs < length d = omega arith in
    ap (λ (r : List ℕ). set (xs ++ r) n v) (drop-cons d (length xs) 0 l)
    ∙ set_at xs (get_or d (length xs) 0) (drop (suc (length xs)) d) v n e
    ∙ sym (append_assoc xs (v ∷ []) (drop (suc (length xs)) d))
    ∙ ap (λ (m : ℕ). (xs ++ (v ∷ [])) ++ drop m d) (sym (length-append xs (v ∷ []) ∙ add-one (length xs)))
