-- The front of a buffer that is filled in several goes. Assumes nothing.
use Prim.Native.Nat.{ℕ, ◌+◌, ◌-◌, ◌<◌, ◌≤◌}
use mathlib.Core.Path.{◌≡◌, sym, ap, ◌∙◌}
use mathlib.Core.List.{List, [], ◌∷◌, ◌++◌, map, append_assoc, append-nil}
use native.Mathlib.Omega.{arith}
use native.Mathlib.Numerals.{add-one}
use lib.ListN.{length, get_or, set, take, drop, take-append-drop, length-append, length-drop, length-map, get_or-map}
use lib.Seq.{get_or-drop, take_at, length-take-le, drop-append-add, drop-drop, ext_get_or}
use Rattle.lists.specs.Tables.{grow, tab, over, front}
use Rattle.lists.proofs.Tables.{length-tab, tab-at, front-more}

-- a loop that goes on filling it, from word n on
module _ (f : ℕ → ℕ) (d : List ℕ) (n : ℕ) where
  pub front-none : n ≤ length d → d ≡ front (take n d ++ tab f 0) d
  unfolding grow
  front-none h =
      let e : length (take n d ++ []) ≡ n = ap length (append-nil (take n d)) ∙ length-take-le n d h in
      sym (ap (λ (k : ℕ). (take n d ++ []) ++ drop k d) e ∙ ap (◌++ drop n d) (append-nil (take n d)) ∙ take-append-drop n d)

  front_long : (k : ℕ) → n ≤ length d → length (take n d ++ tab f k) ≡ n + k
  front_long k h = length-append (take n d) (tab f k) ∙ rw (length-take-le n d h, length-tab f k)

  pub front-next : (k v : ℕ) → n + k < length d → v ≡ f k → set (front (take n d ++ tab f k) d) (n + k) v ≡ front (take n d ++ tab f (k + 1)) d
  unfolding grow
  front-next k v h e =
      rw (e, add-one k)
      (front-more (take n d ++ tab f k) d (n + k) (f k) (front_long k (omega arith)) h
      ∙ ap (λ (l : List ℕ). front l d) (append_assoc (take n d) (tab f k) (f k ∷ [])))

-- a table of what a rule gives for a list's words from m on
pub tab-map : (f : ℕ → ℕ) (l : List ℕ) (m : ℕ) → f 0 ≡ 0 → tab (λ k. f (get_or l (m + k) 0)) (length l - m) ≡ map f (drop m l)
tab-map f l m z =
    let g : ℕ → ℕ = λ k. f (get_or l (m + k) 0) in
    let long : length (map f (drop m l)) ≡ length l - m = length-map (drop m l) f ∙ length-drop m l in
    ext_get_or 0 (tab g (length l - m)) (map f (drop m l)) (length-tab g (length l - m) ∙ sym long) (λ i h.
    tab-at g (length l - m) i (omega (arith, length-tab g (length l - m)))
    ∙ sym (ap (get_or (map f (drop m l)) i) (sym z) ∙ get_or-map f (drop m l) i 0 ∙ ap f (get_or-drop m l i 0)))

-- the words at the front of a buffer, and words that follow them
pub front-taken : (xs d : List ℕ) {out : List ℕ} {n : ℕ} → n ≡ length xs → out ≡ front xs d → take n out ≡ xs
front-taken xs d {out} {n} e q = ap (take n) q ∙ take_at xs (drop (length xs) d) n (sym e)

pub front-on : (xs ys d out : List ℕ) (n : ℕ) → length xs ≡ n → out ≡ front xs d → front (take n out ++ ys) out ≡ front (xs ++ ys) d
front-on xs ys d out n e q =
    let u : drop (length (xs ++ ys)) out ≡ drop (length (xs ++ ys)) d =
    rw (length-append xs ys, q) (drop-append-add xs (drop (length xs) d) (length ys) ∙ drop-drop (length ys) (length xs) d) in
    rw (front-taken xs d (sym e) q) (ap ((xs ++ ys) ++◌) u)

pub length_front : (xs d : List ℕ) → length xs ≤ length d → length (front xs d) ≡ length d
length_front xs d h = length-append xs (drop (length xs) d) ∙ rw (length-drop (length xs) d) (omega arith)

-- a buffer filled by a rule has the rule's table at its front
pub over-put : (f : ℕ → ℕ) (n : ℕ) (d : List ℕ) → over n f d ≡ front (tab f n) d
over-put f n d = rw (length-tab f n)
