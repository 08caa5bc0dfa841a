-- What a caller learns of the words from what was due. Assumes nothing.
use Prim.Native.Nat.{ℕ, suc, ◌+◌, ◌<◌, ◌≤◌}
use mathlib.Core.Path.{◌≡◌, ap}
use mathlib.Core.List.{List}
use native.Mathlib.Omega.{arith}
use native.Mathlib.Decide.{dec_lt}
use lib.ListN.{length, get_or, replicate, length-replicate, get_or-replicate}
use borrow.Author.Tests.{lt-ltb, le-ltb}
use Rattle.std.specs.Prelude.{Ok, Err}
use Rattle.reader.specs.Due.{Due, due_at, after_at}

-- a word was due: the position is one of the list's, and the word stands there
pub due-word : (ws : List ℕ) (p w at : ℕ) → due_at ws p ≡ Ok (w, at) → (p < length ws) × (w ≡ get_or ws p 0) × (at ≡ p)
unfolding due_at
due-word ws p w at e = elim (dec_lt p (length ws)) [
  | yes h ↦ let q : ◌≡◌ {A = ℕ × ℕ} (w, at) (get_or ws p 0, p) = cc (simp (lt-ltb p (length ws) h) at e) in (h, ap (λ x. x.0) q, ap (λ x. x.1) q)
  | no n ↦ let z : ◌≡◌ {A = ℕ} 0 1 = cc (simp (le-ltb p (length ws) (omega arith)) at e) in absurd (omega arith)
]

-- the end was due: the list does not reach the position, and its length is told
pub due-end : (ws : List ℕ) (p n : ℕ) → due_at ws p ≡ Err n → (length ws ≤ p) × (n ≡ length ws)
unfolding due_at
due-end ws p n e = elim (dec_lt p (length ws)) [
  | yes h ↦ let z : ◌≡◌ {A = ℕ} 0 1 = cc (simp (lt-ltb p (length ws) h) at e) in absurd (omega arith)
  | no out ↦ (omega arith, cc (simp (le-ltb p (length ws) (omega arith)) at e))
]

-- a step from a position that has a word goes one on
pub after-word : (ws : List ℕ) (p : ℕ) → p < length ws → after_at ws p ≡ p + 1
unfolding after_at
after-word ws p h = simp (lt-ltb p (length ws) h)

-- THE POSITION NEVER FALLS
pub after-le : (ws : List ℕ) (p : ℕ) → p ≤ after_at ws p
unfolding after_at
after-le ws p = elim (dec_lt p (length ws)) [
  | yes h ↦ rw (lt-ltb p (length ws) h) (omega arith)
  | no n ↦ rw (le-ltb p (length ws) (omega arith)) (omega arith)
]

-- Whatever is due is due in some list of words; so what is told of every such list is told of one.
abbrev pub list_of : Due → List ℕ
list_of (Ok (w, at)) = replicate (suc at) w
list_of (Err n) = replicate n 0

abbrev pub position_of : Due → ℕ
position_of (Ok (w, at)) = at
position_of (Err n) = n

pub some-list : (d : Due) → d ≡ due_at (list_of d) (position_of d)
unfolding due_at
some-list (Ok (w, at)) =
    let h : at < length (replicate (suc at) w) = omega (arith, length-replicate (suc at) w) in
    rw (lt-ltb at (length (replicate (suc at) w)) h, get_or-replicate (suc at) at w 0 (omega arith))
some-list (Err n) = rw (length-replicate {A = ℕ} n 0, le-ltb n n (omega arith))
