-- Settings: that no fault and faults give bits, and what faults make of a site. No card in it. Assumes nothing.
use Prim.Native.Nat.{ℕ, ◌/◌, ◌%◌}
use mathlib.Core.Path.{◌≡◌, refl, ap, ◌∙◌}
use mathlib.Core.List.{List, [], ◌∷◌, ◌++◌}
use mathlib.Core.Bool.{Bool, true, false, cond}
use native.Mathlib.Omega.{arith}
use lib.Dec.{eqb}
use borrow.Author.Tests.{eq-eqb, ne_eqb}
use Rattle.std.specs.Prelude.{Some, find}
use Rattle.std.specs.Option.{option_map, unwrap_or}
use Rattle.lists.specs.Counting.{choose}
use Rattle.lists.proofs.Tests.{choose-bit}
use Rattle.lists.specs.Each.{Each}
use Rattle.value.specs.Settings.{Keeps, good, stuck, faulty}

-- they give bits
pub good-keeps : Keeps good
good-keeps p v h = h

pub faulty-keeps : (fs : List ℕ) → Keeps (faulty fs)
unfolding faulty
faulty-keeps [] p v h = h
faulty-keeps (f ∷ fs) p v h = choose-bit (eqb (f / 2) p) (f % 2) (faulty fs p v) (omega arith) (faulty-keeps fs p v h)

-- no fault, one fault alone, and the first of a list of faults: it holds its site, and leaves the others to the rest
pub faulty-none : faulty [] ≡ good
unfolding faulty
faulty-none = refl

pub faulty-one : (f : ℕ) → faulty (f ∷ []) ≡ stuck f good
unfolding faulty
faulty-one f = refl

pub faulty-here : (f : ℕ) (fs : List ℕ) (p v : ℕ) → f / 2 ≡ p → faulty (f ∷ fs) p v ≡ f % 2
unfolding faulty
faulty-here f fs p v e = rw (eq-eqb (f / 2) p e)

pub faulty-off : (f : ℕ) (fs : List ℕ) (p v : ℕ) → (f / 2 ≡ p → ⊥) → faulty (f ∷ fs) p v ≡ faulty fs p v
unfolding faulty
faulty-off f fs p v n = rw (ne_eqb (f / 2) p n)

-- two lists of faults in one, and a list with none at a site, which it leaves alone
pub faulty-both : (fs gs : List ℕ) (p v : ℕ) → faulty (fs ++ gs) p v ≡ faulty fs p (faulty gs p v)
unfolding faulty
faulty-both [] gs p v = refl
faulty-both (f ∷ fs) gs p v = ap (choose (eqb (f / 2) p) (f % 2)) (faulty-both fs gs p v)

pub faulty-spares : (fs : List ℕ) (p v : ℕ) → Each (λ f. f / 2 ≡ p → ⊥) fs → faulty fs p v ≡ v
unfolding faulty
faulty-spares [] p v e = refl
faulty-spares (f ∷ fs) p v (n, e) = faulty-off f fs p v n ∙ faulty-spares fs p v e

-- one fault alone
pub stuck-here : (f p v : ℕ) → f / 2 ≡ p → faulty (f ∷ []) p v ≡ f % 2
stuck-here f = faulty-here f []

pub stuck-off : (f p v : ℕ) → (f / 2 ≡ p → ⊥) → faulty (f ∷ []) p v ≡ v
unfolding faulty
stuck-off f = faulty-off f []

-- the first of a list's faults at a site holds it, and where there is none the site has what is worked out there
pub faulty-find : (fs : List ℕ) (p v : ℕ) → unwrap_or (option_map (λ f. f % 2) (find (λ f. eqb (f / 2) p) fs)) v ≡ faulty fs p v
unfolding faulty
faulty-find [] p v = refl
faulty-find (f ∷ fs) p v = at (eqb (f / 2) p) (faulty-find fs p v)
  where
    at : (b : Bool) → unwrap_or (option_map (λ f. f % 2) (find (λ f. eqb (f / 2) p) fs)) v ≡ faulty fs p v
        → unwrap_or (option_map (λ f. f % 2) (cond b (Some f) (find (λ f. eqb (f / 2) p) fs))) v ≡ choose b (f % 2) (faulty fs p v)
    at true e = refl
    at false e = e
