-- Faults that hold together: the setting of a list with no two faults of one site is that one, and there is no other. Assumes nothing.
use Prim.Native.Nat.{ℕ, ◌+◌, ◌*◌, ◌/◌, ◌%◌, ◌<◌}
use mathlib.Core.Path.{◌≡◌, refl, sym, ap, ◌∙◌, fun_ext}
use mathlib.Core.List.{List, [], ◌∷◌}
use mathlib.Core.Bool.{false}
use mathlib.Core.Logic.{◌⊎◌, inl, inr}
use native.Mathlib.Omega.{arith}
use native.Mathlib.Decide.{ℕ_discrete}
use lib.Dec.{eqb}
use borrow.Author.Tests.{eqb-false}
use Rattle.lists.specs.Each.{Each}
use Rattle.lists.proofs.Each.{each-then, each_both}
use Rattle.lists.proofs.Some.{none_of}
use Rattle.lists.proofs.Tests.{or-false}
use Rattle.answers.specs.declared.Counts.{Counts}
use Rattle.layout.specs.Layout.{first, exits}
use Rattle.layout.specs.Shape.{Shape}
use Rattle.value.specs.Settings.{Setting, faulty}
use Rattle.value.specs.Values.{taken, graph, value}
use Rattle.value.proofs.Settings.{faulty-here, faulty-off, faulty-spares}
use Rattle.value.proofs.Values.{value-solves}
use Rattle.faultlist.specs.Faults.{at_site, site_twice}
use Rattle.faultlist.specs.Together.{Together}

-- the first fault of such a list has its site alone, and the others are such a list
site-alone : (f : ℕ) (fs : List ℕ) → at_site (f / 2) fs ≡ false → Each (λ g. f / 2 ≡ g / 2 → ⊥) fs
unfolding at_site
site-alone f fs e = each-then (λ g q h. eqb-false (g / 2) (f / 2) q (sym h)) fs (none_of (λ g. eqb (g / 2) (f / 2)) fs e)

holds-each : (fs : List ℕ) → site_twice fs ≡ false → Each (λ f. (v : ℕ) → faulty fs (f / 2) v ≡ f % 2) fs
unfolding site_twice
holds-each [] e = tt
holds-each (f ∷ fs) e =
    let (a, b) = or-false (at_site (f / 2) fs) (site_twice fs) e in (
      λ v. faulty-here f fs (f / 2) v refl,
      each_both (λ g n h v. faulty-off f fs (g / 2) v n ∙ h v) fs (site-alone f fs a) (holds-each fs b),
    )

-- ALL FAULTS OF THE LIST HOLD TOGETHER
pub faulty-together : (fs : List ℕ) → site_twice fs ≡ false → Together fs (faulty fs)
faulty-together fs e = record { each = holds-each fs e; rest = λ p v n. faulty-spares fs p v n }

-- two settings under which they do are the same
pub together-one : (fs : List ℕ) {s t : Setting} → Together fs s → Together fs t → (p v : ℕ) → s p v ≡ t p v
together-one fs {s} {t} a b p v = go fs a.each b.each (λ n. a.rest p v n ∙ sym (b.rest p v n))
  where
    go : (gs : List ℕ) → Each (λ f. (v : ℕ) → s (f / 2) v ≡ f % 2) gs → Each (λ f. (v : ℕ) → t (f / 2) v ≡ f % 2) gs
        → (Each (λ f. f / 2 ≡ p → ⊥) gs → s p v ≡ t p v) → s p v ≡ t p v
    go [] d e k = k tt
    go (f ∷ gs) (d, ds) (e, es) k = elim (ℕ_discrete (f / 2) p) [
      | yes q ↦ rw (← q) (d v ∙ sym (e v))
      | no n ↦ go gs ds es (λ u. k (n, u))
    ]

pub together-is : (fs : List ℕ) → site_twice fs ≡ false → {s : Setting} → Together fs s → s ≡ faulty fs
together-is fs e t = fun_ext (λ p. fun_ext (λ v. together-one fs t (faulty-together fs e) p v))

-- WHAT THIS IS AT GRAPHS AND NODES, whatever the other faults are: a graph that a fault holds has the value that it is held at, and so its nodes' faults change
-- nothing that a reader sees; a node that a fault forces takes the exit that it is forced to
module _ (fs : List ℕ) (e : site_twice fs ≡ false) (ws : List ℕ) where
  pub graphs-held : {c : Counts} → Shape ws c → (x : List ℕ)
      → Each (λ f. (g : ℕ) → g < c.graphs → f / 2 ≡ c.nodes + g → value ws c (faulty fs) x g ≡ f % 2) fs
  unfolding graph
  graphs-held a x = each-then (λ f h g l q. value-solves a (faulty fs) x g l ∙ rw (← q) (h _)) fs (holds-each fs e)

  pub nodes-forced : (v : ℕ → ℕ) → Each (λ f. (g k : ℕ) → f / 2 ≡ first ws g + k → taken ws (faulty fs) v g k ≡ exits ws g k (f % 2)) fs
  nodes-forced v = each-then (λ f h g k q. rw (← q) (ap (exits ws g k) (h _))) fs (holds-each fs e)

-- two faults of one site are one fault, or the site's two
pub same-site : (f g : ℕ) → f / 2 ≡ g / 2 → (f ≡ g) ⊎ (f + g ≡ 4 * (f / 2) + 1)
same-site f g e = elim (ℕ_discrete f g) [ yes q ↦ inl q | no n ↦ inr (omega arith) ]
