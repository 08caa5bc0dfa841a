-- THE FAULTS of the parts of a joined card: with faults of A and of B in, it has the values of A with A's and of B with B's. Assumes nothing.
use Prim.Native.Nat.{ℕ, ◌+◌, ◌/◌, ◌%◌, ◌<◌, ◌≤◌}
use mathlib.Core.Path.{◌≡◌, refl, sym, ap, ◌∙◌}
use mathlib.Core.List.{List, [], ◌∷◌, ◌++◌, map}
use mathlib.Core.Bool.{true, false, true≢false}
use native.Mathlib.Omega.{arith}
use native.Mathlib.Decide.{ℕ_discrete}
use Rattle.lists.specs.Each.{Each}
use Rattle.lists.proofs.Each.{each-then, each_map, each_append}
use Rattle.answers.specs.declared.Counts.{Counts}
use Rattle.value.specs.Settings.{faulty}
use Rattle.value.proofs.Settings.{faulty-keeps, faulty-here, faulty-off, faulty-both, faulty-spares}
use Rattle.wiring.specs.Joined.{joined_counts}
use Rattle.wiring.specs.Parts.{fault_in, site_a, site_b, is_wired, fault_a, fault_b}
use Rattle.wiring.specs.Both.{FaultsA, FaultsB, both_faults, ValuesOfBoth}
use Rattle.wiring.proofs.Sites.{one-site-a, one-site-b, sites-apart, site-inside-a, site-inside-b}
use Rattle.wiring.proofs.Part.{Joins}
use Rattle.wiring.proofs.Values.{Shares, values-of-both}

-- a fault that is taken along holds its site, where that is put, at the value that it had
fault-site : (site : ℕ → ℕ) (f : ℕ) → fault_in site f / 2 ≡ site (f / 2)
fault-site site f = omega arith

fault-value : (site : ℕ → ℕ) (f : ℕ) → fault_in site f % 2 ≡ f % 2
fault-value site f = omega arith

-- faults that are taken along, at a site that is put where no other of theirs is: what they were there
faulty-moved : (site : ℕ → ℕ) (p v : ℕ) (fs : List ℕ) → Each (λ f. site (f / 2) ≡ site p → f / 2 ≡ p) fs
    → faulty (map (fault_in site) fs) (site p) v ≡ faulty fs p v
unfolding faulty
faulty-moved site p v [] e = refl
faulty-moved site p v (f ∷ fs) (one, e) = elim (ℕ_discrete (f / 2) p) [
  | yes q ↦
      faulty-here (fault_in site f) (map (fault_in site) fs) (site p) v (fault-site site f ∙ ap site q) ∙ fault-value site f
      ∙ sym (faulty-here f fs p v q)
  | no n ↦
      faulty-off (fault_in site f) (map (fault_in site) fs) (site p) v (λ q. n (one (sym (fault-site site f) ∙ q)))
      ∙ faulty-moved site p v fs e ∙ sym (faulty-off f fs p v n)
]

module _ {a b : List ℕ} {A B : Counts} {wires : List ℕ} (joins : Joins a b A B wires) where
  abbrev C : Counts
  C = joined_counts A B wires

  abbrev few : A.inputs ≤ A.graphs
  few = joins.part-a.own.inputs_in

  -- faults of A and of B are faults of the joined card
  fault-inside-a : (f : ℕ) → f < A.faults → fault_a A B wires f < C.faults
  fault-inside-a f l =
      let l : f / 2 < A.nodes + A.graphs = omega (arith, joins.part-a.own.all-faults) in
      omega (arith, site-inside-a A B wires few (f / 2) l)

  fault-inside-b : (f : ℕ) → f < B.faults → fault_b A B wires f < C.faults
  fault-inside-b f l =
      let l : f / 2 < B.nodes + B.graphs = omega (arith, joins.part-b.own.all-faults) in
      omega (arith, site-inside-b A B wires few joins.wired joins.part-b.own.inputs_in (f / 2) l)

  -- FAULTS OF BOTH TOGETHER: of A any, of B those at no wired input
  module _ (fs gs : List ℕ) (of-a : FaultsA A B wires fs) (of-b : FaultsB A B wires gs) where
    abbrev from-a : List ℕ
    from-a = map (fault_a A B wires) fs

    abbrev from-b : List ℕ
    from-b = map (fault_b A B wires) gs

    pub both-inside : Each (λ f. f < C.faults) (from-a ++ from-b)
    both-inside =
        each_append (λ f. f < C.faults) from-a from-b
        (each_map (λ f. f < C.faults) (fault_a A B wires) fault-inside-a fs of-a)
        (each_map (λ f. f < C.faults) (fault_b A B wires) (λ f h. fault-inside-b f h.0) gs of-b)

    -- what they make of A's sites and of B's
    faulty-a : (p v : ℕ) → p < A.nodes + A.graphs → faulty (from-a ++ from-b) (site_a A B wires p) v ≡ faulty fs p v
    faulty-a p v l =
        let q = site_a A B wires p in
        let none = each_map (λ f. f / 2 ≡ q → ⊥) (fault_b A B wires)
        (λ f h e. sites-apart A B wires few p (f / 2) l h.1 (sym e ∙ fault-site (site_b A B wires) f)) gs of-b in
        faulty-both from-a from-b q v ∙ ap (faulty from-a q) (faulty-spares from-b q v none)
        ∙ faulty-moved (site_a A B wires) p v fs (each-then (λ f h. one-site-a A B wires (f / 2) p) fs of-a)

    faulty-b : (p v : ℕ) → is_wired A B wires p ≡ false → faulty (from-a ++ from-b) (site_b A B wires p) v ≡ faulty gs p v
    faulty-b p v w =
        let q = site_b A B wires p in
        let none = each_map (λ f. f / 2 ≡ q → ⊥) (fault_a A B wires)
        (λ f h e.
        let l : f / 2 < A.nodes + A.graphs = omega (arith, joins.part-a.own.all-faults) in
        sites-apart A B wires few (f / 2) p l w (sym (fault-site (site_a A B wires) f) ∙ e)) fs of-a in
        faulty-both from-a from-b q v ∙ faulty-spares from-a q (faulty from-b q v) none
        ∙ faulty-moved (site_b A B wires) p v gs (each-then (λ f h. one-site-b A B wires few (f / 2) p h.1 w) gs of-b)

    faulty-wired : (p v : ℕ) → is_wired A B wires p ≡ true → faulty gs p v ≡ v
    faulty-wired p v e = faulty-spares gs p v (each-then (λ f h q. true≢false (sym e ∙ ap (is_wired A B wires) (sym q) ∙ h.1)) gs of-b)

    shared : Shares A B wires (faulty (from-a ++ from-b)) (faulty fs) (faulty gs)
    shared = record {
      a = λ p v l. sym (faulty-a p v l);
      b = λ p v l e. sym (faulty-b p v e);
      wired = λ p v l e. faulty-wired p v e;
      bits = faulty-keeps fs;
    }

    -- THE VALUES with them in
    pub joined-faults : ValuesOfBoth a b A B wires (faulty (both_faults A B wires fs gs)) (faulty fs) (faulty gs)
    joined-faults = values-of-both joins shared
