-- A line has as many readers as its graph, so the same faults count in the grade. Assumes nothing.
use Prim.Native.Nat.{ℕ, zero, suc, ◌+◌, ◌-◌, ◌/◌, ◌<◌, ◌≤◌}
use mathlib.Core.Path.{◌≡◌, refl, sym, ap, ◌∙◌}
use mathlib.Core.List.{List}
use mathlib.Core.Bool.{Bool, true, false, ◌&&◌}
use native.Mathlib.Omega.{arith}
use native.Mathlib.Decide.{dec_lt}
use native.Mathlib.Numerals.{add-one}
use lib.ListN.{get_or}
use lib.Dec.{eqb}
use borrow.Author.Tests.{lt-ltb, le-ltb, eq-eqb, ne_eqb}
use Rattle.lists.specs.Counting.{count}
use Rattle.lists.proofs.Counting.{count-shifted, count_next}
use Rattle.word32.specs.Fields.{kind, lead_line}
use Rattle.answers.specs.declared.Counts.{Counts}
use Rattle.layout.specs.Shape.{Shape}
use Rattle.cardtables.specs.Stems.{read_by, readers, has_stem, site_in_grade, in_grade}
use Rattle.cardtables.proofs.Stems.{read-in}
use Rattle.form.proofs.Checked.{check-accepts}
use Rattle.gatelist.specs.Lines.{first_lead, header, input_line, leads, lead_word, named_line}
use Rattle.gatelist.specs.Gates.{line_readers, fault_counts}
use Rattle.gatelist.specs.Drawn.{drawn}
use Rattle.gatelist.specs.AcceptsGates.{AcceptsGates}
use Rattle.gatelist.specs.Same.{GraphOf}
use Rattle.gatelist.proofs.Lines.{lead-next}
use Rattle.gatelist.proofs.Written.{graph-of}
use Rattle.gatelist.proofs.Accepted.{no-leads, drawn-accepted}

module _ {gs : List ℕ} {c : Counts} (a : AcceptsGates gs c) where
  abbrev card : List ℕ
  card = drawn gs c.graphs

  abbrev accepts : Shape card c
  accepts = (check-accepts card 0 c (drawn-accepted a)).shape

  module _ (r : ℕ) where
    -- node j reads graph r; the word at p is a lead that names line r
    abbrev reads : ℕ → Bool
    reads j = eqb (read_by card c j) r

    abbrev names : ℕ → Bool
    names p = eqb (kind (get_or gs p 0)) 3 && eqb (lead_line (get_or gs p 0)) r

    -- of line l: its header is no lead, and its leads are the nodes of its graph
    module _ (l : ℕ) (h : l < c.graphs) where
      header-no-lead : names (l + first_lead gs l) ≡ false
      unfolding input_line
      header-no-lead = by (input_line gs l) refl
        where
          by : (b : Bool) → input_line gs l ≡ b → names (l + first_lead gs l) ≡ false
          by true z = rw (a.input l h z).0
          by false z = rw (ne_eqb (kind (header gs l)) 3 (λ e. omega (arith, (a.gate l h z).hidden-or-not)))

      lead-node : (k : ℕ) → k < leads gs l → reads (first_lead gs l + k) ≡ names (l + first_lead gs l + 1 + k)
      unfolding named_line
      lead-node k m = by (input_line gs l) refl
        where
          o : GraphOf gs c l
          o = graph-of a l h

          node : read_by card c (first_lead gs l + k) ≡ named_line gs l k
          node = rw o.start at (read-in accepts l h k (rw o.many m)) ∙ o.read k m

          by : (b : Bool) → input_line gs l ≡ b → reads (first_lead gs l + k) ≡ names (l + first_lead gs l + 1 + k)
          by true z = absurd (omega (arith, no-leads a l h z))
          by false z = ap (λ (v : ℕ). eqb v r) node ∙ sym (rw (eq-eqb (kind (lead_word gs l k)) 3 ((a.gate l h z).lead k m).0))

    same-readers : (l : ℕ) → l ≤ c.graphs → count reads (first_lead gs l) ≡ count names (l + first_lead gs l)
    unfolding first_lead count
    same-readers zero h = refl
    same-readers (suc l) h =
        let b = l + first_lead gs l in
        let e = same-readers l (omega arith) in
        let z : b + 1 + leads gs l ≡ suc l + first_lead gs (suc l) = omega (arith, lead-next gs l) in
        let s = count-shifted reads names (first_lead gs l) (b + 1) (leads gs l) (lead-node l (omega arith)) in
        let n : count names (b + 1) ≡ count names b = rw add-one (count_next names b ∙ rw (header-no-lead l (omega arith)) (omega arith)) in
        rw (← z, lead-next gs l) (omega arith)

    readers-are : readers card c r ≡ line_readers gs c r
    unfolding readers line_readers
    readers-are = rw a.leads-in at (same-readers c.graphs (omega arith))

  -- THE SAME FAULTS COUNT
  pub drawn-counts : (f : ℕ) → f < c.faults → in_grade card c f ≡ fault_counts gs c f
  unfolding in_grade site_in_grade has_stem fault_counts
  drawn-counts f l = elim (dec_lt (f / 2) c.nodes) [
    | yes m ↦ rw (lt-ltb (f / 2) c.nodes m)
    | no m ↦
        let i : f / 2 - c.nodes < c.graphs = omega (arith, accepts.all-faults) in
        rw (le-ltb (f / 2) c.nodes (omega arith), (graph-of a (f / 2 - c.nodes) i).seen, readers-are (f / 2 - c.nodes))
  ]
