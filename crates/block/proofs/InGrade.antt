-- The words of the sites as a part of the tables: they tell which faults count in the grade. Assumes nothing.
use Prim.Native.Nat.{ℕ, ◌+◌, ◌-◌, ◌/◌, ◌<◌, ◌≤◌}
use mathlib.Core.Path.{◌≡◌, ap, ◌∙◌}
use mathlib.Core.List.{List}
use native.Mathlib.Omega.{arith}
use lib.ListN.{length, get_or, take, drop, length-drop}
use lib.Seq.{length-take-le, get_or-take, get_or-drop}
use lib.Dec.{eqb}
use Rattle.lists.proofs.Tests.{choose-back}
use Rattle.answers.specs.declared.Counts.{Counts}
use Rattle.cardtables.specs.Stems.{site_in_grade, in_grade}
use Rattle.cardtables.specs.Tables.{grade_of, Tabled}
use Rattle.running.specs.Running.{in_grade_by}

module _ {ws t : List ℕ} {c : Counts} (y : Tabled ws c t) {n : ℕ} (e : n ≡ grade_of 0) where
  pub words_long : c.nodes + c.graphs ≤ length (take (length t - n) (drop n t))
  words_long =
      let a = y.ready.shape in
      omega (arith, y.long, a.few-nodes, a.few-graphs, length-drop n t, length-take-le (length t - n) (drop n t) (omega (arith, length-drop n t)))

  pub words_are : (f : ℕ) → f < c.faults → in_grade_by (take (length t - n) (drop n t)) f ≡ in_grade ws c f
  unfolding in_grade
  words_are f l =
      let a = y.ready.shape in
      let h : f / 2 < c.nodes + c.graphs = omega (arith, a.all-faults) in
      let q : n + f / 2 ≡ grade_of (f / 2) = omega arith in
      let w = get_or-take (length t - n) (drop n t) (f / 2) 0 (omega (arith, y.long, a.few-nodes, a.few-graphs)) ∙ get_or-drop n t (f / 2) 0 ∙ ap (λ (i : ℕ). get_or t i 0) q in
      ap (λ (r : ℕ). eqb r 1) (w ∙ y.sites (f / 2) h) ∙ choose-back (site_in_grade ws c (f / 2))
