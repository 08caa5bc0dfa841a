-- THE TWO COLUMNS of a call that is done, by words or in bytes: a fault's tally is 0 exactly when its mark is C0000000, and the faults of a lead have the
-- words of those of its one reader. Assumes nothing.
use Prim.Native.Nat.{ℕ, ◌+◌, ◌*◌, ◌<◌}
use mathlib.Core.Path.{◌≡◌, sym, ap, ◌∙◌}
use mathlib.Core.Bool.{false}
use native.Mathlib.Omega.{arith}
use lib.ListN.{get_or}
use Rattle.lists.proofs.Tables.{tab-at}
use Rattle.answers.specs.declared.Counts.{Counts}
use Rattle.std.specs.Prelude.{Ok}
use Rattle.answers.specs.Calls.{Lent, Outcome}
use Rattle.answers.proofs.Calls.{Went, call-went}
use Rattle.testvectors.specs.Vectors.{list_verdict}
use Rattle.opening.specs.Opened.{opened_list}
use Rattle.opening.proofs.Laws.{lent-accepted}
use Rattle.cardtables.specs.Stems.{read_by, has_stem}
use Rattle.cardtables.proofs.Stems.{reads-graph}
use Rattle.rules.specs.Leads.{paired_exit}
use Rattle.rules.proofs.Leads.{paired-bit, lead-mark, lead-tally}
use Rattle.detect.specs.Grading.{mark, tally}
use Rattle.detect.proofs.Grading.{unmarked-exactly}
use Rattle.grade.specs.Calls.{grade_work, grade_outcome}

module _ (card v : Lent) (m t : ℕ) {n : ℕ} (done : (grade_outcome card v m t).reply ≡ Ok n) where
  pub went : Went (opened_list card v) (grade_work m t card.words v.words)
  went = call-went (opened_list card v) (grade_work m t card.words v.words) done

  -- the counts of its card
  abbrev pub counts : Counts
  counts = went.counted

  mark-left : (f : ℕ) → f < counts.faults → get_or (grade_outcome card v m t).words f 0 ≡ mark card.words counts v.words f
  mark-left f h = ap (λ (o : Outcome). get_or o.words f 0) went.came ∙ tab-at (mark card.words counts v.words) counts.faults f h

  tally-left : (f : ℕ) → f < counts.faults → get_or (grade_outcome card v m t).more f 0 ≡ tally card.words counts v.words f
  tally-left f h = ap (λ (o : Outcome). get_or o.more f 0) went.came ∙ tab-at (tally card.words counts v.words) counts.faults f h

  pub columns-agree : (f : ℕ) → f < counts.faults
      → (get_or (grade_outcome card v m t).more f 0 ≡ 0 → get_or (grade_outcome card v m t).words f 0 ≡ 0xC0000000)
      × (get_or (grade_outcome card v m t).words f 0 ≡ 0xC0000000 → get_or (grade_outcome card v m t).more f 0 ≡ 0)
  columns-agree f h =
      let u = unmarked-exactly card.words counts v.words f in
      (λ z. mark-left f h ∙ u.0 (sym (tally-left f h) ∙ z), λ z. tally-left f h ∙ u.1 (sym (mark-left f h) ∙ z))

  -- graph g has no stem, and node j reads it: the graph stuck at d and the node stuck at the exit that goes with it have equal words
  pub leads-agree : (g j d : ℕ) → has_stem card.words counts g ≡ false → j < counts.nodes → read_by card.words counts j ≡ g → d < 2
      → (get_or (grade_outcome card v m t).words (2 * (counts.nodes + g) + d) 0 ≡ get_or (grade_outcome card v m t).words (2 * j + paired_exit card.words counts j d) 0)
      × (get_or (grade_outcome card v m t).more (2 * (counts.nodes + g) + d) 0 ≡ get_or (grade_outcome card v m t).more (2 * j + paired_exit card.words counts j d) 0)
  leads-agree g j d s l r h =
      let a = (lent-accepted list_verdict card v went.accepted).shape in
      let p : 2 * (counts.nodes + g) + d < counts.faults = omega (arith, a.all-faults, r, reads-graph a j l) in
      let q : 2 * j + paired_exit card.words counts j d < counts.faults = omega (arith, a.all-faults, paired-bit card.words counts j d h) in
      (mark-left _ p ∙ lead-mark a s l r d h v.words ∙ sym (mark-left _ q), tally-left _ p ∙ lead-tally a s l r d h v.words ∙ sym (tally-left _ q))
