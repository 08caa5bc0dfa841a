-- A CARD WITH NO INVERTED READ GRADES AS IT DID: all goes by the values, which are as they were, and by a node's decision, which is the value read. Assumes
-- nothing.
use Prim.Native.Nat.{ℕ, ◌+◌, ◌-◌, ◌*◌, ◌<◌}
use mathlib.Core.Path.{◌≡◌, refl, ap, ap₂, fun_ext, ◌∙◌}
use mathlib.Core.List.{List, [], ◌∷◌}
use native.Mathlib.Omega.{arith}
use Rattle.answers.specs.declared.Counts.{Counts}
use Rattle.layout.specs.Shape.{Shape}
use Rattle.layout.proofs.Stands.{owner}
use Rattle.cardtables.specs.Stems.{read_by, in_grade}
use Rattle.testvectors.specs.Vectors.{vectors, vector}
use Rattle.value.specs.Settings.{Setting, good, faulty}
use Rattle.value.specs.Values.{value}
use Rattle.value.specs.Direct.{Direct, direct_value}
use Rattle.value.proofs.Direct.{decision-direct, value-direct}
use Rattle.detect.specs.Detects.{observed, good_value, decision_of, detects, changes, critical_at}
use Rattle.detect.specs.Grading.{detected_by, tally, mark, marked}
use Rattle.detect.specs.Direct.{direct_detects, direct_opposite, direct_changes, direct_critical, direct_detected_by, AsBefore}
use Rattle.detect.proofs.Relation.{tally_of-same, mark_of-same, marked_of-same}

module _ {ws : List ℕ} {c : Counts} (a : Shape ws c) (direct : Direct ws c) where
  values-direct : (s : Setting) (x : List ℕ) → value ws c s x ≡ direct_value ws c s x
  values-direct s x = fun_ext (value-direct a direct s x)

  detects-direct : (x : List ℕ) (f : ℕ) → detects ws c x f ≡ direct_detects ws c x f
  unfolding detects
  detects-direct x f = ap₂ (observed ws c.graphs) (values-direct good x) (values-direct (faulty (f ∷ [])) x)

  changes-direct : (x : List ℕ) (g h : ℕ) → changes ws c x g h ≡ direct_changes ws c x g h
  unfolding changes
  changes-direct x g h =
      rw (values-direct good x, values-direct (faulty (direct_opposite ws c x g ∷ [])) x)

  decision-read : (x : List ℕ) (j : ℕ) → j < c.nodes → decision_of ws c x j ≡ direct_value ws c good x (read_by ws c j)
  unfolding read_by
  decision-read x j l =
      let o = owner ws c.graphs j (rw a.nodes-in l) in
      decision-direct a direct (good_value ws c x) _ _ o.0 (omega (arith, o.1, o.2)) ∙ value-direct a direct good x _

  critical-direct : (x : List ℕ) (j : ℕ) → j < c.nodes → critical_at ws c x j ≡ direct_critical ws c x j
  unfolding critical_at
  critical-direct x j l = detects-direct x _ ∙ ap (λ (d : ℕ). direct_detects ws c x (2 * j + (1 - d))) (decision-read x j l)

  pub direct-as-before : AsBefore ws c
  unfolding detected_by tally mark marked
  direct-as-before = record {
    values = value-direct a direct;
    caught = detects-direct;
    changed = changes-direct;
    critical = critical-direct;
    tallies = λ xs f. tally_of-same (detected_by ws c xs) (direct_detected_by ws c xs) (vectors c.inputs xs) f f (λ t l. detects-direct (vector c.inputs xs t) f);
    marks = λ xs f. mark_of-same (detected_by ws c xs) (direct_detected_by ws c xs) (vectors c.inputs xs) f f (λ t l. detects-direct (vector c.inputs xs t) f);
    counted = λ xs. marked_of-same _ _ (vectors c.inputs xs) (in_grade ws c) _ c.faults (λ f h. refl) (λ f t h l. detects-direct (vector c.inputs xs t) f);
  }
