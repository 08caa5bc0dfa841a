-- What a row of a table of cases says: what the calls give, by the definitions that their contracts cite; and for a case and a grading, that the marking
-- rules of document 01 give the same. Assumes nothing.
use Rattle.std.specs.Prelude.{ℕ, ◌+◌, ◌-◌, ◌*◌, ◌/◌, ◌%◌, ◌≡◌, List, [], map, Bool, not, ◌&&◌, ◌||◌, length, ltb, leb, eqb, Ok}
use Rattle.lists.specs.Counting.{choose}
use Rattle.lists.specs.Tables.{at, tab, chosen}
use Rattle.answers.specs.declared.Counts.{Counts}
use Rattle.answers.specs.Calls.{whole, Outcome}
use Rattle.answers.specs.Told.{Told, refusal, reply_told}
use Rattle.form.specs.Check.{checked}
use Rattle.layout.specs.Layout.{first, stands_in}
use Rattle.cardtables.specs.Stems.{in_grade, total}
use Rattle.testvectors.specs.Vectors.{bit, vectors, vector}
use Rattle.plain.specs.Calls.{good_outcome, fault_outcome}
use Rattle.detect.specs.Detects.{detects}
use Rattle.detect.specs.Relation.{tally_of, mark_of, marked_of}
use Rattle.rules.specs.Rules.{listed, critical_node, marks_node, marks_graph}
use Rattle.changes.specs.Calls.{change_outcome, critical_outcome}
use Rattle.grade.specs.Calls.{grade_outcome}

-- a card under one vector: the graphs' values, the change list of each graph, the faults caught, and for each node 1 where it is critical, else 0
pub record Case : Type 0 where
  pub card : List ℕ
  pub counts : Counts
  pub under : List ℕ
  pub values : List ℕ
  pub changes : List (List ℕ)
  pub caught : List ℕ
  pub critical : List ℕ

-- a card under a list of vectors: the marked count, how many faults count in the grade and which do not, and for each fault its mark and its tally
pub record Grading : Type 0 where
  pub card : List ℕ
  pub counts : Counts
  pub under : List ℕ
  pub marked : ℕ
  pub total : ℕ
  pub left_out : List ℕ
  pub marks : List ℕ
  pub tallies : List ℕ

-- a card under one vector with the faults of a list in: the graphs' values
pub record Faulted : Type 0 where
  pub card : List ℕ
  pub counts : Counts
  pub under : List ℕ
  pub faults : List ℕ
  pub values : List ℕ

-- any call that is refused: what it comes to, and the refusal's number and position
pub record Refused : Type 0 where
  pub call : Outcome
  pub told : Told

-- one graph of a card under each of some vectors: what it computes from the bits of the inputs
pub record Function : Type 0 where
  pub card : List ℕ
  pub counts : Counts
  pub under : List (List ℕ)
  pub graph : ℕ
  pub computes : (ℕ → Bool) → Bool

-- A ROW is one of these
pub data Row : Type 0 where
  case : Case → Row
  grading : Grading → Row
  function : Function → Row
  faulted : Faulted → Row
  refused : Refused → Row

-- the numbers below n
abbrev pub numbers : ℕ → List ℕ
numbers n = tab (λ i. i) n

-- a word, 1 where the test holds, else 0
abbrev pub flag : Bool → ℕ
flag b = choose b 1 0

-- a call, refused by the rule of this number at the position
abbrev pub refused_as : Outcome → ℕ → ℕ → Row
refused_as call number position = refused (record { call = call; told = refusal number position })

-- a call that is done, tells the number and gives its buffers the words ws and vs
abbrev pub done_both : ℕ → List ℕ → List ℕ → Outcome
done_both number ws vs = record { reply = Ok number; words = ws; more = vs }

abbrev pub done : ℕ → List ℕ → Outcome
done number ws = done_both number ws []

-- the graph in which node j stands, and its local number there
module _ (ws : List ℕ) (c : Counts) where
  abbrev pub home : ℕ → ℕ
  home j = stands_in ws j c.graphs

  abbrev pub local : ℕ → ℕ
  local j = j - first ws (home j)

-- by the marking rules, under the vector x: the change list of graph g; node j is critical; fault f is marked, one below 2N a node's, else a graph's
module _ (ws : List ℕ) (c : Counts) (x : List ℕ) where
  abbrev pub by_rule2 : ℕ → List ℕ
  by_rule2 g = chosen (listed ws c x g) c.graphs

  abbrev pub by_rule4 : ℕ → Bool
  by_rule4 j = critical_node ws c x (home ws c j) (local ws c j)

  abbrev pub by_rule5 : ℕ → Bool
  by_rule5 f =
      (ltb f (2 * c.nodes) && marks_node ws c x (home ws c (f / 2)) (local ws c (f / 2)) (f % 2))
      || (leb (2 * c.nodes) f && marks_graph ws c x (f / 2 - c.nodes) (f % 2))

-- a case holds by the check, by the calls, by `detects`, and by rules 2, 4 and 5
abbrev pub CaseHolds : Case → Type 0
CaseHolds r =
    let ws = r.card in
    let c = r.counts in
    let x = r.under in
    let G = c.graphs in
    let N = c.nodes in
    (checked ws ≡ Ok c)
    × (good_outcome (whole ws) (whole x) G ≡ done 0 r.values)
    × (map (λ g. change_outcome (whole ws) (whole x) g G) (numbers G) ≡ map (λ l. done (length l) l) r.changes)
    × (critical_outcome (whole ws) (whole x) N ≡ done 0 r.critical)
    × (chosen (detects ws c x) c.faults ≡ r.caught)
    × (map (by_rule2 ws c x) (numbers G) ≡ r.changes)
    × (tab (λ j. flag (by_rule4 ws c x j)) N ≡ r.critical)
    × (chosen (by_rule5 ws c x) c.faults ≡ r.caught)

-- a grading holds by the check, by the call, by which faults count, and by rule 5 over its n vectors: the marked count, each mark and each tally
abbrev pub GradingHolds : Grading → Type 0
GradingHolds r =
    let ws = r.card in
    let c = r.counts in
    let xs = r.under in
    let F = c.faults in
    let n = vectors c.inputs xs in
    let marks : ℕ → ℕ → Bool = λ f t. by_rule5 ws c (vector c.inputs xs t) f in
    (checked ws ≡ Ok c)
    × (grade_outcome (whole ws) (whole xs) F (F + 1) ≡ done_both r.marked r.marks r.tallies)
    × (total ws c ≡ r.total)
    × (chosen (λ f. not (in_grade ws c f)) F ≡ r.left_out)
    × (marked_of marks (in_grade ws c) n F ≡ r.marked)
    × (tab (mark_of marks n) F ≡ r.marks)
    × (tab (tally_of marks n) F ≡ r.tallies)

-- a function holds by the check and by the call for good values
abbrev pub FunctionHolds : Function → Type 0
FunctionHolds r =
    let ws = r.card in
    let G = r.counts.graphs in
    (checked ws ≡ Ok r.counts)
    × (map (λ x. (good_outcome (whole ws) (whole x) G).reply) r.under ≡ map (λ x. Ok 0) r.under)
    × (map (λ x. at (good_outcome (whole ws) (whole x) G).words r.graph) r.under ≡ map (λ x. flag (r.computes (λ i. eqb (bit x i) 1))) r.under)

-- values with faults hold by the check and by the call, whose buffer has a word more than it needs
abbrev pub FaultedHolds : Faulted → Type 0
FaultedHolds r =
    let ws = r.card in
    let x = r.under in
    let n = r.counts.graphs + 1 in
    (checked ws ≡ Ok r.counts)
    × (fault_outcome (whole ws) (whole x) (whole r.faults) n ≡ done 0 r.values)

-- a refusal holds by the call, which gives its buffers no word
abbrev pub RefusedHolds : Refused → Type 0
RefusedHolds r = (reply_told r.call.reply ≡ r.told) × (r.call.words ≡ []) × (r.call.more ≡ [])

-- WHAT A ROW SAYS
abbrev pub Holds : Row → Type 0
Holds (case r) = CaseHolds r
Holds (grading r) = GradingHolds r
Holds (function r) = FunctionHolds r
Holds (faulted r) = FaultedHolds r
Holds (refused r) = RefusedHolds r
