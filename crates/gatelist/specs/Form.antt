-- What the check of a gate list answers: its counts, or the first rule that it breaks, and where. Document 02, 'Gate lists above the engine'; each test
-- stands beside its rule, in the document's order. Lines are counted as graphs, leads as nodes. Assumes nothing.
use Prim.Native.Nat.{ℕ, zero, suc, ◌+◌}
use Rattle.std.specs.Prelude.{List, [], ◌∷◌, Bool, not, ◌&&◌, ◌||◌, length, ltb, leb, eqb, Ok, Err}
use Rattle.word32.specs.Fields.{kind, gate_function, gate_spare, lead_count, lead_spare, lead_line}
use Rattle.answers.specs.Limits.{max_graphs, max_nodes}
use Rattle.answers.specs.declared.Rule.TheVariants.{TooManyGraphs, NodeCount, WordNotDue, StrayBit, GateForm, LeadNotEarlier}
use Rattle.answers.specs.declared.Counts.{Counts}
use Rattle.answers.specs.Answers.{Verdict, Answer, refused}
use Rattle.answers.specs.Tests.{Test, test, unless, first_broken, and_then, onward}
use Rattle.form.specs.Check.{counts, with_graph, input_tests, word, due_tests, ended, either, long_tests}

-- how many words the lines that c counts have, and so the place due after them: each has a header, and each lead a word
abbrev pub gate_list_length : Counts → ℕ
gate_list_length c = c.graphs + c.nodes

-- there is no gate of function f with n leads: f is 0 to 5, and n at least 1, of NOT (4) and BUF (5) exactly 1
unfoldable pub wrong_gate : ℕ → ℕ → Bool
wrong_gate f n = ltb 5 f || (eqb n 0 || (leb 4 f && not (eqb n 1)))

-- the tests of a gate's header w, and of any
abbrev pub gate_tests : ℕ → Counts → List Test
gate_tests w c =
    test (ltb 2 (kind w)) WordNotDue (gate_list_length c)
    ∷ test (not (eqb (gate_spare w) 0)) StrayBit (gate_list_length c)
    ∷ test (ltb max_nodes (c.nodes + lead_count w)) NodeCount (gate_list_length c)
    ∷ test (wrong_gate (gate_function w) (lead_count w)) GateForm (gate_list_length c)
    ∷ []

unfoldable pub header_verdict : ℕ → Counts → Verdict
unfolding wrong_gate
header_verdict w c =
    and_then (first_broken (test (leb max_graphs c.graphs) TooManyGraphs (gate_list_length c) ∷ []))
    (unless (eqb (kind w) 0) (first_broken (input_tests w (gate_list_length c) c)) (first_broken (gate_tests w c)))

module _ (gs : List ℕ) where
  -- the word at p is a lead of line l, and names an earlier line
  unfoldable pub lead_verdict : ℕ → ℕ → Verdict
  lead_verdict l p =
      first_broken
      (due_tests gs p 3
      (test (not (eqb (lead_spare (word gs p)) 0)) StrayBit p
      ∷ test (leb l (lead_line (word gs p))) LeadNotEarlier p
      ∷ []))

  -- `left` leads of line l, from p on
  unfoldable pub leads_verdict : ℕ → ℕ → ℕ → Verdict
  unfolding lead_verdict
  leads_verdict l zero p = Ok tt
  leads_verdict l (suc left) p = and_then (lead_verdict l p) (leads_verdict l left (suc p))

  -- the line whose header stands at the place due; an input has no leads
  unfoldable pub line_verdict : Counts → Verdict
  unfolding header_verdict leads_verdict
  line_verdict c = and_then (header_verdict (word gs (gate_list_length c)) c) (leads_verdict c.graphs (lead_count (word gs (gate_list_length c))) (suc (gate_list_length c)))

  -- the lines from the place due on; the number bounds those to come, and 1,024 lines at most are read
  unfoldable pub rest : ℕ → ℕ → Counts → Answer
  unfolding line_verdict
  rest extra zero c = Err (refused TooManyGraphs (gate_list_length c))
  rest extra (suc left) c =
      either gs (leb (length gs) (gate_list_length c)) (ended gs extra c)
      (onward (line_verdict c) (rest extra left (with_graph (word gs (gate_list_length c)) c)))

  -- THE CHECK of a gate list of these words and `extra` bytes more: 9,216 words at most, as of a card
  unfoldable pub gates_checked_with : ℕ → Answer
  unfolding rest
  gates_checked_with extra = onward (first_broken (long_tests gs)) (rest extra (max_graphs + 1) (counts 0 0 0 0))
