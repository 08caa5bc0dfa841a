-- The position of a refusal of a gate list is below 2 ^ 32, so that it stands beside the rule's number in 64 bits. Assumes nothing.
use Prim.Native.Nat.{ℕ, zero, suc, ◌+◌, ◌*◌, ◌≤◌}
use mathlib.Core.List.{List, [], ◌∷◌}
use mathlib.Core.Bool.{not}
use native.Mathlib.Omega.{arith}
use lib.ListN.{length}
use lib.Dec.{ltb, leb, eqb}
use borrow.Author.Tests.{ltb-false}
use Rattle.word32.specs.Fields.{kind, lead_count, lead_spare, lead_line}
use Rattle.answers.specs.declared.Rule.TheVariants.{TooManyGraphs, WordNotDue, StrayBit, NothingObservable, LeadNotEarlier}
use Rattle.answers.specs.declared.Counts.{Counts}
use Rattle.std.specs.Prelude.{Ok}
use Rattle.answers.specs.Tests.{test, first_broken}
use Rattle.answers.proofs.Tests.{all-passed}
use Rattle.form.specs.Check.{counts, with_graph, input_tests, word, long_tests}
use Rattle.answers.proofs.Positions.{Low, LowAnswer, unless-low, tests-low, then-low, onward-low}
use Rattle.form.proofs.Positions.{due-low, either-low}
use Rattle.gatelist.specs.Form.{gate_list_length, gate_tests, header_verdict, lead_verdict, leads_verdict, line_verdict, rest, gates_checked_with}

-- a gate list of at most n words
module _ (n : ℕ) (gs : List ℕ) (short : length gs ≤ n) where
  leads-low : (l left p : ℕ) → Low n (leads_verdict gs l left p)
  unfolding leads_verdict lead_verdict
  leads-low l zero p = tt
  leads-low l (suc left) p =
      then-low n (lead_verdict gs l p) (leads_verdict gs l left (suc p))
      (due-low n gs short p 3 (not (eqb (lead_spare (word gs p)) 0)) (leb l (lead_line (word gs p))) StrayBit LeadNotEarlier)
      (λ e. leads-low l left (suc p))

  header-low : (w : ℕ) (c : Counts) → gate_list_length c ≤ n → Low n (header_verdict w c)
  unfolding header_verdict
  header-low w c h =
      let few = test (leb 1024 c.graphs) TooManyGraphs (gate_list_length c) ∷ [] in
      then-low n (first_broken few) _ (tests-low n few (h, tt)) (λ e.
      unless-low n (eqb (kind w) 0) (first_broken (input_tests w (gate_list_length c) c)) (first_broken (gate_tests w c))
      (tests-low n (input_tests w (gate_list_length c) c) (h, (h, tt))) (λ e. tests-low n (gate_tests w c) (h, (h, (h, (h, tt))))))

  line_low : (c : Counts) → gate_list_length c ≤ n → Low n (line_verdict gs c)
  unfolding line_verdict
  line_low c h =
      then-low n (header_verdict (word gs (gate_list_length c)) c) _ (header-low (word gs (gate_list_length c)) c h)
      (λ e. leads-low c.graphs (lead_count (word gs (gate_list_length c))) (suc (gate_list_length c)))

  -- one line more moves the place on by at most 65,536 words
  rest-low : (extra left : ℕ) (c : Counts) → gate_list_length c + left * 65536 ≤ n → LowAnswer n (rest gs extra left c)
  unfolding rest
  rest-low extra zero c h = omega arith
  rest-low extra (suc left) c h =
      let end = test (ltb 0 extra) WordNotDue (length gs) ∷ test (eqb c.observable 0) NothingObservable (length gs) ∷ [] in
      either-low n gs short (leb (length gs) (gate_list_length c)) _ _
      (onward-low n (first_broken end) (Ok c) (tests-low n end (short, (short, tt))) (λ e. tt))
      (onward-low n (line_verdict gs c) _ (line_low c (omega arith)) (λ e. rest-low extra left (with_graph (word gs (gate_list_length c)) c) (omega arith)))

-- THE CHECK's positions
pub gates-checked-low : (gs : List ℕ) (extra : ℕ) → LowAnswer 4294967295 (gates_checked_with gs extra)
unfolding gates_checked_with
gates-checked-low gs extra =
    onward-low 4294967295 (first_broken (long_tests gs)) _ (tests-low 4294967295 (long_tests gs) (omega arith, tt)) (λ e.
    rest-low 4294967295 gs (omega (arith, ltb-false _ (length gs) (all-passed (long_tests gs) e).0)) extra 1025 (counts 0 0 0 0) (omega arith))
