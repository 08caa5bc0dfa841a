-- The position of a check's refusal is below 2 ^ 32: so it stands beside the rule's number in 64 bits, and can be counted on from another card's words.
-- Assumes nothing.
use Prim.Native.Nat.{ℕ, zero, suc, ◌+◌, ◌*◌, ◌≤◌}
use mathlib.Core.Path.{◌≡◌}
use mathlib.Core.List.{List, [], ◌∷◌}
use mathlib.Core.Bool.{Bool, true, false, not, ◌||◌}
use native.Mathlib.Omega.{arith}
use lib.ListN.{length}
use lib.Dec.{ltb, leb, eqb}
use borrow.Author.Tests.{ltb-false, leb-false}
use Rattle.word32.specs.Fields.{kind, read_spare, exits_spare, node_count, read_graph, exit_of}
use Rattle.answers.specs.declared.Rule.{Rule}
use Rattle.answers.specs.declared.Rule.TheVariants.{TooManyGraphs, WordNotDue, StrayBit, ReadNotBelow, ExitNotLater, NodeNotNamed, NothingObservable}
use Rattle.answers.specs.declared.Counts.{Counts}
use Rattle.std.specs.Prelude.{Ok, Err}
use Rattle.answers.specs.Answers.{Answer, stands_at}
use Rattle.answers.specs.declared.Refusal.{Refusal}
use Rattle.answers.specs.Tests.{test, unless, first_broken}
use Rattle.answers.proofs.Tests.{all-passed}
use Rattle.answers.proofs.Positions.{Low, LowAnswer, unless-low, tests-low, then-low, onward-low}
use Rattle.form.specs.Check.{due_tests, either, counts, card_length, with_graph, input_tests, output_tests, word, misplaced, header_verdict, read_verdict, exits_verdict, node_verdict, nodes_verdict, unnamed, graph_verdict, rest, long_tests, checked_with}

-- a card of at most n words: a refusal stands at n or before
module _ (n : ℕ) (ws : List ℕ) (short : length ws ≤ n) where
  pub due-low : (p k : ℕ) (a b : Bool) (r s : Rule) → Low n (first_broken (due_tests ws p k (test a r p ∷ test b s p ∷ [])))
  due-low p k a b r s =
      unless-low n (leb (length ws) p) _ _ short (λ e.
      let l : p ≤ n = omega (arith, leb-false (length ws) p e) in
      tests-low n (test (not (eqb (kind (word ws p)) k)) WordNotDue p ∷ test a r p ∷ test b s p ∷ []) (l, (l, (l, tt))))

  nodes-low : (g p m left k : ℕ) → Low n (nodes_verdict ws g p m left k)
  unfolding nodes_verdict node_verdict read_verdict exits_verdict
  nodes-low g p m zero k = tt
  nodes-low g p m (suc left) k =
      then-low n (node_verdict ws g p m k) (nodes_verdict ws g p m left (suc k))
      (then-low n (read_verdict ws g (p + 1 + 2 * k)) (exits_verdict ws m k (p + 2 + 2 * k))
      (due-low (p + 1 + 2 * k) 3 (not (eqb (read_spare (word ws (p + 1 + 2 * k))) 0)) (leb g (read_graph (word ws (p + 1 + 2 * k)))) StrayBit ReadNotBelow)
      (λ e. due-low (p + 2 + 2 * k) 4 (not (eqb (exits_spare (word ws (p + 2 + 2 * k))) 0))
      (misplaced m k (exit_of (word ws (p + 2 + 2 * k)) 0) || misplaced m k (exit_of (word ws (p + 2 + 2 * k)) 1)) StrayBit ExitNotLater))
      (λ e. nodes-low g p m left (suc k))

  header-low : (w : ℕ) (c : Counts) → card_length c ≤ n → Low n (header_verdict w c)
  unfolding header_verdict
  header-low w c h =
      let few = test (leb 1024 c.graphs) TooManyGraphs (card_length c) ∷ [] in
      then-low n (first_broken few) (unless (eqb (kind w) 0) (first_broken (input_tests w (card_length c) c)) (first_broken (output_tests w c))) (tests-low n few (h, tt))
      (λ e. unless-low n (eqb (kind w) 0) (first_broken (input_tests w (card_length c) c)) (first_broken (output_tests w c))
      (tests-low n (input_tests w (card_length c) c) (h, (h, tt))) (λ e. tests-low n (output_tests w c) (h, (h, (h, tt)))))

  graph-low : (c : Counts) → card_length c ≤ n → Low n (graph_verdict ws c)
  unfolding graph_verdict
  graph-low c h =
      then-low n (header_verdict (word ws (card_length c)) c) _ (header-low (word ws (card_length c)) c h)
      (λ e. then-low n (nodes_verdict ws c.graphs (card_length c) (node_count (word ws (card_length c))) (node_count (word ws (card_length c))) 0) _
      (nodes-low c.graphs (card_length c) (node_count (word ws (card_length c))) (node_count (word ws (card_length c))) 0)
      (λ e. tests-low n (test (unnamed ws (card_length c) (node_count (word ws (card_length c)))) NodeNotNamed (card_length c) ∷ []) (h, tt)))

  pub either-low : (b : Bool) (a a' : Answer) → LowAnswer n a → LowAnswer n a' → LowAnswer n (either ws b a a')
  either-low true a a' p q = p
  either-low false a a' p q = q

  -- one graph more moves the place on by less than 131,072 words
  rest-low : (extra left : ℕ) (c : Counts) → card_length c + left * 131072 ≤ n → LowAnswer n (rest ws extra left c)
  unfolding rest
  rest-low extra zero c h = omega arith
  rest-low extra (suc left) c h =
      let l : card_length c ≤ n = omega arith in
      let end = test (ltb 0 extra) WordNotDue (length ws) ∷ test (eqb c.observable 0) NothingObservable (length ws) ∷ [] in
      either-low (leb (length ws) (card_length c)) _ _
      (onward-low n (first_broken end) (Ok c) (tests-low n end (short, (short, tt))) (λ e. tt))
      (onward-low n (graph_verdict ws c) _ (graph-low c l)
      (λ e. rest-low extra left (with_graph (word ws (card_length c)) c) (omega arith)))

-- THE CHECK's positions: at most 134,348,800
check-within : (n : ℕ) → 134348800 ≤ n → (ws : List ℕ) (extra : ℕ) → LowAnswer n (checked_with ws extra)
unfolding checked_with
check-within n h ws extra =
    onward-low n (first_broken (long_tests ws)) _ (tests-low n (long_tests ws) (omega arith, tt)) (λ e.
    rest-low n ws (omega (arith, ltb-false _ (length ws) (all-passed (long_tests ws) e).0)) extra 1025 (counts 0 0 0 0) (omega arith))

pub check-low : (ws : List ℕ) (extra : ℕ) → LowAnswer 4294967295 (checked_with ws extra)
check-low ws extra = check-within 4294967295 (omega arith) ws extra

-- so it can be counted on from another card's words
pub check-position : (ws : List ℕ) (extra : ℕ) {r : Refusal} → checked_with ws extra ≡ Err r → stands_at r ≤ 134348800
check-position ws extra e = let q = rw e at (check-within 134348800 (omega arith) ws extra) in q
