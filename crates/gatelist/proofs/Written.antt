-- The words of the card of an accepted gate list: each line's graph stands at its place, with a node for each lead. Assumes nothing.
use Prim.Native.Nat.{ℕ, zero, suc, ◌+◌, ◌*◌, ◌^◌, ◌<◌, ◌≤◌}
use mathlib.Core.Path.{◌≡◌, refl, ap, ◌∙◌}
use mathlib.Core.List.{List}
use mathlib.Core.Bool.{Bool, true, false, ◌||◌}
use native.Mathlib.Omega.{arith}
use native.Mathlib.Nat.{add-zero}
use lib.ListN.{get_or}
use lib.Dec.{leb, eqb}
use Rattle.lists.specs.Counting.{choose}
use Rattle.lists.proofs.Chain.{chain-at, chain-pairs}
use Rattle.word32.specs.Fields.{kind, header_spare, node_count, read_graph, exits_spare, exit_of, lead_count, header_word, exits_word}
use Rattle.word32.proofs.Made.{header-fields, exits-fields, exits_one}
use Rattle.answers.specs.declared.Counts.{Counts}
use Rattle.layout.specs.Layout.{first, header, is_input, observable, size, reads, exits}
use Rattle.gatelist.specs.Lines.{first_lead, input_line, observable_line, function, leads, lead_word, named_line}
use Rattle.gatelist.specs.Lines as lines
use Rattle.gatelist.specs.Drawn.{controlling, constant, gate_exit, lead_nodes, line_words, drawn}
use Rattle.gatelist.specs.AcceptsGates.{AcceptsGates}
use Rattle.gatelist.specs.Same.{GraphOf}
use Rattle.gatelist.proofs.Lines.{lead-next, line-long, drawn-long, lead-few}
use Rattle.gatelist.proofs.Walk.{constant-bit}

-- an exit has room in its field
pub exit_small : (f n k d : ℕ) → k < 4096 → d < 2 → gate_exit f n k d < 2 ^ 14
unfolding gate_exit
exit_small f n k d h l = by (eqb d (controlling f) || leb n (k + 1))
  where
    by : (b : Bool) → choose b (constant f d) (k + 3) < 2 ^ 14
    by true = omega (arith, constant-bit f d l)
    by false = omega arith

module _ {gs : List ℕ} {c : Counts} (a : AcceptsGates gs c) where
  abbrev card : List ℕ
  card = drawn gs c.graphs

  -- Line l, its header's place and its words.
  module _ (l : ℕ) (h : l < c.graphs) where
    abbrev p : ℕ
    p = l + first_lead gs l

    abbrev w : ℕ
    w = lines.header gs l

    abbrev n : ℕ
    n = lead_count w

    drawn-at : (i : ℕ) → i < 1 + 2 * n → get_or card (l + 2 * first_lead gs l + i) 0 ≡ get_or (line_words gs p) i 0
    unfolding drawn
    drawn-at i m = rw (drawn-long gs l) at (chain-at (λ j. line_words gs (j + first_lead gs j)) c.graphs l i h (omega (arith, line-long gs p)))

    header-word : get_or card (l + 2 * first_lead gs l) 0 ≡ header_word (kind w) n
    unfolding line_words
    header-word = rw (add-zero (l + 2 * first_lead gs l)) at (drawn-at 0 (omega arith))

    node-word : (k i : ℕ) → k < n → i < 2 → get_or card (l + 2 * first_lead gs l + suc (2 * k + i)) 0 ≡ get_or (lead_nodes gs p w k) i 0
    unfolding line_words
    node-word k i m j =
        drawn-at (suc (2 * k + i)) (omega arith)
        ∙ (rw (chain-pairs (lead_nodes gs p w) (λ k. refl) k) at (chain-at (lead_nodes gs p w) n k i m j))

  -- where its nodes begin
  pub first-is : (l : ℕ) → l ≤ c.graphs → first card l ≡ first_lead gs l
  unfolding first first_lead
  first-is zero h = refl
  first-is (suc l) h =
      let e = first-is l (omega arith) in
      let k = header-fields (kind (lines.header gs l)) (lead_count (lines.header gs l)) (omega arith) in
      rw e (ap (λ (v : ℕ). first_lead gs l + node_count v) (header-word l (omega arith)) ∙ ap (λ (v : ℕ). first_lead gs l + v) k.2)

  module _ (l : ℕ) (h : l < c.graphs) where
    start : first card l ≡ first_lead gs l
    start = first-is l (omega arith)

    pub header_is : header card l ≡ header_word (kind (lines.header gs l)) (lead_count (lines.header gs l))
    header_is = rw start (header-word l h)

    -- the fields of its header
    pub fields : (kind (header card l) ≡ kind (lines.header gs l)) × (header_spare (header card l) ≡ 0) × (node_count (header card l) ≡ lead_count (lines.header gs l))
    fields = rw header_is (header-fields (kind (lines.header gs l)) (lead_count (lines.header gs l)) (omega arith))

    pub size_is : size card l ≡ leads gs l
    unfolding size leads
    size_is = fields.2

    -- the words of the node of lead k
    module _ (k : ℕ) (m : k < leads gs l) where
      pub read_word : get_or card (l + 1 + 2 * (first card l + k)) 0 ≡ lead_word gs l k
      unfolding leads
      read_word =
          let z : l + 2 * first_lead gs l + suc (2 * k + 0) ≡ l + 1 + 2 * (first_lead gs l + k) = omega arith in
          rw start (rw z at (node-word l h k 0 m (omega arith)))

      pub exits-word : get_or card (l + 2 + 2 * (first card l + k)) 0 ≡ exits_word (gate_exit (function gs l) (leads gs l) k 0) (gate_exit (function gs l) (leads gs l) k 1)
      unfolding leads function
      exits-word =
          let z : l + 2 * first_lead gs l + suc (2 * k + 1) ≡ l + 2 + 2 * (first_lead gs l + k) = omega arith in
          rw start (rw z at (node-word l h k 1 m (omega arith)))

      pub lead_low : k < 4096
      lead_low = omega (arith, lead-next gs l, lead-few a (suc l) h, a.few-leads)

      small : (d : ℕ) → d < 2 → gate_exit (function gs l) (leads gs l) k d < 2 ^ 14
      small d i = exit_small (function gs l) (leads gs l) k d lead_low i

      pub exits-told : (kind (exits_word (gate_exit (function gs l) (leads gs l) k 0) (gate_exit (function gs l) (leads gs l) k 1)) ≡ 4)
          × (exits_spare (exits_word (gate_exit (function gs l) (leads gs l) k 0) (gate_exit (function gs l) (leads gs l) k 1)) ≡ 0)
          × (exit_of (exits_word (gate_exit (function gs l) (leads gs l) k 0) (gate_exit (function gs l) (leads gs l) k 1)) 0 ≡ gate_exit (function gs l) (leads gs l) k 0)
      exits-told = exits-fields (gate_exit (function gs l) (leads gs l) k 0) (gate_exit (function gs l) (leads gs l) k 1) (small 0 (omega arith)) (small 1 (omega arith))

      pub exit-is : (d : ℕ) → d < 2 → exits card l k d ≡ gate_exit (function gs l) (leads gs l) k d
      unfolding exits
      exit-is zero i = ap (λ (v : ℕ). exit_of v 0) exits-word ∙ exits-told.2
      exit-is (suc zero) i = ap (λ (v : ℕ). exit_of v 1) exits-word ∙ exits_one _ _ 0 (small 1 (omega arith))
      exit-is (suc (suc d)) i = absurd (omega arith)

    -- GRAPH l IS LINE l
    pub graph-of : GraphOf gs c l
    unfolding is_input observable reads input_line observable_line named_line
    graph-of = record {
      input = ap (λ (v : ℕ). eqb v 0) fields.0;
      seen = ap (λ (v : ℕ). eqb v 2) fields.0;
      start = start;
      many = size_is;
      read = λ k m. ap read_graph (read_word k m);
    }
