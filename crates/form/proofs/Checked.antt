-- What a sound graph and an accepting check tell of a card's words. Nothing above this file opens the check. Assumes nothing.
use Prim.Native.Nat.{ℕ, zero, suc, ◌+◌, ◌-◌, ◌*◌, ◌<◌, ◌≤◌}
use mathlib.Core.Path.{◌≡◌, refl, sym, ap, ◌∙◌}
use mathlib.Core.List.{List, [], ◌∷◌}
use mathlib.Core.Bool.{Bool, true, false}
use native.Mathlib.Omega.{arith}
use native.Mathlib.Numerals.{add-one}
use native.Mathlib.Decide.{ℕ_discrete, dec_le}
use lib.ListN.{length}
use lib.Dec.{ltb, eqb}
use borrow.Author.Tests.{ltb-false, eqb-false, le-leb, lt-leb}
use Rattle.lists.specs.Counting.{choose, count}
use Rattle.lists.proofs.Tests.{choose-bit}
use Rattle.lists.proofs.Counting.{count_next, count-le}
use Rattle.word32.specs.Fields.{kind, node_count, read_graph, exit_of}
use Rattle.answers.specs.declared.Rule.TheVariants.{WordNotDue, NothingObservable}
use Rattle.answers.specs.declared.Counts.{Counts}
use Rattle.std.specs.Prelude.{Ok}
use Rattle.answers.specs.Tests.{test, first_broken}
use Rattle.form.specs.Check.{counts, card_length, with_graph, header_verdict, word, read_verdict, exits_verdict, nodes_verdict, graph_verdict, ended, rest, long_tests, checked_with}
use Rattle.layout.specs.Layout.{first, header, is_input, observable, size, reads, exits}
use Rattle.layout.specs.Shape.{ReadsLower, ExitsLater, Shape, Accepts}
use Rattle.layout.proofs.Firsts.{first_next}
use Rattle.answers.proofs.Tests.{then-sound, all-passed, onward-accepts}
use Rattle.form.proofs.Verdicts.{header-sound, an-input, an-output, header-few, read_told, exits-sound, later-exits, nodes-sound}

-- The graph due after those that c counts. Its header w and its words are those that the layout names.
module _ (ws : List ℕ) (c : Counts) (s : Shape ws c) where
  abbrev w : ℕ
  w = word ws (card_length c)

  header_is : header ws c.graphs ≡ w
  header_is = ap (λ (n : ℕ). word ws (c.graphs + 2 * n)) s.nodes-in

  input-is : is_input ws c.graphs ≡ eqb (kind w) 0
  unfolding is_input
  input-is = ap (λ (n : ℕ). eqb (kind n) 0) header_is

  observable-is : observable ws c.graphs ≡ eqb (kind w) 2
  unfolding observable
  observable-is = ap (λ (n : ℕ). eqb (kind n) 2) header_is

  size_is : size ws c.graphs ≡ node_count w
  unfolding size
  size_is = ap node_count header_is

  reads-is : (k : ℕ) → reads ws c.graphs k ≡ read_graph (word ws (card_length c + 1 + 2 * k))
  unfolding reads
  reads-is k =
      let e : c.graphs + 1 + 2 * (first ws c.graphs + k) ≡ card_length c + 1 + 2 * k = omega (arith, s.nodes-in) in
      ap (λ (n : ℕ). read_graph (word ws n)) e

  exits-is : (k d : ℕ) → exits ws c.graphs k d ≡ exit_of (word ws (card_length c + 2 + 2 * k)) d
  unfolding exits
  exits-is k d =
      let e : c.graphs + 2 + 2 * (first ws c.graphs + k) ≡ card_length c + 2 + 2 * k = omega (arith, s.nodes-in) in
      ap (λ (n : ℕ). exit_of (word ws n) d) e

  -- what holds of the graphs so far and of the one due holds of all of them
  more : (P : ℕ → Type 0) → ((g : ℕ) → g < c.graphs → P g) → P c.graphs → (g : ℕ) → g < c.graphs + 1 → P g
  more P f q g h = elim (ℕ_discrete g c.graphs) [ yes e ↦ rw e q | no n ↦ f g (omega arith) ]

  module _ (fits : card_length c < length ws) (e : graph_verdict ws c ≡ Ok tt) where
    parts : (header_verdict w c ≡ Ok tt) × (nodes_verdict ws c.graphs (card_length c) (node_count w) (node_count w) 0 ≡ Ok tt)
    unfolding graph_verdict
    parts =
        let (h, e') = then-sound (header_verdict w c) _ e in
        (h, (then-sound (nodes_verdict ws c.graphs (card_length c) (node_count w) (node_count w) 0) _ e').0)

    node-sound : (k : ℕ) → k < node_count w
        → (read_verdict ws c.graphs (card_length c + 1 + 2 * k) ≡ Ok tt) × (exits_verdict ws (node_count w) k (card_length c + 2 + 2 * k) ≡ Ok tt)
    node-sound k l = nodes-sound ws c.graphs (card_length c) (node_count w) (node_count w) 0 parts.1 k (omega arith) (omega arith)

    -- the last node's exits stand inside the words
    fits_more : c.graphs + 1 + 2 * (c.nodes + node_count w) ≤ length ws
    fits_more = elim (ℕ_discrete (node_count w) 0) [
      | yes z ↦ omega arith
      | no n ↦
          let k = node_count w - 1 in
          omega (arith, (exits-sound ws (node_count w) k (card_length c + 2 + 2 * k) (node-sound k (omega arith)).1).0)
    ]

    -- an input comes before every output, so an input due means that all so far are inputs
    input-more : (b : Bool) → eqb (kind w) 0 ≡ b → (g : ℕ) → g < c.inputs + choose b 1 0 → (is_input ws g ≡ true) × (size ws g ≡ 0)
    input-more true z g h =
        let (all, none) = an-input w c parts.0 z in
        let l : g < c.graphs + 1 = omega (arith, s.inputs_in) in
        more (λ g. (is_input ws g ≡ true) × (size ws g ≡ 0)) (λ g l. s.input g (omega arith)) (input-is ∙ z, size_is ∙ none) g l
    input-more false z g h = s.input g (omega arith)

    output-more : (b : Bool) → eqb (kind w) 0 ≡ b → (g : ℕ) → g < c.graphs + 1 → c.inputs + choose b 1 0 ≤ g → (is_input ws g ≡ false) × (0 < size ws g)
    output-more true z g h l = absurd (omega (arith, (an-input w c parts.0 z).0))
    output-more false z g h l =
        more (λ g. c.inputs ≤ g → (is_input ws g ≡ false) × (0 < size ws g)) s.output
        (λ _. (input-is ∙ z, rw size_is (an-output w c parts.0 z).0)) g h (omega arith)

    pub graph-step : Shape ws (with_graph (word ws (card_length c)) c)
    graph-step = record {
      fits = fits_more;
      few-graphs = omega (arith, (header-sound w c parts.0).0);
      few-nodes = header-few w c s.few-nodes parts.0;
      all-faults = refl;
      nodes-in = rw add-one (omega (arith, first_next ws c.graphs, s.nodes-in, size_is));
      inputs_in = omega (arith, s.inputs_in, choose-bit (eqb (kind w) 0) 1 0 (omega arith) (omega arith));
      input = input-more (eqb (kind w) 0) refl;
      output = output-more (eqb (kind w) 0) refl;
      seen = rw (add-one, count_next, observable-is) (ap (◌+ choose (eqb (kind w) 2) 1 0) s.seen);
      reads-lower = more (ReadsLower ws) s.reads-lower (λ k l.
          rw (reads-is k) (read_told ws c.graphs (card_length c + 1 + 2 * k) (node-sound k (rw size_is at l)).0).lower);
      exits-later = more (ExitsLater ws) s.exits-later (λ k d l i z.
          rw size_is (later-exits ws (node_count w) k (card_length c + 2 + 2 * k) d l (node-sound k (rw size_is at i)).1 (sym (exits-is k d) ∙ z)));
    }

-- no graph is read
pub none_read : (ws : List ℕ) → Shape ws (counts 0 0 0 0)
unfolding first count
none_read ws = record {
  fits = omega arith;
  few-graphs = omega arith;
  few-nodes = omega arith;
  all-faults = refl;
  nodes-in = refl;
  inputs_in = omega arith;
  input = λ g l. absurd (omega arith);
  output = λ g l. absurd (omega arith);
  seen = refl;
  reads-lower = λ g l. absurd (omega arith);
  exits-later = λ g l. absurd (omega arith);
}

module _ {ws : List ℕ} {c : Counts} (s : Shape ws c) where
  pub few-observable : c.observable ≤ c.graphs
  few-observable = rw s.seen (count-le (observable ws) c.graphs)

  -- the first graph, were it an output, would read a graph below it
  has-input : 0 < c.graphs → 0 < c.inputs
  has-input h = elim (ℕ_discrete c.inputs 0) [
    | yes z ↦ absurd (omega (arith, s.reads-lower 0 h 0 (s.output 0 h (omega arith)).1))
    | no n ↦ omega arith
  ]

  -- the words end there
  ended-accepts : (extra : ℕ) (d : Counts) → length ws ≤ card_length c → ended ws extra c ≡ Ok d → Accepts ws d
  ended-accepts extra d l e =
      let last = test (ltb 0 extra) WordNotDue (length ws) ∷ test (eqb c.observable 0) NothingObservable (length ws) ∷ [] in
      let (v, a) = onward-accepts (first_broken last) (Ok c) d e in
      let some : 0 < c.observable = omega (arith, eqb-false c.observable 0 (all-passed last v).1.0) in
      let same : d ≡ c = cc in
      rw same (record { shape = s; long = omega (arith, s.fits); some-observable = some; some-input = has-input (omega (arith, few-observable)) })

-- the graphs from the place due on
module _ (ws : List ℕ) (extra : ℕ) (d : Counts) where
  rest-accepts : (left : ℕ) (c : Counts) → Shape ws c → rest ws extra left c ≡ Ok d → Accepts ws d
  unfolding rest
  rest-accepts zero c s e = let z : ◌≡◌ {A = ℕ} 0 1 = cc in absurd (omega arith)
  rest-accepts (suc left) c s e = elim (dec_le (length ws) (card_length c)) [
    | yes l ↦ ended-accepts s extra d l (rw (le-leb (length ws) (card_length c) l) at e)
    | no n ↦
        let l : card_length c < length ws = omega arith in
        let (v, e') = onward-accepts (graph_verdict ws c) _ d (rw (lt-leb (length ws) (card_length c) l) at e) in
        rest-accepts left (with_graph (word ws (card_length c)) c) (graph-step ws c s l v) e'
  ]

pub check-accepts : (ws : List ℕ) (extra : ℕ) (c : Counts) → checked_with ws extra ≡ Ok c → Accepts ws c
unfolding checked_with
check-accepts ws extra c e =
    rest-accepts ws extra c 1025 (counts 0 0 0 0) (none_read ws)
    (onward-accepts (first_broken (long_tests ws)) _ c e).1

-- an accepted card has some inputs, and not too many
pub some-inputs : {ws : List ℕ} {c : Counts} → Accepts ws c → (0 < c.inputs) × (c.inputs ≤ 1024)
some-inputs a = omega (arith, a.some-input, a.shape.inputs_in, a.shape.few-graphs)

-- a card that is accepted has no bytes after its words
ended-whole : (ws : List ℕ) (extra : ℕ) (c d : Counts) → ended ws extra c ≡ Ok d → extra ≡ 0
ended-whole ws extra c d e =
    let last = test (ltb 0 extra) WordNotDue (length ws) ∷ test (eqb c.observable 0) NothingObservable (length ws) ∷ [] in
    omega (arith, ltb-false 0 extra (all-passed last (onward-accepts (first_broken last) (Ok c) d e).0).0)

rest-whole : (ws : List ℕ) (extra : ℕ) (d : Counts) (left : ℕ) (c : Counts) → rest ws extra left c ≡ Ok d → extra ≡ 0
unfolding rest
rest-whole ws extra d zero c e = let z : ◌≡◌ {A = ℕ} 0 1 = cc in absurd (omega arith)
rest-whole ws extra d (suc left) c e = elim (dec_le (length ws) (card_length c)) [
  | yes l ↦ ended-whole ws extra c d (rw (le-leb (length ws) (card_length c) l) at e)
  | no n ↦
      let l : card_length c < length ws = omega arith in
      rest-whole ws extra d left (with_graph (word ws (card_length c)) c) (onward-accepts (graph_verdict ws c) _ d (rw (lt-leb (length ws) (card_length c) l) at e)).1
]

no-leftover : (ws : List ℕ) (extra : ℕ) (c : Counts) → checked_with ws extra ≡ Ok c → extra ≡ 0
unfolding checked_with
no-leftover ws extra c e =
    rest-whole ws extra c 1025 (counts 0 0 0 0) (onward-accepts (first_broken (long_tests ws)) _ c e).1

pub whole-accepted : (ws : List ℕ) (extra : ℕ) (c : Counts) → checked_with ws extra ≡ Ok c → checked_with ws 0 ≡ Ok c
whole-accepted ws extra c e = ap (checked_with ws) (sym (no-leftover ws extra c e)) ∙ e
