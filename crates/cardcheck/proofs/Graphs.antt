-- Where the loop over a card's graphs stands, and what a turn makes of it.
-- The invariant: the answer from the place due on is the answer from the start, the reader stands at the place due, the graphs read so far have the
-- shape of an accepted card, and the table is blank. Assumes nothing.
use Prim.Native.Nat.{ℕ, ◌+◌, ◌-◌, ◌<◌, ◌≤◌}
use mathlib.Core.Path.{◌≡◌, refl, sym, ap, ◌∙◌, subst}
use mathlib.Core.List.{List}
use native.Mathlib.Omega.{arith}
use Rattle.reader.specs.Due.{Due, due_at, after_at}
use Rattle.reader.proofs.Laws.{due-word, after-word}
use Rattle.answers.specs.declared.Counts.{Counts}
use Rattle.std.specs.Prelude.{Option, None, Some, Result, Ok, Err}
use Rattle.answers.specs.declared.Refusal.{Refusal}
use Rattle.answers.specs.Answers.{Verdict, Answer}
use Rattle.form.specs.Check.{counts, word, card_length, with_graph, graph_verdict, rest}
use Rattle.form.proofs.Verdicts.{header-few}
use Rattle.form.proofs.Checked.{few-observable, none_read, graph-step}
use Rattle.layout.specs.Shape.{Shape}
use Rattle.nodecheck.specs.Table.{Blank, NodesTold}
use Rattle.cardcheck.specs.Graph.{Few, DueAfter, Opened, answer_from, OpeningTold, NodesRead, GraphTold}
use Rattle.cardcheck.specs.declared.Header.{Header}
use Rattle.cardcheck.proofs.Turns.{IsOver, nodes-stops, rest-go, rest-stop}

-- the answer from the start
abbrev pub all : List ℕ → ℕ → Answer
all ws extra = rest ws extra 1025 (counts 0 0 0 0)

-- where the loop stands: the graphs that c counts are read, the reader is at p, and the table is tb
pub record Going (ws : List ℕ) (extra : ℕ) (c : Counts) (p : ℕ) (tb : List ℕ) : Type 0 where
  pub at : p ≡ card_length c
  pub shape : Shape ws c
  pub blanks : Blank tb
  pub same : answer_from ws extra c ≡ all ws extra

module _ (ws : List ℕ) (extra : ℕ) where
  pub begin : (t : List ℕ) → Blank t → Going ws extra (counts 0 0 0 0) 0 t
  begin t blank = record { at = refl; shape = none_read ws; blanks = blank; same = refl }

  pub few : {c : Counts} {p : ℕ} {tb : List ℕ} (i : Going ws extra c p tb) → Few c
  few i =
      let s = i.shape in
      record {
        inputs = omega (arith, s.inputs_in, s.few-graphs);
        graphs = s.few-graphs;
        nodes = s.few-nodes;
        observable = omega (arith, few-observable s, s.few-graphs);
      }

  -- what was due where the reader stands
  module _ {c : Counts} {p : ℕ} {tb : List ℕ} (i : Going ws extra c p tb) (d : Due) (ed : d ≡ due_at ws p) where
    pub here : d ≡ due_at ws (card_length c)
    here = ed ∙ ap (due_at ws) i.at

    pub may-open : (c.nodes ≤ 4096) × DueAfter d c
    may-open = (i.shape.few-nodes, λ w at e. (due-word ws (card_length c) w at (sym here ∙ e)).2)

    pub ends-now : (r : Result (Option Header) Refusal) → OpeningTold d c extra r → r ≡ Ok None → Ok c ≡ all ws extra
    ends-now r told e = sym (told.over ws i.shape here e) ∙ i.same

    pub stops-now : (r : Result (Option Header) Refusal) → OpeningTold d c extra r → (e : Refusal) → r ≡ Err e → Err e ≡ all ws extra
    stops-now r told e q = sym (told.stops ws i.shape here e q) ∙ i.same

    pub over-now : (r : Result (Option Header) Refusal) → OpeningTold d c extra r → (a : Answer) → IsOver c r a → a ≡ all ws extra
    over-now (Ok None) told a e = e ∙ ends-now _ told refl
    over-now (Err r) told a e = e ∙ stops-now _ told r refl
    over-now (Ok (Some h)) told a e = absurd e

  -- a graph was opened with the header h, and its nodes told r, with the reader then at m and the table zs
  module _ {c : Counts} {p : ℕ} {tb : List ℕ} (i : Going ws extra c p tb) (h : Header) (o : Opened ws c h) where
    pub few-nodes : h.nodes ≤ 4096
    few-nodes =
        let e : h.nodes ≡ _ = ap (λ (k : Header). k.nodes) o.header in
        omega (arith, e, header-few (word ws (card_length c)) c i.shape.few-nodes o.sound)

    pub next-at : after_at ws p ≡ card_length c + 1
    next-at = ap (after_at ws) i.at ∙ after-word ws (card_length c) o.inside

    module _ (r : Verdict) (m : ℕ) (zs : List ℕ) (er : NodesTold ws (after_at ws p - 1) c.graphs h.nodes zs m r) where
      pub told_at : NodesTold ws (card_length c) c.graphs h.nodes zs m r
      told_at =
          let e : after_at ws p - 1 ≡ card_length c = omega (arith, next-at) in
          subst (λ (k : ℕ). NodesTold ws k c.graphs h.nodes zs m r) e er

      pub nodes-read : NodesRead ws c h r zs
      nodes-read = record { opened = o; verdict = told_at.verdict; names = told_at.names }

      pub stops-then : (e : Refusal) → r ≡ Err e → Err e ≡ all ws extra
      stops-then e q = sym (rest-stop i.shape extra o.inside e (nodes-stops nodes-read e q)) ∙ i.same

    -- its nodes are sound
    module _ (m : ℕ) (zs : List ℕ) (er : NodesTold ws (after_at ws p - 1) c.graphs h.nodes zs m (Ok tt)) (t : List ℕ) (g : Answer) (told : GraphTold h c zs t g) where
      pub refused-then : (e : Refusal) → g ≡ Err e → Err e ≡ all ws extra
      refused-then e q = sym (told.stops ws extra i.shape (nodes-read (Ok tt) m zs er) e q) ∙ i.same

      module _ (c' : Counts) (e : g ≡ Ok c') where
        abbrev pub said : (graph_verdict ws c ≡ Ok tt) × (c' ≡ with_graph (word ws (card_length c)) c) × Blank t
        said = told.read ws (nodes-read (Ok tt) m zs er) c' e

        pub reached : m ≡ card_length c'
        reached =
            let n : h.nodes ≡ _ = ap (λ (k : Header). k.nodes) o.header in
            (told_at (Ok tt) m zs er).next refl ∙ rw said.1 (omega (arith, n))

        pub onward : Going ws extra c' m t
        onward = record {
          at = reached;
          shape = subst (Shape ws) (sym said.1) (graph-step ws c i.shape o.inside said.0);
          blanks = said.2;
          same = ap (λ (k : Counts). answer_from ws extra k) said.1 ∙ sym (rest-go i.shape extra o.inside said.0) ∙ i.same;
        }

        pub nearer : 1025 - c'.graphs < 1025 - c.graphs
        nearer = rw said.1 (omega (arith, i.shape.few-graphs))
