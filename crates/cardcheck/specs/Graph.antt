-- What the parts of the check promise of one graph. A part is given what was due, a word or the end, and not the card: its promise is for every list of
-- words in which that is due. The check's own contract cites none of these. Assumes nothing.
use Rattle.std.specs.Prelude.{ℕ, ◌+◌, ◌-◌, ◌<◌, ◌≤◌, ◌≡◌, List, [], ◌∷◌, length, eqb, leb, Option, Some, None, Result, Ok, Err}
use Rattle.word32.specs.Fields.{kind, node_count}
use Rattle.reader.specs.Due.{Due, due_at}
use Rattle.answers.specs.Limits.{max_graphs, max_nodes}
use Rattle.answers.specs.declared.Counts.{Counts}
use Rattle.answers.specs.declared.Refusal.{Refusal}
use Rattle.answers.specs.Answers.{Verdict, Answer}
use Rattle.answers.specs.Tests.{test, unless, first_broken, and_then}
use Rattle.answers.specs.declared.Rule.TheVariants.{TooManyGraphs}
use Rattle.form.specs.Check.{word, card_length, with_graph, input_tests, header_verdict, nodes_verdict, graph_verdict, ended, rest}
use Rattle.layout.specs.Shape.{Shape}
use Rattle.nodecheck.specs.Table.{Blank, Names}
use Rattle.cardcheck.specs.declared.Header.{Header}

-- the counts of some graphs of a card are low
pub record Few (c : Counts) : Type 0 where
  pub inputs : c.inputs ≤ max_graphs
  pub graphs : c.graphs ≤ max_graphs
  pub nodes : c.nodes ≤ max_nodes
  pub observable : c.observable ≤ max_graphs

-- the verdict on any header w at p: no graph too many, an input's rules, and of what is no input the verdict v
unfoldable pub header_by : ℕ → ℕ → Counts → Verdict → Verdict
header_by w p c v =
    and_then (first_broken (test (leb max_graphs c.graphs) TooManyGraphs p ∷ []))
    (unless (eqb (kind w) 0) (first_broken (input_tests w p c)) v)

-- the answer where the words end, of every list of so many words
abbrev pub EndTold : ℕ → ℕ → Counts → Answer → Type 0
EndTold len extra c r = (ws : List ℕ) → len ≡ length ws → r ≡ ended ws extra c

-- a word that is due stands at the place due
abbrev pub DueAfter : Due → Counts → Type 0
DueAfter d c = (w at : ℕ) → d ≡ Ok (w, at) → at ≡ card_length c

-- a sound header opens a graph
abbrev pub header_of : ℕ → ℕ → Header
header_of w at = record { word = w; at = at; nodes = node_count w }

unfoldable pub opening_of : Verdict → ℕ → ℕ → Result Header Refusal
opening_of (Ok tt) w at = Ok (header_of w at)
opening_of (Err r) w at = Err r

-- the header h is that of the graph due after those that c counts, and it is sound
pub record Opened (ws : List ℕ) (c : Counts) (h : Header) : Type 0 where
  pub inside : card_length c < length ws
  pub header : h ≡ header_of (word ws (card_length c)) (card_length c)
  pub sound : header_verdict (word ws (card_length c)) c ≡ Ok tt

-- the answer of the check from the place due after the graphs that c counts
abbrev pub answer_from : List ℕ → ℕ → Counts → Answer
answer_from ws extra c = rest ws extra (max_graphs + 1 - c.graphs) c

-- a graph more, or the check is over: c is accepted, or it is refused
pub record OpeningTold (d : Due) (c : Counts) (extra : ℕ) (r : Result (Option Header) Refusal) : Type 0 where
  pub graph : (ws : List ℕ) → d ≡ due_at ws (card_length c) → (h : Header) → r ≡ Ok (Some h) → Opened ws c h
  pub over : (ws : List ℕ) → Shape ws c → d ≡ due_at ws (card_length c) → r ≡ Ok None → answer_from ws extra c ≡ Ok c
  pub stops : (ws : List ℕ) → Shape ws c → d ≡ due_at ws (card_length c) → (e : Refusal) → r ≡ Err e → answer_from ws extra c ≡ Err e

-- the nodes of that graph have the verdict v, and t is the table that they left
pub record NodesRead (ws : List ℕ) (c : Counts) (h : Header) (v : Verdict) (t : List ℕ) : Type 0 where
  pub opened : Opened ws c h
  pub verdict : v ≡ nodes_verdict ws c.graphs (card_length c) h.nodes h.nodes 0
  pub names : v ≡ Ok tt → Names ws (card_length c) h.nodes h.nodes t

-- where its nodes are sound: the counts with the graph, or its refusal
pub record GraphTold (h : Header) (c : Counts) (t t' : List ℕ) (r : Answer) : Type 0 where
  pub read : (ws : List ℕ) → NodesRead ws c h (Ok tt) t → (d : Counts) → r ≡ Ok d
      → (graph_verdict ws c ≡ Ok tt) × (d ≡ with_graph (word ws (card_length c)) c) × Blank t'
  pub stops : (ws : List ℕ) (extra : ℕ) → Shape ws c → NodesRead ws c h (Ok tt) t → (e : Refusal) → r ≡ Err e → answer_from ws extra c ≡ Err e
