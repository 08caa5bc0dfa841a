-- One turn of the check's loop, said of the definitions. Assumes nothing.
use Prim.Native.Nat.{ℕ, suc, ◌+◌, ◌-◌, ◌<◌, ◌≤◌}
use mathlib.Core.Path.{◌≡◌, refl, sym, ap, ◌∙◌}
use mathlib.Core.List.{List}
use mathlib.Core.Bool.{true, false}
use native.Mathlib.Omega.{arith}
use lib.ListN.{length}
use borrow.Author.Tests.{le-leb, lt-leb, lt-ltb, le-ltb}
use Rattle.word32.specs.Fields.{node_count}
use Rattle.answers.specs.declared.Counts.{Counts}
use Rattle.std.specs.Prelude.{Option, None, Some, Result, Ok, Err}
use Rattle.answers.specs.Answers.{Verdict, Answer, refused}
use Rattle.answers.specs.declared.Refusal.{Refusal}
use Rattle.answers.specs.declared.Rule.TheVariants.{CardTooLong, NodeNotNamed}
use Rattle.answers.proofs.Tests.{onward-accepts}
use Rattle.form.specs.Check.{counts, word, card_length, with_graph, header_verdict, unnamed, graph_verdict, ended, rest, checked_with}
use Rattle.layout.specs.Shape.{Shape}
use Rattle.cardcheck.specs.Graph.{header_of, opening_of, answer_from, NodesRead}
use Rattle.cardcheck.specs.declared.Header.{Header}

-- One graph, by the parts of its check: its header, its nodes, and whether each is named.
header-stops : (ws : List ℕ) (c : Counts) (r : Refusal) → header_verdict (word ws (card_length c)) c ≡ Err r → graph_verdict ws c ≡ Err r
unfolding graph_verdict
header-stops ws c r e = rw e

module _ {ws : List ℕ} {c : Counts} {h : Header} {v : Verdict} {t : List ℕ} (nr : NodesRead ws c h v t) where
  has : h.nodes ≡ node_count (word ws (card_length c))
  has = ap (λ (h : Header). h.nodes) nr.opened.header

  pub same_graph : with_graph h.word c ≡ with_graph (word ws (card_length c)) c
  same_graph = ap (λ (h : Header). with_graph h.word c) nr.opened.header

  pub nodes-stops : (r : Refusal) → v ≡ Err r → graph_verdict ws c ≡ Err r
  unfolding graph_verdict
  nodes-stops r e = rw (nr.opened.sound, ← has, ← nr.verdict, e)

  module _ (e : v ≡ Ok tt) where
    pub names-stop : unnamed ws (card_length c) h.nodes ≡ true → graph_verdict ws c ≡ Err (refused NodeNotNamed (card_length c))
    unfolding graph_verdict
    names-stop u = rw (nr.opened.sound, ← has, ← nr.verdict, e, u)

    pub graph-sound : unnamed ws (card_length c) h.nodes ≡ false → graph_verdict ws c ≡ Ok tt
    unfolding graph_verdict
    graph-sound u = rw (nr.opened.sound, ← has, ← nr.verdict, e, u)

-- what a part told ends the check with the answer a: no graph is due, and those that c counts are accepted; or the card is refused
abbrev pub IsOver : Counts → Result (Option Header) Refusal → Answer → Type 0
IsOver c (Ok None) a = a ≡ Ok c
IsOver c (Ok (Some h)) a = ⊥
IsOver c (Err r) a = a ≡ Err r

-- what a part hands back
pub same_over : (c : Counts) (r : Result (Option Header) Refusal) (a b : Answer) → IsOver c r a → IsOver c r b → a ≡ b
same_over c (Ok None) a b e q = e ∙ sym q
same_over c (Ok (Some h)) a b e q = absurd e
same_over c (Err r) a b e q = e ∙ sym q

pub same_end : (a b : Refusal) → ◌≡◌ {A = Answer} (Err a) (Err b) → a ≡ b
same_end a b e = cc

pub graph-opened : (v : Verdict) (w at : ℕ) (h : Header) → opening_of v w at ≡ Ok h → (v ≡ Ok tt) × (h ≡ header_of w at)
unfolding opening_of
graph-opened (Ok tt) w at h e = (refl, cc)
graph-opened (Err r) w at h e = let z : ◌≡◌ {A = ℕ} 0 1 = cc in absurd (omega arith)

pub header-broken : (v : Verdict) (w at : ℕ) (r : Refusal) → opening_of v w at ≡ Err r → v ≡ Err r
unfolding opening_of
header-broken (Ok tt) w at r e = let z : ◌≡◌ {A = ℕ} 0 1 = cc in absurd (omega arith)
header-broken (Err r') w at r e = cc

-- a card that is too long, and one that is not
module _ (ws : List ℕ) (extra : ℕ) where
  pub too_long : 9216 < length ws → checked_with ws extra ≡ Err (refused CardTooLong 0)
  unfolding checked_with
  too_long h = rw (lt-ltb _ _ h)

  pub not-long : length ws ≤ 9216 → checked_with ws extra ≡ rest ws extra 1025 (counts 0 0 0 0)
  unfolding checked_with
  not-long h = rw (le-ltb _ _ h)

-- the words end, and nothing is wrong: the graphs that are counted are accepted
pub ended-counts : (ws : List ℕ) (extra : ℕ) (c d : Counts) → ended ws extra c ≡ Ok d → ended ws extra c ≡ Ok c
ended-counts ws extra c d e = e ∙ sym (onward-accepts _ (Ok c) d e).1

-- the graphs from the place due on
module _ {ws : List ℕ} {c : Counts} (s : Shape ws c) (extra : ℕ) where
  more : 1025 - c.graphs ≡ suc (1025 - (c.graphs + 1))
  more = omega (arith, s.few-graphs)

  pub rest_end : length ws ≤ card_length c → rest ws extra (1025 - c.graphs) c ≡ ended ws extra c
  unfolding rest
  rest_end h = rw (more, le-leb _ _ h)

  module _ (h : card_length c < length ws) where
    pub rest-go : graph_verdict ws c ≡ Ok tt
        → rest ws extra (1025 - c.graphs) c ≡ rest ws extra (1025 - (c.graphs + 1)) (with_graph (word ws (card_length c)) c)
    unfolding rest
    rest-go e = rw (more, lt-leb _ _ h, e)

    pub rest-stop : (r : Refusal) → graph_verdict ws c ≡ Err r → answer_from ws extra c ≡ Err r
    unfolding rest
    rest-stop r e = rw (more, lt-leb _ _ h, e)

    -- a header that opens no graph ends the check
    pub header-over : (p : ℕ) (r : Refusal) → opening_of (header_verdict (word ws (card_length c)) c) (word ws (card_length c)) p ≡ Err r → answer_from ws extra c ≡ Err r
    header-over p r e = rest-stop r (header-stops ws c r (header-broken _ _ p r e))
