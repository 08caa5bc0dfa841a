-- THE GRAPHS HAVE THE GATES' VALUES, with every setting that gives bits: each graph gives what its line gives, so its values are those of the lines.
-- Assumes nothing.
use Prim.Native.Nat.{ℕ, ◌+◌, ◌<◌}
use mathlib.Core.Path.{◌≡◌, refl, sym, ap, ◌∙◌}
use mathlib.Core.List.{List}
use mathlib.Core.Bool.{Bool, true, false}
use Rattle.lists.specs.Counting.{choose}
use Rattle.lists.proofs.Net.{Lower, Same, unique, grow-solves}
use Rattle.answers.specs.declared.Counts.{Counts}
use Rattle.layout.specs.Layout.{size, decision}
use Rattle.layout.specs.Shape.{Shape}
use Rattle.form.proofs.Checked.{check-accepts}
use Rattle.testvectors.specs.Vectors.{bit}
use Rattle.value.specs.Settings.{Setting, Keeps}
use Rattle.value.specs.Values.{walk, taken, graph, value}
use Rattle.value.proofs.Values.{value-solves, value-bit}
use Rattle.value.proofs.Direct.{decision-direct}
use Rattle.gatelist.specs.Lines.{input_line, function, leads, named_line}
use Rattle.gatelist.specs.Gates.{gate, lead_value, line, line_value}
use Rattle.gatelist.specs.Drawn.{gate_exit, drawn}
use Rattle.gatelist.specs.AcceptsGates.{Gate, AcceptsGates}
use Rattle.gatelist.proofs.Walk.{gate-right, walk-decided, gate-decided}
use Rattle.gatelist.proofs.Leads.{line-by, lead-bit}
use Rattle.gatelist.proofs.Written.{size_is, exit-is, graph-of}
use Rattle.gatelist.proofs.Accepted.{drawn-accepted, drawn-direct}

module _ {gs : List ℕ} {c : Counts} (a : AcceptsGates gs c) where
  abbrev card : List ℕ
  card = drawn gs c.graphs

  abbrev shape : Shape card c
  shape = (check-accepts card 0 c (drawn-accepted a)).shape

  module _ (s : Setting) (x : List ℕ) where
    line-lower : Lower c.graphs (line gs c.nodes s x)
    unfolding line
    line-lower v w l h same = ap (s (c.nodes + l)) (line-by a s x v w l h same (input_line gs l) refl)

    -- A GATE'S GRAPH GIVES THE GATE'S VALUE where the lines have bits
    module _ (keeps : Keeps s) (v : ℕ → ℕ) (bits : (l : ℕ) → l < c.graphs → v l < 2) (l : ℕ) (h : l < c.graphs) where
      module _ (g : Gate gs l) where
        takes : (k : ℕ) → k < leads gs l → taken card s v l k ≡ gate_exit (function gs l) (leads gs l) k (lead_value gs s v l k)
        takes k m =
            let o = graph-of a l h in
            let d : decision card v l k ≡ v (named_line gs l k) =
            decision-direct shape (drawn-direct a) v l k h (rw o.many m) ∙ ap v (o.read k m) in
            rw (o.start, d) (exit-is a l h k m (lead_value gs s v l k) (lead-bit g keeps v c.graphs bits h k m))

        walk-gate : walk (taken card s v l) (leads gs l) 0 ≡ gate (function gs l) (leads gs l) (lead_value gs s v l)
        walk-gate =
            walk-decided (function gs l) (leads gs l) (lead_value gs s v l) (taken card s v l) (lead-bit g keeps v c.graphs bits h) takes
            (gate-right (function gs l) (leads gs l) g.right).1
            ∙ sym (gate-decided (function gs l) (leads gs l) (lead_value gs s v l) g.right (lead-bit g keeps v c.graphs bits h))

      by : (b : Bool) → input_line gs l ≡ b
          → choose b (bit x l) (walk (taken card s v l) (size card l) 0) ≡ choose b (bit x l) (gate (function gs l) (leads gs l) (lead_value gs s v l))
      by true z = refl
      by false z = rw (size_is a l h) (walk-gate (a.gate l h z))

      graph_line : graph card c.nodes s x v l ≡ line gs c.nodes s x v l
      unfolding graph line
      graph_line = rw (graph-of a l h).input (ap (s (c.nodes + l)) (by (input_line gs l) refl))

    -- THE VALUES
    pub drawn-value : Keeps s → Same c.graphs (value card c s x) (line_value gs c s x)
    unfolding line_value
    drawn-value keeps =
        unique c.graphs (line gs c.nodes s x) line-lower (value card c s x) (line_value gs c s x)
        (λ l h. value-solves shape s x l h ∙ graph_line keeps (value card c s x) (value-bit shape s x keeps) l h)
        (grow-solves (line gs c.nodes s x) c.graphs line-lower)
