-- `gatecheck::check_lead` meets its contract. Assumes nothing.
use native.Mathlib.Omega.{arith}
use borrow.Author.Tests.{le-leb, lt-leb, eq-eqb, ne_eqb}
use Rattle.gatelist.specs.Form.{lead_verdict}
use Rattle.gatecheck.proofs.check_lead.Goals as goal

pub returns-then-gates-p : goal.returns-then-gates-p
unfolding lead_verdict
returns-then-gates-p c = rw (le-leb _ _ c.if-gates-p.true)

pub returns-then-not-is_kind : goal.returns-then-not-is_kind
unfolding lead_verdict
returns-then-not-is_kind c =
    rw (lt-leb _ _ c.if-gates-p.false, ← c.get-w.ensures, ← c.is_kind.ensures, c.if-not-is_kind.true)

pub returns-then-header_spare-ne0 : goal.returns-then-header_spare-ne0
unfolding lead_verdict
returns-then-header_spare-ne0 c =
    rw (
      lt-leb _ _ c.if-gates-p.false,
      ← c.get-w.ensures,
      ← c.is_kind.ensures,
      c.if-not-is_kind.false,
      ← c.header_spare.ensures,
      ne_eqb _ _ c.if-header_spare-ne0.true,
    )

pub returns-then-line-read_graph : goal.returns-then-line-read_graph
unfolding lead_verdict
returns-then-line-read_graph c =
    rw (
      lt-leb _ _ c.if-gates-p.false,
      ← c.get-w.ensures,
      ← c.is_kind.ensures,
      c.if-not-is_kind.false,
      ← c.header_spare.ensures,
      eq-eqb _ _ c.if-header_spare-ne0.false,
      ← c.read_graph.ensures,
      le-leb c.args.line c.read_graph.result (omega (arith, c.if-line-read_graph.true)),
    )

pub returns : goal.returns
unfolding lead_verdict
returns c =
    rw (
      lt-leb _ _ c.if-gates-p.false,
      ← c.get-w.ensures,
      ← c.is_kind.ensures,
      c.if-not-is_kind.false,
      ← c.header_spare.ensures,
      eq-eqb _ _ c.if-header_spare-ne0.false,
      ← c.read_graph.ensures,
      lt-leb _ _ c.if-line-read_graph.false,
    )
