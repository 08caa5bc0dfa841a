-- `gatecheck::check_gate` meets its contract. Assumes nothing.
use Prim.Native.Nat.{◌+◌}
use native.Mathlib.Omega.{arith}
use borrow.Author.Tests.{lt-ltb, le-ltb, eq-eqb, ne_eqb}
use Rattle.gatecheck.proofs.check_gate.Goals as goal

pub returns-then-kind-gt2 : goal.returns-then-kind-gt2
returns-then-kind-gt2 c =
    rw (← c.kind.ensures, lt-ltb _ _ c.if-kind-gt2.true, c.requires.0)

pub returns-then-gate_spare-ne0 : goal.returns-then-gate_spare-ne0
returns-then-gate_spare-ne0 c =
    rw (
      ← c.kind.ensures,
      le-ltb _ _ c.if-kind-gt2.false,
      ← c.gate_spare.ensures,
      ne_eqb _ _ c.if-gate_spare-ne0.true,
      c.requires.0,
    )

pub returns-then-c-n-gt-MAX_NODES : goal.returns-then-c-n-gt-MAX_NODES
returns-then-c-n-gt-MAX_NODES c =
    rw (
      ← c.kind.ensures,
      le-ltb _ _ c.if-kind-gt2.false,
      ← c.gate_spare.ensures,
      eq-eqb _ _ c.if-gate_spare-ne0.false,
      ← c.node_count-n.ensures,
      lt-ltb 4096 (c.args.c.nodes + c.node_count-n.result) (omega (arith, c.if-c-n-gt-MAX_NODES.true)),
      c.requires.0,
    )

pub returns-then-is_wrong_gate : goal.returns-then-is_wrong_gate
returns-then-is_wrong_gate c =
    rw (
      ← c.kind.ensures,
      le-ltb _ _ c.if-kind-gt2.false,
      ← c.gate_spare.ensures,
      eq-eqb _ _ c.if-gate_spare-ne0.false,
      ← c.node_count-n.ensures,
      le-ltb 4096 (c.args.c.nodes + c.node_count-n.result) (omega (arith, c.if-c-n-gt-MAX_NODES.false)),
      ← c.is_wrong_gate.ensures,
      c.if-is_wrong_gate.true,
      c.requires.0,
    )

pub returns : goal.returns
returns c =
    rw (
      ← c.kind.ensures,
      le-ltb _ _ c.if-kind-gt2.false,
      ← c.gate_spare.ensures,
      eq-eqb _ _ c.if-gate_spare-ne0.false,
      ← c.node_count-n.ensures,
      le-ltb 4096 (c.args.c.nodes + c.node_count-n.result) (omega (arith, c.if-c-n-gt-MAX_NODES.false)),
      ← c.is_wrong_gate.ensures,
      c.if-is_wrong_gate.false,
    )
