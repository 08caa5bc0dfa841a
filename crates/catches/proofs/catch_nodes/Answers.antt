-- `catches::catch_nodes` meets its contract. Assumes nothing.
use mathlib.Core.Path.{sym, ◌∙◌}
use native.Mathlib.Omega.{arith}
use Rattle.catches.proofs.Words.{nodes-inside, nodes-cleared, along-quiet, along-start, along_then}
use Rattle.catches.proofs.Steps.{quiet-nodes}
use Rattle.catches.proofs.catch_nodes.Goals as goal

pub clear_nodes-requires : goal.clear_nodes-requires
clear_nodes-requires c =
    let n = nodes-inside c.requires.0 c.requires.2 in
    (omega (arith, c.requires.0.long, c.requires.2), n.0, omega (arith, n.1, c.requires.3))

pub returns-then-not-alters : goal.returns-then-not-alters
returns-then-not-alters c =
    λ x p a. quiet-nodes c.requires.0 p c.requires.2 (sym a ∙ c.if-not-alters.true) (nodes-cleared c.requires.0 c.requires.2 c.clear_nodes.ensures)

pub returns-then-g-c : goal.returns-then-g-c
returns-then-g-c c =
    λ x p a. along-quiet (nodes-cleared c.requires.0 c.requires.2 c.clear_nodes.ensures) (λ i b. absurd (omega (arith, (c.requires.0.shape.input _ c.if-g-c.true).1)))

pub returns : goal.returns
returns c =
    λ x p a.
    let s = nodes-cleared c.requires.0 c.requires.2 c.clear_nodes.ensures in
    along_then s (c.catch_path.ensures x p (sym a ∙ c.if-not-alters.false) (along-start s))
