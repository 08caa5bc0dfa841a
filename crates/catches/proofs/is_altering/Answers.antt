-- `catches::is_altering` meets its contract. Assumes nothing.
use mathlib.Core.Path.{refl, sym, ap, ◌∙◌}
use native.Mathlib.Omega.{arith}
use Prim.Native.Nat.{ℕ}
use lib.ListN.{get_or}
use Rattle.layout.proofs.Firsts.{node-below}
use Rattle.layout.proofs.NodeNumbers.{walkable}
use Rattle.cardtables.proofs.Stems.{sole-is}
use Rattle.rules.proofs.Faults.{critical-observable}
use Rattle.catches.proofs.Detections.{only-told, sole-tells}
use Rattle.catches.proofs.is_altering.Goals as goal

pub is_observable-requires : goal.is_observable-requires
is_observable-requires c =
    walkable c.requires.0.ready c.requires.2

pub returns-then-is_observable : goal.returns-then-is_observable
returns-then-is_observable c =
    λ x p s. (sym (critical-observable c.requires.0.ready.shape x _ c.requires.2 (sym c.is_observable.ensures ∙ c.if-is_observable.true)), s.flat)

pub get-requires : goal.get-requires
get-requires c =
    let b = only-told _ c.in-Some.ensures in
    let (h, k, o, q) = sole-is c.requires.0 c.args.g c.requires.2 b.0 b.1 in
    omega (arith, b.2, q, c.requires.5, node-below c.requires.0.ready.shape h k o.graph o.node)

pub returns-in-Some : goal.returns-in-Some
returns-in-Some c =
    let o = sym c.is_observable.ensures ∙ c.if-is_observable.false in
    let b = only-told _ c.in-Some.ensures in
    λ x p s. (sole-tells c.requires.0 c.requires.2 o refl (b.0, b.1) s.detections (c.get.ensures ∙ ap (λ (i : ℕ). get_or c.args.caught.now i 0) b.2), s.flat)

pub returns-in-None : goal.returns-in-None
returns-in-None c = λ x p s. c.is_critical.ensures x p s.flat
