-- `gatecheck::check_leads` meets its contract. The invariant: k leads are sound, and the verdict is that of the others. Assumes nothing.
use Prim.Native.Nat.{◌≤◌, ◌+◌, ◌-◌}
use mathlib.Core.Path.{◌≡◌}
use Rattle.gatelist.specs.Form.{leads_verdict}
use Rattle.gatecheck.proofs.check_leads.Given as goal

abbrev pub invariant-loop-k : goal.invariant-loop-k
invariant-loop-k l = (l.k ≤ l.n) × (leads_verdict l.gates l.line l.n l.p ≡ leads_verdict l.gates l.line (l.n - l.k) (l.p + l.k))
