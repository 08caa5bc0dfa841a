-- `textlines::Text::put_faults` meets its contract. The invariant: the lines of the faults below f are put, in 28 bytes each at most. Assumes nothing.
use Rattle.std.proofs.Common.{◌≤◌, ◌+◌, ◌*◌, get_or}
use Rattle.textlines.specs.Text.{fault_lines}
use Rattle.textlines.specs.Puts.{Grew}
use Rattle.textlines.proofs.Text.put_faults.Given as goal

abbrev pub invariant-loop-f : goal.invariant-loop-f
invariant-loop-f l = record {
  few : l.self.at ≤ l.initial.self.at + 28 * l.f;
  put : Grew l.initial.self (fault_lines (λ f. get_or l.marks f 0) (λ f. get_or l.tallies f 0) l.f) l.self;
}
